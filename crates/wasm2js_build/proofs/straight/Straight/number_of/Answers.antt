use Rattle.std.proofs.Common.{ap, ◌∙◌}
use Rattle.wasm2js_nodes.specs.Names.{name_view}
use Rattle.wasm2js_translation.specs.Delays.{number_at}
use Rattle.wasm2js_terms.specs.Waits.{delays_view}
use Rattle.wasm2js_build.proofs.Holding.{number_is}
use Rattle.wasm2js_build.proofs.straight.Straight.number_of.Goals as goal

pub returns : goal.returns
returns c =
    c.number_at.ensures ∙ ap (λ ws. number_at (delays_view ws) (name_view c.args.name)) c.deref.ensures.value
    ∙ number_is c.args.self.now.text.waits.items c.args.self.now.held (name_view c.args.name)
