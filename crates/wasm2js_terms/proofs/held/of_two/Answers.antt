use Rattle.std.proofs.Common.{sym, ap, ◌∙◌}
use Rattle.wasm2js_nodes.specs.Names.{name_view}
use Rattle.wasm2js_translation.specs.Words.{Term}
use Rattle.wasm2js_translation.specs.Delays.{replaced}
use Rattle.wasm2js_terms.specs.Views.{term_view}
use Rattle.wasm2js_terms.specs.Waits.{delays_view}
use Rattle.wasm2js_terms.specs.Held.{only_of_two}
use Rattle.wasm2js_terms.proofs.Views.{term_view-Read}
use Rattle.wasm2js_terms.proofs.Two.{no_two}
use Rattle.wasm2js_terms.proofs.held.of_two.Goals as goal

pub returns-in-Read : goal.returns-in-Read
returns-in-Read c =
    no_two c.args.waits.now (name_view c.in-Read.field-0)
    ∙ ap (λ (u : Term). only_of_two (replaced (delays_view c.args.waits.now) u)) (sym (ap term_view c.in-Read.is ∙ term_view-Read c.in-Read.field-0))
