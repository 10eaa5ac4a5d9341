use Rattle.std.specs.Prelude.{not}
use Rattle.wasm2js_translation.specs.Names.{same_name}
use Rattle.wasm2js_translation.specs.Delays as delays
use Rattle.wasm2js_nodes.specs.Names.{name_view}
use Rattle.wasm2js_terms.specs.Waits.{delays_view}
use Rattle.wasm2js_terms.proofs.Waiting.{held_among}
use Rattle.wasm2js_build.proofs.straight.LateBlock.take_out.Goals as goal

pub returns-clause-waits : goal.returns-clause-waits
returns-clause-waits c =
    held_among (λ (d : delays.Delayed). not (same_name d.name (name_view c.args.name))) (delays_view c.args.self.now.waits.items) (delays_view c.drop_name.new.waits.items)
    c.args.self.now.held c.held_without-self.result c.drop_name.ensures c.held_without-self.ensures
