use Rattle.wasm2js_translation.specs.Delays as delays
use Rattle.wasm2js_terms.specs.Waits.{delays_view}
use Rattle.wasm2js_terms.proofs.Waiting.{held_among}
use Rattle.wasm2js_operands.specs.Operands.{over}
use Rattle.wasm2js_bodies.proofs.waiting.keep_standing.Goals as goal

pub returns-clause-waits : goal.returns-clause-waits
returns-clause-waits c =
    held_among (λ d. delays.stands c.args.base (over c.args.base c.args.types.now.items) d.name) (delays_view c.args.text.now.waits.items) (delays_view c.keep_lights.new.waits.items)
    c.args.text.now.held c.held_standing-text.result c.keep_lights.ensures c.held_standing-text.ensures
