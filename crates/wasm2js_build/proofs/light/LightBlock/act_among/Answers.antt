use Rattle.std.proofs.Common.{List, [], ◌∷◌, ◌++◌, Some, ap, ◌∙◌}
use Rattle.std.specs.Prelude.{option_map}
use Rattle.wasm2js_translation.specs.Delays.{Delayed}
use Rattle.wasm2js_terms.specs.Waits.{delays_view}
use Rattle.wasm2js_terms.specs.Held.{held_view, newest_view}
use Rattle.wasm2js_build.specs.Blocks.{statements_of}
use Rattle.wasm2js_build.specs.Steps.{step_view}
use Rattle.wasm2js_build.specs.Growing.{lights_of, lights_known}
use Rattle.wasm2js_build.proofs.Growing.{among_waits}
use Rattle.wasm2js_build.proofs.light.LightBlock.act_among.Goals as goal

pub returns-in-Some-OfTwo : goal.returns-in-Some-OfTwo
returns-in-Some-OfTwo c =
    let old = c.args.self.now in
    let held = held_view c.in-Some-OfTwo.held in
    among_waits (statements_of old.block) (lights_of old) (delays_view c.deref.result.now) (delays_view c.drop_name.new.waits.items ++ held ∷ []) (lights_known old)
    (step_view c.args.step.now) (option_map newest_view c.waiting_step.result) held (ap delays_view c.deref.ensures.value) c.waiting_step.ensures
    (ap (option_map newest_view) c.in-Some-OfTwo.is ∙ ap (λ word. Some (newest_view word)) c.in-Some-OfTwo.field-0-is)
    (ap (λ (ds : List Delayed). ds ++ held ∷ []) c.drop_name.ensures)
