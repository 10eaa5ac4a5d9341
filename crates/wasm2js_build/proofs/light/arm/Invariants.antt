use Rattle.std.proofs.Common.{◌≡◌, ◌++◌, drop}
use Rattle.wasm2js_translation.specs.Words.{simple_statements}
use Rattle.wasm2js_translation.specs.Delays.{late_arm}
use Rattle.wasm2js_build.specs.Blocks.{statements_of}
use Rattle.wasm2js_terms.specs.Waits.{delays_view}
use Rattle.wasm2js_build.specs.Steps.{steps_view}
use Rattle.wasm2js_build.proofs.light.arm.Given as goal

abbrev pub invariant-loop-step : goal.invariant-loop-step
invariant-loop-step l =
    statements_of l.block ++ simple_statements (late_arm (delays_view l.waits.items) (steps_view (drop l.step-index l.steps)))
    ≡ simple_statements (late_arm (delays_view l.fn.waits) (steps_view l.steps))
