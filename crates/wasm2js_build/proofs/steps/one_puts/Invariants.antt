use Rattle.std.proofs.Common.{◌≡◌, drop}
use Rattle.wasm2js_translation.specs.Delays.{one_puts}
use Rattle.wasm2js_nodes.specs.Names.{name_view}
use Rattle.wasm2js_build.specs.Steps.{steps_view}
use Rattle.wasm2js_build.proofs.steps.one_puts.Given as goal

abbrev pub invariant-loop-step : goal.invariant-loop-step
invariant-loop-step l = one_puts (steps_view l.steps) (name_view l.name) ≡ one_puts (steps_view (drop l.step-index l.steps)) (name_view l.name)
