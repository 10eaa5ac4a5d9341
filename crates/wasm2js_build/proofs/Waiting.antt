-- What still waits in the arms of a choice.
use Rattle.std.proofs.Common.{◌≡◌, List, refl}
use Rattle.wasm2js_translation.specs.Delays as delays
use Rattle.wasm2js_translation.specs.Delays.{those}
use Rattle.wasm2js_build.specs.Steps.{is_left_in_arms, left_in_arms}
use Rattle.wasm2js_build.specs.declared.steps.Change.{Change}

pub left_are : (c : Change) (ds : List delays.Delayed) → those (is_left_in_arms c) ds ≡ left_in_arms c ds
unfolding is_left_in_arms
left_are c ds = refl
