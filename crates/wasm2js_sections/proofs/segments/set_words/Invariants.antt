use Rattle.std.proofs.Common.{◌≡◌, ◌+◌, ◌-◌, ◌≤◌, ◌++◌, length, drop}
use Rattle.wasm2js_build.specs.Blocks.{statements_of}
use Rattle.wasm2js_translation.specs.Modules.{set_words}
use Rattle.wasm2js_sections.proofs.segments.set_words.Given as goal

abbrev pub invariant-loop-done : goal.invariant-loop-done
invariant-loop-done l =
    (l.done ≤ length l.bytes) × (statements_of l.body ++ set_words (l.at + l.done) (drop l.done l.bytes) ≡ statements_of l.initial.body ++ set_words l.at l.bytes)

abbrev pub decreases-loop-done : goal.decreases-loop-done
decreases-loop-done l = length l.bytes - l.done
