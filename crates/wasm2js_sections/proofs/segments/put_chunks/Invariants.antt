use Rattle.std.proofs.Common.{◌≡◌, ◌+◌, ◌*◌, ◌≤◌, ◌++◌, length, drop}
use Rattle.wasm2js_build.specs.Blocks.{statements_of}
use Rattle.wasm2js_translation.specs.Modules.{put_chunks}
use Rattle.wasm2js_sections.proofs.segments.put_chunks.Given as goal

abbrev pub invariant-loop-left : goal.invariant-loop-left
invariant-loop-left l =
    (l.done + 64 * l.left ≤ length l.bytes)
    × (statements_of l.body ++ put_chunks l.left l.from (l.at + l.done) (drop l.done l.bytes) ≡ statements_of l.initial.body ++ put_chunks l.count l.at l.at l.bytes)

abbrev pub decreases-loop-left : goal.decreases-loop-left
decreases-loop-left l = l.left
