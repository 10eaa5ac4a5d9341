use Rattle.std.proofs.Common.{◌≡◌, ◌+◌, drop, map}
use Rattle.wasm_tree.specs.Views.{segment_of}
use Rattle.wasm_lang_valid.specs.Profile.{global_segment}
use Rattle.wasm_profile.proofs.segments.global_segment.Given as goal

abbrev pub invariant-loop-i : goal.invariant-loop-i
invariant-loop-i l = global_segment l.before (map segment_of l.segments) ≡ global_segment (l.before + l.i) (map segment_of (drop l.i l.segments))
