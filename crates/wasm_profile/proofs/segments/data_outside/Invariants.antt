use Rattle.std.proofs.Common.{◌≡◌, ◌+◌, drop, map}
use Rattle.wasm_tree.specs.Views.{segment_of}
use Rattle.wasm_lang_valid.specs.Profile.{outside_memory}
use Rattle.wasm_profile.proofs.segments.data_outside.Given as goal

abbrev pub invariant-loop-i : goal.invariant-loop-i
invariant-loop-i l = outside_memory l.bytes l.before (map segment_of l.segments) ≡ outside_memory l.bytes (l.before + l.i) (map segment_of (drop l.i l.segments))
