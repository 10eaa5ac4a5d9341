use Rattle.std.proofs.Common.{◌≡◌, ℕ, drop, map, List}
use Rattle.wasm_lang.specs.Modules.{DataSegment}
use Rattle.wasm_tree.specs.Views.{element_of}
use Rattle.wasm_lang_valid.specs.Profile.{segment_outside}
use Rattle.wasm_profile.proofs.segments.element_outside.Given as goal

abbrev pub invariant-loop-i : goal.invariant-loop-i
invariant-loop-i l = (bytes : ℕ) (segments : List DataSegment) → segment_outside l.entries bytes 0 (map element_of l.elements) segments ≡ segment_outside l.entries bytes l.i (map element_of (drop l.i l.elements)) segments
