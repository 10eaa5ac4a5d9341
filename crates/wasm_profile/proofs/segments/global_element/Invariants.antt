use Rattle.std.proofs.Common.{◌≡◌, drop, map, List}
use Rattle.wasm_lang.specs.Modules.{DataSegment}
use Rattle.wasm_tree.specs.Views.{element_of}
use Rattle.wasm_lang_valid.specs.Profile.{offset_from_import}
use Rattle.wasm_profile.proofs.segments.global_element.Given as goal

abbrev pub invariant-loop-i : goal.invariant-loop-i
invariant-loop-i l = (segments : List DataSegment) → offset_from_import 0 (map element_of l.elements) segments ≡ offset_from_import l.i (map element_of (drop l.i l.elements)) segments
