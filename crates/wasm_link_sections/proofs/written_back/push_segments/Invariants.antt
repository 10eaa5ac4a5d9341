use Rattle.std.proofs.Common.{◌≡◌, ◌++◌, drop, map}
use Rattle.wasm_tree.specs.Views.{segment_of}
use Rattle.wasm_binary_write.specs.Spelling as spelling
use Rattle.wasm_binary_write.specs.Spelling.{items}
use Rattle.wasm_link_sections.specs.Made as made
use Rattle.wasm_link_sections.proofs.written_back.push_segments.Given as goal

abbrev pub invariant-loop-segment : goal.invariant-loop-segment
invariant-loop-segment l =
    l.fn.out.items ++ items spelling.segment (map made.segment_made (map segment_of l.own))
    ≡ l.out.items ++ items spelling.segment (map made.segment_made (map segment_of (drop l.segment-index l.own)))
