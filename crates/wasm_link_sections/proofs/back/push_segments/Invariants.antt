use Rattle.std.proofs.Common.{◌≡◌, ◌++◌, drop, map}
use Rattle.wasm_tree.specs.Views.{segment_of}
use Rattle.wasm_link_sections.specs.Made as made
use Rattle.wasm_link_sections.proofs.back.push_segments.Given as goal

abbrev pub invariant-loop-segment : goal.invariant-loop-segment
invariant-loop-segment l =
    map segment_of l.fn.segments.items ++ map made.segment_made (map segment_of l.own)
    ≡ map segment_of l.segments.items ++ map made.segment_made (map segment_of (drop l.segment-index l.own))
