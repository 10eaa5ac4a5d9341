use Rattle.std.proofs.Common.{◌≡◌, ◌++◌, map, drop}
use Rattle.std.specs.List.{flat_map}
use Rattle.wasm_tree.specs.Views.{segment_of}
use Rattle.wasm2js_build.specs.Blocks.{statements_of}
use Rattle.wasm2js_translation.specs.Modules.{segment_stmts}
use Rattle.wasm2js_sections.proofs.starting.set_segments.Given as goal

abbrev pub invariant-loop-segment : goal.invariant-loop-segment
invariant-loop-segment l =
    statements_of l.body ++ flat_map segment_stmts (map segment_of (drop l.segment-index l.segments))
    ≡ statements_of l.initial.body ++ flat_map segment_stmts (map segment_of l.segments)
