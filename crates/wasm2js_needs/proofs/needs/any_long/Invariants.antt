use Rattle.std.proofs.Common.{◌≡◌, drop, map}
use Rattle.std.specs.List.{list_any}
use Rattle.wasm_tree.specs.Views.{segment_of}
use Rattle.wasm2js_lang.specs.Parts.Functions.{is_long}
use Rattle.wasm2js_needs.proofs.needs.any_long.Given as goal

abbrev pub invariant-loop-segment : goal.invariant-loop-segment
invariant-loop-segment l = list_any is_long (map segment_of l.segments) ≡ list_any is_long (map segment_of (drop l.segment-index l.segments))
