use Rattle.std.proofs.Common.{◌≡◌, take, map}
use Rattle.std.specs.List.{flat_map}
use Rattle.wasm_tree.specs.Views.{segment_of}
use Rattle.wat_lang.specs.Printing.{segment_field}
use Rattle.wat_print.specs.Put.{written, put}
use Rattle.wat_print.proofs.fields.put_segment_fields.Given as goal

abbrev pub invariant-loop-segment : goal.invariant-loop-segment
invariant-loop-segment l = written l.out ≡ put (written l.initial.out) (flat_map segment_field (map segment_of (take l.segment-index l.segments)))
