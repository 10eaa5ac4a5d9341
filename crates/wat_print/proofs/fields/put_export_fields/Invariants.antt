use Rattle.std.proofs.Common.{◌≡◌, take, map}
use Rattle.std.specs.List.{flat_map}
use Rattle.wasm_tree.specs.Views.{export_of}
use Rattle.wat_lang.specs.Printing.{export_field}
use Rattle.wat_print.specs.Put.{written, put}
use Rattle.wat_print.proofs.fields.put_export_fields.Given as goal

abbrev pub invariant-loop-export : goal.invariant-loop-export
invariant-loop-export l = written l.out ≡ put (written l.initial.out) (flat_map export_field (map export_of (take l.export-index l.exports)))
