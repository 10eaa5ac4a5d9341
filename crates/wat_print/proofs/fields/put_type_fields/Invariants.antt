use Rattle.std.proofs.Common.{◌≡◌, take, map}
use Rattle.std.specs.List.{flat_map}
use Rattle.wasm_tree.specs.Views.{type_of}
use Rattle.wat_lang.specs.Printing.{type_field}
use Rattle.wat_print.specs.Put.{written, put}
use Rattle.wat_print.proofs.fields.put_type_fields.Given as goal

abbrev pub invariant-loop-function : goal.invariant-loop-function
invariant-loop-function l = written l.out ≡ put (written l.initial.out) (flat_map type_field (map type_of (take l.function-index l.types)))
