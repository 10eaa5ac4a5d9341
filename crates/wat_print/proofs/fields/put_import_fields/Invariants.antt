use Rattle.std.proofs.Common.{◌≡◌, take, map}
use Rattle.std.specs.List.{flat_map}
use Rattle.wasm_tree.specs.Views.{import_of}
use Rattle.wat_lang.specs.Printing.{import_field}
use Rattle.wat_print.specs.Put.{written, put}
use Rattle.wat_print.proofs.fields.put_import_fields.Given as goal

abbrev pub invariant-loop-import : goal.invariant-loop-import
invariant-loop-import l = written l.out ≡ put (written l.initial.out) (flat_map import_field (map import_of (take l.import-index l.imports)))
