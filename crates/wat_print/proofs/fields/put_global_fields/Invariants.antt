use Rattle.std.proofs.Common.{◌≡◌, take, map}
use Rattle.std.specs.List.{flat_map}
use Rattle.wasm_tree.specs.Views.{global_of}
use Rattle.wat_lang.specs.Printing.{global_field}
use Rattle.wat_print.specs.Put.{written, put}
use Rattle.wat_print.proofs.fields.put_global_fields.Given as goal

abbrev pub invariant-loop-global : goal.invariant-loop-global
invariant-loop-global l = written l.out ≡ put (written l.initial.out) (flat_map global_field (map global_of (take l.global-index l.globals)))
