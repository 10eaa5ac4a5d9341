use Rattle.std.proofs.Common.{◌≡◌, take, map}
use Rattle.std.specs.List.{flat_map}
use Rattle.wasm_tree.specs.Views.{element_of}
use Rattle.wat_lang.specs.Printing.{element_field}
use Rattle.wat_print.specs.Put.{written, put}
use Rattle.wat_print.proofs.fields.put_element_fields.Given as goal

abbrev pub invariant-loop-element : goal.invariant-loop-element
invariant-loop-element l = written l.out ≡ put (written l.initial.out) (flat_map element_field (map element_of (take l.element-index l.elements)))
