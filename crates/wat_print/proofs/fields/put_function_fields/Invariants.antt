use Rattle.std.proofs.Common.{◌≡◌, drop, map}
use Rattle.wasm_tree.specs.Views.{body_of}
use Rattle.wat_lang.specs.Printing.{function_fields}
use Rattle.wat_print.specs.Put.{written, put}
use Rattle.wat_print.proofs.fields.put_function_fields.Given as goal

abbrev pub invariant-loop-index : goal.invariant-loop-index
invariant-loop-index l =
    put (written l.out) (function_fields (drop l.index l.functions) (map body_of (drop l.index l.bodies)))
    ≡ put (written l.initial.out) (function_fields l.functions (map body_of l.bodies))
