use Rattle.std.proofs.Common.{◌≡◌, take, map}
use Rattle.std.specs.List.{flat_map}
use Rattle.wasm_tree.specs.Views.{instr_of}
use Rattle.wat_lang.specs.Printing.{instruction_line}
use Rattle.wat_print.specs.Put.{written, put}
use Rattle.wat_print.proofs.instructions.put_lines.Given as goal

abbrev pub invariant-loop-instr : goal.invariant-loop-instr
invariant-loop-instr l = written l.out ≡ put (written l.initial.out) (flat_map instruction_line (map instr_of (take l.instr-index l.code)))
