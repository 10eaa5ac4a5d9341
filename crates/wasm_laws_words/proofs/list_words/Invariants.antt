use Rattle.std.proofs.Common.{All, take}
use Rattle.wasm_tree.specs.Views.{instr_of}
use Rattle.wat_laws_print.specs.Words.{HasWords}
use Rattle.wasm_laws_words.proofs.list_words.Given as goal

abbrev pub invariant-loop-instr : goal.invariant-loop-instr
invariant-loop-instr l = All (λ i. HasWords (instr_of i)) (take l.instr-index l.list)
