use Rattle.std.proofs.Common.{All, take}
use Rattle.wasm_tree.specs.Views.{instr_of}
use Rattle.wasm2js_laws_acceptance.specs.FunctionsFunctions.{HasWord}
use Rattle.wasm2js_source.proofs.words_of_list.Given as goal

abbrev pub invariant-loop-instr : goal.invariant-loop-instr
invariant-loop-instr l = All (λ i. HasWord (instr_of i)) (take l.instr-index l.list)
