use Rattle.std.proofs.Common.{All, take}
use Rattle.std.specs.List.{AllByRecursion}
use Rattle.wasm_tree.specs.Views.{element_of}
use Rattle.wat_laws_print.specs.Words.{HasWords, IsNumber}
use Rattle.wasm_laws_words.proofs.elements.Given as goal

abbrev pub invariant-loop-element : goal.invariant-loop-element
invariant-loop-element l = All (λ e. AllByRecursion HasWords (element_of e).offset × AllByRecursion IsNumber (element_of e).functions) (take l.element-index l.elements)
