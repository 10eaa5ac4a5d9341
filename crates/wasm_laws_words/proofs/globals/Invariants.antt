use Rattle.std.proofs.Common.{All, take}
use Rattle.std.specs.List.{AllByRecursion}
use Rattle.wasm_tree.specs.Views.{global_of}
use Rattle.wat_laws_print.specs.Words.{HasWords}
use Rattle.wasm_laws_words.proofs.globals.Given as goal

abbrev pub invariant-loop-global : goal.invariant-loop-global
invariant-loop-global l = All (λ g. AllByRecursion HasWords (global_of g).init) (take l.global-index l.globals)
