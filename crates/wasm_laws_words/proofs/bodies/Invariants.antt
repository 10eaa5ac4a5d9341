use Rattle.std.proofs.Common.{All, take}
use Rattle.std.specs.List.{AllByRecursion}
use Rattle.wasm_tree.specs.Views.{body_of}
use Rattle.wat_laws_print.specs.Words.{HasWords}
use Rattle.wasm_laws_words.proofs.bodies.Given as goal

abbrev pub invariant-loop-body : goal.invariant-loop-body
invariant-loop-body l = All (λ b. AllByRecursion HasWords (body_of b).code) (take l.body-index l.bodies)
