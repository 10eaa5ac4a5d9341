use Rattle.std.proofs.Common.{All, take}
use Rattle.wasm_tree.specs.Views.{body_of}
use Rattle.wasm2js_laws_acceptance.specs.FunctionsFunctions.{HasWord}
use Rattle.wasm2js_source.proofs.words_of_bodies.Given as goal

abbrev pub invariant-loop-body : goal.invariant-loop-body
invariant-loop-body l = All (λ b. All HasWord (body_of b).code) (take l.body-index l.bodies)
