use Rattle.std.proofs.Common.{All, take}
use Rattle.wasm_tree.specs.Views.{global_of}
use Rattle.wasm2js_laws_acceptance.specs.FunctionsFunctions.{HasWord}
use Rattle.wasm2js_source.proofs.words_of_globals.Given as goal

abbrev pub invariant-loop-global : goal.invariant-loop-global
invariant-loop-global l = All (λ g. All HasWord (global_of g).init) (take l.global-index l.globals)
