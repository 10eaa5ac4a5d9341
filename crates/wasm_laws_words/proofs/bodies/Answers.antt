use Rattle.std.proofs.Common.{arith}
use Rattle.std.specs.List.{AllByRecursion}
use Rattle.wasm_lang.specs.Modules.{FunctionBody}
use Rattle.wat_laws_print.specs.Words.{HasWords}
use Rattle.wasm_tree.specs.Views.{body_of}
use Rattle.wasm_laws_words.proofs.Lists.{all_passed, each}
use Rattle.wasm_laws_words.proofs.bodies.Goals as goal

pub returns : goal.returns
returns c = each (λ (b : FunctionBody). AllByRecursion HasWords b.code) _ (all_passed (λ (b : FunctionBody). AllByRecursion HasWords b.code) body_of c.args.bodies.now c.loop-body.body-index (omega arith) c.loop-body.invariant)
