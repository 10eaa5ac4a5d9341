use Rattle.std.proofs.Common.{All, arith}
use Rattle.wasm_lang.specs.Modules.{FunctionBody}
use Rattle.wasm_tree.specs.Views.{body_of}
use Rattle.wasm2js_laws_acceptance.specs.FunctionsFunctions.{HasWord}
use Rattle.wasm2js_source.proofs.Words.{all_passed}
use Rattle.wasm2js_source.proofs.words_of_bodies.Goals as goal

pub returns : goal.returns
returns c = all_passed (λ (b : FunctionBody). All HasWord b.code) body_of c.args.bodies.now c.loop-body.body-index (omega arith) c.loop-body.invariant
