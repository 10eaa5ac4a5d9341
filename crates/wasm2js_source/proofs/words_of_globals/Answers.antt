use Rattle.std.proofs.Common.{All, arith}
use Rattle.wasm_lang.specs.Modules.{GlobalEntry}
use Rattle.wasm_tree.specs.Views.{global_of}
use Rattle.wasm2js_laws_acceptance.specs.FunctionsFunctions.{HasWord}
use Rattle.wasm2js_source.proofs.Words.{all_passed}
use Rattle.wasm2js_source.proofs.words_of_globals.Goals as goal

pub returns : goal.returns
returns c = all_passed (λ (g : GlobalEntry). All HasWord g.init) global_of c.args.globals.now c.loop-global.global-index (omega arith) c.loop-global.invariant
