use Rattle.std.proofs.Common.{arith}
use Rattle.std.specs.List.{AllByRecursion}
use Rattle.wasm_lang.specs.Modules.{GlobalEntry}
use Rattle.wat_laws_print.specs.Words.{HasWords}
use Rattle.wasm_tree.specs.Views.{global_of}
use Rattle.wasm_laws_words.proofs.Lists.{all_passed, each}
use Rattle.wasm_laws_words.proofs.globals.Goals as goal

pub returns : goal.returns
returns c = each (λ (g : GlobalEntry). AllByRecursion HasWords g.init) _ (all_passed (λ (g : GlobalEntry). AllByRecursion HasWords g.init) global_of c.args.globals.now c.loop-global.global-index (omega arith) c.loop-global.invariant)
