use Rattle.std.proofs.Common.{arith, subst}
use Rattle.std.proofs.lemmas.List.Elements.{All-more}
use Rattle.wat_laws_print.specs.Words.{HasWords}
use Rattle.wasm_tree.specs.Views.{instr_of}
use Rattle.wasm_laws_words.proofs.Lists.{all_passed, each}
use Rattle.wasm_laws_words.proofs.list_words.Goals as goal

pub loop-instr-preserved : goal.loop-instr-preserved
loop-instr-preserved c =
    All-more (λ i. HasWords (instr_of i)) c.args.list.now c.loop-instr.instr-index c.instr-item.result c.loop-instr-test.true c.loop-instr.invariant
    (subst (λ i. HasWords (instr_of i)) c.instr-item.is c.instr_words.ensures)

pub returns : goal.returns
returns c = each HasWords _ (all_passed HasWords instr_of c.args.list.now c.loop-instr.instr-index (omega arith) c.loop-instr.invariant)
