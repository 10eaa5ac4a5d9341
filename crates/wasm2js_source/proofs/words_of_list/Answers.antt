use Rattle.std.proofs.Common.{subst, arith}
use Rattle.std.proofs.lemmas.List.Elements.{All-more}
use Rattle.wasm_tree.specs.Views.{instr_of}
use Rattle.wasm2js_laws_acceptance.specs.FunctionsFunctions.{HasWord}
use Rattle.wasm2js_source.proofs.Words.{all_passed}
use Rattle.wasm2js_source.proofs.words_of_list.Goals as goal

pub loop-instr-preserved : goal.loop-instr-preserved
loop-instr-preserved c =
    All-more (λ i. HasWord (instr_of i)) c.args.list.now c.loop-instr.instr-index c.instr-item.result c.loop-instr-test.true c.loop-instr.invariant
    (subst (λ i. HasWord (instr_of i)) c.instr-item.is c.word_of.ensures)

pub returns : goal.returns
returns c = all_passed HasWord instr_of c.args.list.now c.loop-instr.instr-index (omega arith) c.loop-instr.invariant
