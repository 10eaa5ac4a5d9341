use Rattle.std.proofs.Common.{◌++◌}
use Rattle.wasm_lang.specs.ReadingCode.{spelled}
use Rattle.wasm_tree.specs.Inputs.{input_of}
use Rattle.wasm_tree.specs.Views.{instr_of}
use Rattle.wasm_binary_write.specs.Spelling.{instruction, items}
use Rattle.wasm_binary_write.proofs.LentCode.{lent_start, lent_step}
use Rattle.wasm_binary_write.proofs.code.push_lent.Goals as goal

pub loop-turn-init : goal.loop-turn-init
loop-turn-init c = lent_start c.args.out.now.items c.args.bytes.now (input_of c.new-rest.result) c.new-rest.ensures.value

pub loop-turn-preserved : goal.loop-turn-preserved
loop-turn-preserved c =
    lent_step c.loop-turn.out.items c.push_to.new.out.items (c.args.out.now.items ++ items instruction (spelled c.args.bytes.now)) c.args.bytes.now c.loop-turn._turn (input_of c.loop-turn.rest) (input_of c.in-Ok.after) (instr_of c.in-Ok.instr)
    c.loop-turn-test.true c.in-Ok.ensures.value c.in_ok-push_to-in-Ok.ensures c.loop-turn.invariant
