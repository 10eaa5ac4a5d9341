use Rattle.std.proofs.Common.{◌≡◌, refl}
use Rattle.std.specs.Prelude.{Err}
use Rattle.wasm_lang.specs.ReadingCode.{instruction_field}
use Rattle.wasm_tree.specs.Inputs.{input_of}
use Rattle.wasm_tree.specs.Views.{instr_of}
use Rattle.wasm_link_move.specs.Moved.{side_of}
use Rattle.wasm_link_move.proofs.Turns.{turn_start, turn_step, turn_stop}
use Rattle.wasm_link_move.proofs.spelling.push_lent.Goals as goal

pub loop-turn-init : goal.loop-turn-init
loop-turn-init c = turn_start c.args.numbers.now (side_of c.args.side) c.args.scratch c.args.bytes.now (input_of c.new-rest.result) c.args.out.now.items c.args.out.now.items c.new-rest.ensures.value refl

pub loop-turn-preserved : goal.loop-turn-preserved
loop-turn-preserved c =
    turn_step c.args.numbers.now (side_of c.args.side) c.args.scratch c.args.bytes.now c.loop-turn._turn (input_of c.loop-turn.rest) (input_of c.in-Ok.after) (instr_of c.in-Ok.instr)
    c.args.out.now.items c.loop-turn.out.items c.push_one.new.out.items c.loop-turn.indirect c.in_ok-found-in-Ok.found c.either-indirect.result
    c.loop-turn-test.true c.loop-turn.invariant c.in-Ok.ensures.value c.in_ok-found-in-Ok.ensures.put c.in_ok-found-in-Ok.ensures.said c.either-indirect.ensures

pub returns-in-Err-Refused-clause-said : goal.returns-in-Err-Refused-clause-said
returns-in-Err-Refused-clause-said c =
    let field : instruction_field (input_of c.loop-turn.rest) ≡ Err c.in-Err-Refused.field-0-0 = rw c.in-Err-Refused.field-0-is at c.in-Err-Refused.ensures.value in
    (turn_stop c.args.numbers.now (side_of c.args.side) c.args.scratch c.args.bytes.now c.loop-turn._turn (input_of c.loop-turn.rest) c.args.out.now.items c.loop-turn.out.items c.loop-turn.indirect c.in-Err-Refused.field-0-0
    c.loop-turn-test.true field c.loop-turn.invariant).said
