use Rattle.wasm_link_move.specs.Moved.{side_of}
use Rattle.wasm_link_move.proofs.Turns.{listed_step}
use Rattle.wasm_link_move.proofs.spelling.push_listed.Goals as goal

pub loop-instr-preserved : goal.loop-instr-preserved
loop-instr-preserved c =
    listed_step c.args.numbers.now (side_of c.args.side) c.args.scratch c.args.code.now c.loop-instr.instr-index c.instr-item.result
    c.args.out.now.items c.loop-instr.out.items c.push_one.new.out.items c.loop-instr.indirect c.in_ok-found.found c.either-indirect.result
    c.loop-instr-test.true c.instr-item.is c.loop-instr.invariant c.in_ok-found.ensures.put c.in_ok-found.ensures.said c.either-indirect.ensures
