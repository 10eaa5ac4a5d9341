use Rattle.std.proofs.Common.{Err, sym, subst}
use Rattle.asm_text.specs.declared.fault.TextFault.{TextFault}
use Rattle.asm_text.specs.Said.{IsAnswered}
use Rattle.asm_text.proofs.UpTo.{at_refusal, at_fault}
use Rattle.asm_text.proofs.reading.answer.Goals as goal

pub returns-in-Err : goal.returns-in-Err
returns-in-Err c = at_refusal c.args.source.now c.loop-token.scanner c.next.new.self c.loop-token.parser c.in-Token.token c.in-Err.fault c.stopped.result
    c.loop-token.invariant c.in-Token.ensures c.in-Err.ensures.fault c.stopped.ensures

pub returns-in-Fault : goal.returns-in-Fault
returns-in-Fault c =
    subst (λ (e : TextFault). IsAnswered c.args.source.now (Err e)) (sym c.of_reading.ensures) (at_fault c.args.source.now c.loop-token.scanner c.loop-token.parser c.in-Fault.fault c.loop-token.invariant c.in-Fault.ensures)
