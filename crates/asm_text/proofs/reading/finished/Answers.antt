use Rattle.std.proofs.Common.{Err, sym, subst}
use Rattle.asm_text.specs.declared.fault.TextFault.{TextFault}
use Rattle.asm_text.specs.Said.{IsAnswered}
use Rattle.asm_text.proofs.Answered.{module_answered, refusal_answered}
use Rattle.asm_text.proofs.reading.finished.Goals as goal

pub returns-in-Ok : goal.returns-in-Ok
returns-in-Ok c = λ ts reads read. module_answered c.args.source.now ts c.in-Ok.parsed reads (c.in-Ok.ensures ts read)

pub returns-in-Err : goal.returns-in-Err
returns-in-Err c = λ ts reads read.
    subst (λ (e : TextFault). IsAnswered c.args.source.now (Err e)) (sym c.of_parsing.ensures) (refusal_answered c.args.source.now ts c.in-Err.fault reads (c.in-Err.ensures ts read))
