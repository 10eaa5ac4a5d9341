use Rattle.std.proofs.Common.{length}
use Rattle.asm_text.proofs.UpTo.{IsUpTo}
use Rattle.asm_text.proofs.reading.answer.Given as goal

abbrev pub invariant-loop-token : goal.invariant-loop-token
invariant-loop-token l = IsUpTo l.source l.scanner l.parser

abbrev pub decreases-loop-token : goal.decreases-loop-token
decreases-loop-token l = length l.scanner.rest.now
