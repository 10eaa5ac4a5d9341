use Rattle.std.proofs.Common.{◌++◌, arith}
use Rattle.asm_short_lang.specs.Sequence.{forbidden}
use Rattle.asm_laws_sequence.proofs.Free.{as_many}
use Rattle.asm_laws_sequence.proofs.Given.{given, distinct_from, none_skipped}
use Rattle.asm_laws_sequence.proofs.first.Goals as goal

pub returns-clause-count : goal.returns-clause-count
returns-clause-count c = λ excluded count. as_many (forbidden ++ excluded) count 0

pub returns-clause-distinct : goal.returns-clause-distinct
returns-clause-distinct c = λ excluded count. distinct_from (forbidden ++ excluded) count 0

pub returns-clause-allowed : goal.returns-clause-allowed
returns-clause-allowed c = λ excluded count n h. let is = given (forbidden ++ excluded) count 0 n h in record { number = is.number; named = is.named; free = is.free }

pub returns-clause-whole : goal.returns-clause-whole
returns-clause-whole c = λ excluded count k l less free h. none_skipped (forbidden ++ excluded) count 0 k l (omega arith) less free h
