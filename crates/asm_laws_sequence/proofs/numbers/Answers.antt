use Rattle.std.proofs.Common.{arith}
use Rattle.asm_laws_sequence.proofs.Distinct.{distinct_names}
use Rattle.asm_laws_sequence.proofs.Ordered.{in_order}
use Rattle.asm_laws_sequence.proofs.numbers.Goals as goal

pub returns-clause-distinct : goal.returns-clause-distinct
returns-clause-distinct c = distinct_names

pub returns-clause-order : goal.returns-clause-order
returns-clause-order c = λ i j h. in_order j i j (omega arith) h
