use Rattle.wasm_lang.proofs.Numbers.{unsigned_reads, unsigned_is, unsigned_front, integer_reads, integer_is, integer_front}
use Rattle.wasm_lang.proofs.laws.number_laws.Goals as goal

pub returns-clause-unsigned_reads : goal.returns-clause-unsigned_reads
returns-clause-unsigned_reads c = unsigned_reads

pub returns-clause-unsigned_is : goal.returns-clause-unsigned_is
returns-clause-unsigned_is c = unsigned_is

pub returns-clause-unsigned_front : goal.returns-clause-unsigned_front
returns-clause-unsigned_front c = unsigned_front

pub returns-clause-integer_reads : goal.returns-clause-integer_reads
returns-clause-integer_reads c = integer_reads

pub returns-clause-integer_is : goal.returns-clause-integer_is
returns-clause-integer_is c = integer_is

pub returns-clause-integer_front : goal.returns-clause-integer_front
returns-clause-integer_front c = integer_front
