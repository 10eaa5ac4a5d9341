use Rattle.wasm_lang.proofs.Spelled.{instruction_reads, spelled_is}
use Rattle.wasm_lang.proofs.ReadInstructions.{instruction_is}
use Rattle.wasm_lang.proofs.Expressions.{code_is_read, code_is}
use Rattle.wasm_lang.proofs.laws.code_laws.Goals as goal

pub returns-clause-instruction_reads : goal.returns-clause-instruction_reads
returns-clause-instruction_reads c = λ i at xs ys h. instruction_reads i xs ys h at

pub returns-clause-instruction_is : goal.returns-clause-instruction_is
returns-clause-instruction_is c = λ i from to e. instruction_is from i to e

pub returns-clause-code_reads : goal.returns-clause-code_reads
returns-clause-code_reads c = λ code at xs ys h most. code_is_read code xs ys h most at

pub returns-clause-code_is : goal.returns-clause-code_is
returns-clause-code_is c = λ code from to e. code_is from code to e

pub returns-clause-spelled_is : goal.returns-clause-spelled_is
returns-clause-spelled_is c = λ code bytes h. spelled_is code bytes h.instructions
