use Rattle.asm2wasm_laws_words.proofs.Divided.{signed_quotients, unsigned_quotients, signed_remainders, unsigned_remainders}
use Rattle.asm2wasm_laws_words.proofs.quotients.Goals as goal

pub returns-clause-signed : goal.returns-clause-signed
returns-clause-signed c = signed_quotients

pub returns-clause-unsigned : goal.returns-clause-unsigned
returns-clause-unsigned c = unsigned_quotients

pub returns-clause-signed_rest : goal.returns-clause-signed_rest
returns-clause-signed_rest c = signed_remainders

pub returns-clause-unsigned_rest : goal.returns-clause-unsigned_rest
returns-clause-unsigned_rest c = unsigned_remainders
