use Rattle.wasm2js_laws_preservation.proofs.WideExtending.{signed_is, unsigned_is, byte_is, half_is, word_is}
use Rattle.wasm2js_laws_preservation.proofs.wide_laws.extensions.Goals as goal

pub returns-clause-signed : goal.returns-clause-signed
returns-clause-signed c = signed_is

pub returns-clause-unsigned : goal.returns-clause-unsigned
returns-clause-unsigned c = unsigned_is

pub returns-clause-byte : goal.returns-clause-byte
returns-clause-byte c = byte_is

pub returns-clause-half : goal.returns-clause-half
returns-clause-half c = half_is

pub returns-clause-word : goal.returns-clause-word
returns-clause-word c = word_is
