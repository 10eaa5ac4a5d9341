use Rattle.wasm2js_laws_preservation.proofs.PlainExtending.{byte_is, half_is}
use Rattle.wasm2js_laws_preservation.proofs.plain_laws.extensions.Goals as goal

pub returns-clause-byte : goal.returns-clause-byte
returns-clause-byte c = byte_is

pub returns-clause-half : goal.returns-clause-half
returns-clause-half c = half_is
