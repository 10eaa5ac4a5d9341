use Rattle.asm2wasm_laws_writable.proofs.Ascii.{properties_are_utf8}
use Rattle.asm2wasm_laws_writable.proofs.opcodes_laws.names.Goals as goal

pub returns : goal.returns
returns c = properties_are_utf8
