use Rattle.wasm_laws_write.proofs.Modules.{fitting_are_writable}
use Rattle.wasm_laws_write.proofs.writable.Goals as goal

pub returns : goal.returns
returns c = fitting_are_writable
