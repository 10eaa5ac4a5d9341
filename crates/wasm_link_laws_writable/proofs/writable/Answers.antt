use Rattle.wasm_link_laws_writable.proofs.Law.{is_shaped, is_writable}
use Rattle.wasm_link_laws_writable.proofs.writable.Goals as goal

pub returns-clause-shaped : goal.returns-clause-shaped
returns-clause-shaped c = is_shaped

pub returns-clause-writable : goal.returns-clause-writable
returns-clause-writable c = is_writable
