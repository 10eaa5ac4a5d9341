use Rattle.wasm_link_laws_modules.proofs.Law.{valid, whole}
use Rattle.wasm_link_laws_modules.proofs.validity.Goals as goal

pub returns-clause-valid : goal.returns-clause-valid
returns-clause-valid c = valid

pub returns-clause-whole : goal.returns-clause-whole
returns-clause-whole c = whole
