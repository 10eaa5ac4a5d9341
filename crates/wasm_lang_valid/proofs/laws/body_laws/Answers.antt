use Rattle.wasm_lang_valid.proofs.Main.{valid, valid_only, refuses, goes_on}
use Rattle.wasm_lang_valid.proofs.laws.body_laws.Goals as goal

pub returns-clause-valid : goal.returns-clause-valid
returns-clause-valid c = valid

pub returns-clause-only : goal.returns-clause-only
returns-clause-only c = valid_only

pub returns-clause-refuses : goal.returns-clause-refuses
returns-clause-refuses c = refuses

pub returns-clause-goes_on : goal.returns-clause-goes_on
returns-clause-goes_on c = goes_on
