use Rattle.wasm2js_laws_terms.proofs.FineActions.{actions_are_fine, statements_are_fine}
use Rattle.wasm2js_laws_terms.proofs.actions.Goals as goal

pub returns-clause-single : goal.returns-clause-single
returns-clause-single c = actions_are_fine

pub returns-clause-several : goal.returns-clause-several
returns-clause-several c = statements_are_fine
