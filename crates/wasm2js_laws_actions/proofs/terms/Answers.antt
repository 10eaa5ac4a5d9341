use Rattle.wasm2js_laws_actions.proofs.Evaluated.{expr_read, int_read, arguments_read}
use Rattle.wasm2js_laws_actions.proofs.terms.Goals as goal

pub returns-clause-as_it_is : goal.returns-clause-as_it_is
returns-clause-as_it_is c = expr_read

pub returns-clause-as_int : goal.returns-clause-as_int
returns-clause-as_int c = int_read

pub returns-clause-several : goal.returns-clause-several
returns-clause-several c = arguments_read
