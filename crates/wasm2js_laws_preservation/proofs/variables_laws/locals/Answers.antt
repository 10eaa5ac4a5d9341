use Rattle.wasm2js_laws_preservation.proofs.VariablesLocal.{local_read, local_written, local_written_too}
use Rattle.wasm2js_laws_preservation.proofs.variables_laws.locals.Goals as goal

pub returns-clause-got : goal.returns-clause-got
returns-clause-got c = local_read

pub returns-clause-put : goal.returns-clause-put
returns-clause-put c = local_written

pub returns-clause-put_too : goal.returns-clause-put_too
returns-clause-put_too c = local_written_too
