use Rattle.wasm2js_laws_preservation.proofs.VariablesGlobal.{global_read, global_written}
use Rattle.wasm2js_laws_preservation.proofs.variables_laws.globals.Goals as goal

pub returns-clause-got : goal.returns-clause-got
returns-clause-got c = global_read

pub returns-clause-put : goal.returns-clause-put
returns-clause-put c = global_written
