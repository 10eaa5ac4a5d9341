use Rattle.wasm2js_laws_wide.proofs.Compared.{relations_compute, zero_tests_compute}
use Rattle.wasm2js_laws_wide.proofs.comparisons.Goals as goal

pub returns-clause-each : goal.returns-clause-each
returns-clause-each c = relations_compute

pub returns-clause-zero : goal.returns-clause-zero
returns-clause-zero c = zero_tests_compute
