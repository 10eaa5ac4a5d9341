use Rattle.wasm_link_laws_modules.proofs.Law.{within_reader, runs}
use Rattle.wasm_link_laws_modules.proofs.limits.Goals as goal

pub returns-clause-reader : goal.returns-clause-reader
returns-clause-reader c = within_reader

pub returns-clause-run : goal.returns-clause-run
returns-clause-run c = runs
