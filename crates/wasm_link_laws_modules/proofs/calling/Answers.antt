use Rattle.wasm_link_laws_modules.proofs.Law.{called_as_asked, scripts_are_alike}
use Rattle.wasm_link_laws_modules.proofs.calling.Goals as goal

pub returns-clause-as_asked : goal.returns-clause-as_asked
returns-clause-as_asked c = called_as_asked

pub returns-clause-scripts : goal.returns-clause-scripts
returns-clause-scripts c = scripts_are_alike
