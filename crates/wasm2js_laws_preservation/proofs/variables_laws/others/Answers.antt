use Rattle.wasm2js_laws_preservation.proofs.VariablesChosen.{selected_is, size_is}
use Rattle.wasm2js_laws_preservation.proofs.variables_laws.others.Goals as goal

pub returns-clause-chosen : goal.returns-clause-chosen
returns-clause-chosen c = selected_is

pub returns-clause-size : goal.returns-clause-size
returns-clause-size c = size_is
