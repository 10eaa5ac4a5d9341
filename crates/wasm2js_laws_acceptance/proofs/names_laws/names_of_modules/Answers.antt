use Rattle.wasm2js_laws_acceptance.proofs.NamesWhole.{names_have_no_rows}
use Rattle.wasm2js_laws_acceptance.proofs.names_laws.names_of_modules.Goals as goal

pub returns : goal.returns
returns c = names_have_no_rows
