use Rattle.wasm2js_laws_acceptance.proofs.ProvidedWhole.{modules_provide}
use Rattle.wasm2js_laws_acceptance.proofs.provided_laws.whole_modules.Goals as goal

pub returns : goal.returns
returns c = modules_provide
