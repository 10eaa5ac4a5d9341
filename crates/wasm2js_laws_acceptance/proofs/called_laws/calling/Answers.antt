use Rattle.wasm2js_laws_acceptance.proofs.CalledWhole.{translations_are_called, translations_fit}
use Rattle.wasm2js_laws_acceptance.proofs.called_laws.calling.Goals as goal

pub returns-clause-called : goal.returns-clause-called
returns-clause-called c = translations_are_called

pub returns-clause-fits : goal.returns-clause-fits
returns-clause-fits c = translations_fit
