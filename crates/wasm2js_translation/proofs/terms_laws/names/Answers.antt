use Rattle.wasm2js_translation.proofs.Spelling.{spellings_differ, spellings_are_usable, rising_names_are_new}
use Rattle.wasm2js_translation.proofs.terms_laws.names.Goals as goal

pub returns-clause-differ : goal.returns-clause-differ
returns-clause-differ c = spellings_differ

pub returns-clause-usable : goal.returns-clause-usable
returns-clause-usable c = spellings_are_usable

pub returns-clause-new : goal.returns-clause-new
returns-clause-new c = rising_names_are_new
