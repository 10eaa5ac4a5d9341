use Rattle.wasm2js_laws_simulation.proofs.HelpingUsual.{words_are_usual}
use Rattle.wasm2js_laws_simulation.proofs.HelpingNamed.{fixed_names_mean}
use Rattle.wasm2js_laws_simulation.proofs.helping_laws.helpers.Goals as goal

pub returns-clause-words : goal.returns-clause-words
returns-clause-words c = words_are_usual

pub returns-clause-names : goal.returns-clause-names
returns-clause-names c = fixed_names_mean
