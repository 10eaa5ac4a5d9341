use Rattle.asm2wasm_laws_words.proofs.Compared.{words_of_conditions, words_of_nots}
use Rattle.asm2wasm_laws_words.proofs.conditions.Goals as goal

pub returns-clause-holds : goal.returns-clause-holds
returns-clause-holds c = words_of_conditions

pub returns-clause-turned : goal.returns-clause-turned
returns-clause-turned c = words_of_nots
