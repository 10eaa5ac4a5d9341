use Rattle.wasm2js_laws_preservation.proofs.StoresStored.{store_word_helps, store_words_help}
use Rattle.wasm2js_laws_preservation.proofs.StoresWritten.{writes_word, writes_words}
use Rattle.wasm2js_laws_preservation.proofs.stores_laws.helpers.Goals as goal

pub returns-clause-word : goal.returns-clause-word
returns-clause-word c = store_word_helps

pub returns-clause-words : goal.returns-clause-words
returns-clause-words c = store_words_help

pub returns-clause-word_written : goal.returns-clause-word_written
returns-clause-word_written c = writes_word

pub returns-clause-words_written : goal.returns-clause-words_written
returns-clause-words_written c = writes_words
