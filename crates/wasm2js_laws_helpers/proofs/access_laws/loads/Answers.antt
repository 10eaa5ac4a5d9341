use Rattle.wasm2js_laws_helpers.proofs.Access.Loaded.{load_word_helps, load_words_help}
use Rattle.wasm2js_laws_helpers.proofs.Access.Bytes.{reads_word, reads_words}
use Rattle.wasm2js_laws_helpers.proofs.access_laws.loads.Goals as goal

pub returns-clause-word : goal.returns-clause-word
returns-clause-word c = load_word_helps

pub returns-clause-words : goal.returns-clause-words
returns-clause-words c = load_words_help

pub returns-clause-word_read : goal.returns-clause-word_read
returns-clause-word_read c = reads_word

pub returns-clause-words_read : goal.returns-clause-words_read
returns-clause-words_read c = reads_words
