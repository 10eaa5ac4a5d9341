use Rattle.wasm2js_lang.proofs.Refused.{high_words_begin_as_zero}
use Rattle.wasm2js_lang.proofs.early_high_word.Goals as goal

pub returns : goal.returns
returns c = high_words_begin_as_zero
