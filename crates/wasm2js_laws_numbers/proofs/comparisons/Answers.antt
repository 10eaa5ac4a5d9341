use Rattle.wasm2js_laws_numbers.proofs.Related.{high_words_decide}
use Rattle.wasm2js_laws_numbers.proofs.comparisons.Goals as goal

pub returns : goal.returns
returns c = high_words_decide
