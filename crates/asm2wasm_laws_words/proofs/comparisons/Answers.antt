use Rattle.asm2wasm_laws_words.proofs.Compared.{words_of_comparisons}
use Rattle.asm2wasm_laws_words.proofs.comparisons.Goals as goal

pub returns : goal.returns
returns c = words_of_comparisons
