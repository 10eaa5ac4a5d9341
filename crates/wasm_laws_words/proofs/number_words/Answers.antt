use Rattle.wat_laws_print.specs.Words.{IsNumber}
use Rattle.wasm_laws_words.proofs.Lists.{each}
use Rattle.wasm_laws_words.proofs.number_words.Goals as goal

pub returns : goal.returns
returns c = each IsNumber c.args.numbers.now c.are_numbers.ensures
