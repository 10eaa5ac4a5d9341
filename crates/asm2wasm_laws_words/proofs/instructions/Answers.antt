use Rattle.asm2wasm_laws_words.proofs.Operated.{words_of_results, words_of_negations, words_of_complements, words_of_products, words_of_leading_zeros}
use Rattle.asm2wasm_laws_words.proofs.instructions.Goals as goal

pub returns-clause-two : goal.returns-clause-two
returns-clause-two c = words_of_results

pub returns-clause-negation : goal.returns-clause-negation
returns-clause-negation c = words_of_negations

pub returns-clause-complement : goal.returns-clause-complement
returns-clause-complement c = words_of_complements

pub returns-clause-product : goal.returns-clause-product
returns-clause-product c = words_of_products

pub returns-clause-zeros : goal.returns-clause-zeros
returns-clause-zeros c = words_of_leading_zeros
