use Rattle.wasm_lang_valid.proofs.Least.{item_least}
use Rattle.wasm_lang_valid.proofs.laws.item_laws.Goals as goal

pub returns-clause-breaks : goal.returns-clause-breaks
returns-clause-breaks c = λ m s i r e. (item_least m s i).breaks r e

pub returns-clause-least : goal.returns-clause-least
returns-clause-least c = λ m s i r lower e lt. (item_least m s i).least r lower e lt

pub returns-clause-fine : goal.returns-clause-fine
returns-clause-fine c = λ m s i r e. (item_least m s i).fine r e
