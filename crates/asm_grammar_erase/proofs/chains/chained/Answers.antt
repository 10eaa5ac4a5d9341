use Rattle.std.proofs.Common.{rules, ◌≡◌, [], ◌∷◌, ◌++◌}
use Rattle.sem_words.specs.Lists.{list_items}
use Rattle.asm_grammar_erase.proofs.ChainLemmas.{goes_on, begins}
use Rattle.asm_grammar_erase.proofs.chains.chained.Goals as goal

pub returns-in_ok-links-in-Ok : goal.returns-in_ok-links-in-Ok
returns-in_ok-links-in-Ok c =
    let a = c.args in
    let more : list_items c.in_ok-links-in-Ok.links ≡ list_items c.in-Ok.links ++ (record { minus = a.minus; operand = a.right }) ∷ [] = search rules in
    goes_on a.left c.in-Ok.first c.in-Ok.links c.in_ok-links-in-Ok.links a.minus a.right c.in-Ok.ensures.chain more

pub returns-in_ok-left-in-Err : goal.returns-in_ok-left-in-Err
returns-in_ok-left-in-Err c =
    let a = c.args in
    let left = c.in_ok-left-in-Err.left in
    let more : list_items c.in_ok-links-in-Err.links ≡ (record { minus = a.minus; operand = a.right }) ∷ [] = search rules in
    let is : left.value ≡ a.left = search rules in
    begins a.left a.right left c.in_ok-links-in-Err.links a.minus c.in-Err.ensures.other.1 is more
