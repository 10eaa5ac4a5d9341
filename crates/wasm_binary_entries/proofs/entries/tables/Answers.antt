use Rattle.std.proofs.Common.{◌≡◌, ◌++◌, ◌∷◌, [], ◌∙◌, arith}
use Rattle.std.proofs.lemmas.Grind.{common_steps}
use Rattle.sem_words.specs.Lists.{list_items}
use Rattle.wasm_lang.specs.ReadingModule.{table_field}
use Rattle.wasm_tree.specs.Inputs.{input_of}
use Rattle.wasm_binary_entries.proofs.ItemsInRow.{items_step}
use Rattle.wasm_binary_entries.proofs.entries.tables.Goals as goal

pub loop-i-preserved : goal.loop-i-preserved
loop-i-preserved c =
    let s = items_step table_field c.args.count c.loop-i._i (list_items c.loop-i.list) (input_of c.loop-i.rest) (input_of c.in_ok-item.after) c.in_ok-item.item c.loop-i-test.true c.in_ok-item.ensures.value in
    let pushed : list_items c.push.new.self ≡ list_items c.loop-i.list ++ c.in_ok-item.item ∷ [] = grind (arith, common_steps) in
    rw pushed (c.loop-i.invariant ∙ s)
