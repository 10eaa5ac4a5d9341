use Rattle.std.proofs.Common.{◌≡◌, ◌++◌, ◌∷◌, [], ◌∙◌, arith}
use Rattle.std.proofs.lemmas.Grind.{common_steps}
use Rattle.sem_words.specs.Lists.{list_items}
use Rattle.wasm_lang.specs.ReadingModule.{element_field}
use Rattle.wasm_tree.specs.Inputs.{input_of}
use Rattle.std.proofs.lemmas.List.{map-append}
use Rattle.wasm_tree.specs.Views.{element_of}
use Rattle.wasm_binary_entries.specs.Views.{elements_of}
use Rattle.wasm_binary_entries.proofs.ItemsInRow.{items_step}
use Rattle.wasm_binary_entries.proofs.entries.elements.Goals as goal

pub loop-i-preserved : goal.loop-i-preserved
loop-i-preserved c =
    let s = items_step element_field c.args.count c.loop-i._i (elements_of c.loop-i.list) (input_of c.loop-i.rest) (input_of c.in_ok-item.after) (element_of c.in_ok-item.item) c.loop-i-test.true c.in_ok-item.ensures in
    let pushed : list_items c.push.new.self ≡ list_items c.loop-i.list ++ c.in_ok-item.item ∷ [] = grind (arith, common_steps) in
    rw (pushed, map-append) (c.loop-i.invariant ∙ s)
