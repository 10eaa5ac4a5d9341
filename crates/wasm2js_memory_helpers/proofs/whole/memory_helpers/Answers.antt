use Rattle.std.proofs.Common.{◌≡◌, ◌++◌, ℕ, Option, map, IfOk, sym, subst}
use Rattle.sem_words.specs.Lists.{list_items}
use Rattle.asm_tree.specs.Views.{function_view}
use Rattle.wasm2js_helpers.specs.Choices.{chosen}
use Rattle.wasm2js_memory_helpers.specs.Choices.{memory_choices}
use Rattle.wasm2js_memory_helpers.proofs.whole.memory_helpers.Goals as goal

pub returns-in-Some : goal.returns-in-Some
returns-in-Some c =
    let old = map function_view (list_items c.args.functions.now) in
    let new = map function_view (list_items c.helpers_of_memory.new.functions) in
    subst (λ (memory : Option ℕ). IfOk c.helpers_of_memory.result (λ _. new ≡ old ++ chosen (memory_choices c.args.needs.now memory))) (sym c.in-Some.is) c.helpers_of_memory.ensures
