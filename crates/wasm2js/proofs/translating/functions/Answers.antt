use Rattle.std.proofs.Common.{map, ap}
use Rattle.sem_words.specs.Lists.{list_items}
use Rattle.asm_tree.specs.Views.{function_view}
use Rattle.wasm2js.proofs.Joined.{all}
use Rattle.wasm2js.proofs.translating.functions.Goals as goal

pub returns : goal.returns
returns c =
    all c.args.valid.now (map function_view (list_items c.new-functions.result)) (map function_view (list_items c.push_first.new.functions))
    (map function_view (list_items c.push_last.new.functions)) (ap (map function_view) c.new-functions.ensures) c.in_ok-push_first.ensures c.in_ok-push_last.ensures
