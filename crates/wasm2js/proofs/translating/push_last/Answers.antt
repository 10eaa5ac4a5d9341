use Rattle.std.proofs.Common.{map}
use Rattle.sem_words.specs.Lists.{list_items}
use Rattle.asm_tree.specs.Views.{function_view}
use Rattle.wasm2js.proofs.Joined.{last}
use Rattle.wasm2js.proofs.translating.push_last.Goals as goal

pub returns-in-Ok : goal.returns-in-Ok
returns-in-Ok c =
    last c.args.valid.now (map function_view (list_items c.args.functions.now)) (map function_view (list_items c.push_stubs.new.functions))
    (map function_view (list_items c.push_ends.new.functions)) c.in_ok-push_stubs.ensures c.in-Ok.ensures
