use Rattle.std.proofs.Common.{map}
use Rattle.sem_words.specs.Lists.{list_items}
use Rattle.asm_tree.specs.Views.{function_view}
use Rattle.wasm2js_laws_acceptance.proofs.FunctionsLimited.{limited}
use Rattle.wasm2js.proofs.Joined.{first}
use Rattle.wasm2js.proofs.translating.push_first.Goals as goal

pub push_functions-requires : goal.push_functions-requires
push_functions-requires c = (limited c.args.valid.now c.requires).products

pub returns : goal.returns
returns c =
    first c.args.valid.now (map function_view (list_items c.args.functions.now)) (map function_view (list_items c.push_helpers.new.functions))
    (map function_view (list_items c.push_functions.new.functions)) (c.in_ok-push_helpers.ensures c.args.valid.now c.memory.ensures c.in_ok-needs.ensures) c.in_ok-push_functions.ensures
