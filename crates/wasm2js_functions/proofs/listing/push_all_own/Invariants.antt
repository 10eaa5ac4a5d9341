use Rattle.std.proofs.Common.{◌≡◌, ◌-◌, ◌++◌, map, drop}
use Rattle.sem_words.specs.Lists.{list_items}
use Rattle.asm_tree.specs.Views.{function_view}
use Rattle.wasm_tree.specs.Views.{module_of}
use Rattle.wasm2js_functions.specs.Listing.{own_from}
use Rattle.wasm2js_functions.proofs.listing.push_all_own.Given as goal

abbrev pub invariant-loop-number : goal.invariant-loop-number
invariant-loop-number l =
    let m = module_of l.«module» in
    let place = l.number - l.facts.imported in
    map function_view (list_items l.fn.functions) ++ own_from m l.facts.imported m.functions m.bodies
    ≡ map function_view (list_items l.functions) ++ own_from m l.number (drop place m.functions) (drop place m.bodies)
