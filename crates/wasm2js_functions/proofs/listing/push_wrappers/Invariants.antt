use Rattle.std.proofs.Common.{◌≡◌, ◌++◌, map, drop}
use Rattle.sem_words.specs.Lists.{list_items}
use Rattle.asm_tree.specs.Views.{function_view}
use Rattle.wasm_tree.specs.Views.{module_of}
use Rattle.wasm2js_functions.specs.Listing.{wrappers_from}
use Rattle.wasm2js_functions.proofs.listing.push_wrappers.Given as goal

abbrev pub invariant-loop-number : goal.invariant-loop-number
invariant-loop-number l =
    let m = module_of l.«module» in
    map function_view (list_items l.fn.functions) ++ wrappers_from m 0 l.types
    ≡ map function_view (list_items l.functions) ++ wrappers_from m l.number (drop l.number l.types)
