use Rattle.std.proofs.Common.{◌≡◌, ◌-◌, drop}
use Rattle.asm_lang.specs.Printing.{functions_text}
use Rattle.asm_grammar_print.specs.Put.{written, put}
use Rattle.wasm_tree.specs.Views.{module_of}
use Rattle.wasm2js_functions.specs.Listing.{own_from}
use Rattle.wasm2js_functions.proofs.printing.print_all_own.Given as goal

abbrev pub invariant-loop-number : goal.invariant-loop-number
invariant-loop-number l =
    let m = module_of l.«module» in
    let place = l.number - l.facts.imported in
    put (written l.fn.out) (functions_text (own_from m l.facts.imported m.functions m.bodies))
    ≡ put (written l.out) (functions_text (own_from m l.number (drop place m.functions) (drop place m.bodies)))
