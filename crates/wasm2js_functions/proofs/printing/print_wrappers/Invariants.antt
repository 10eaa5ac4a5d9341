use Rattle.std.proofs.Common.{◌≡◌, drop}
use Rattle.asm_lang.specs.Printing.{functions_text}
use Rattle.asm_grammar_print.specs.Put.{written, put}
use Rattle.wasm_tree.specs.Views.{module_of}
use Rattle.wasm2js_functions.specs.Listing.{wrappers_from}
use Rattle.wasm2js_functions.proofs.printing.print_wrappers.Given as goal

abbrev pub invariant-loop-number : goal.invariant-loop-number
invariant-loop-number l =
    let m = module_of l.«module» in
    put (written l.fn.out) (functions_text (wrappers_from m 0 l.types)) ≡ put (written l.out) (functions_text (wrappers_from m l.number (drop l.number l.types)))
