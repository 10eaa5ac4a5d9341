use Rattle.std.proofs.Common.{◌≡◌, ℕ, suc, ◌+◌, ◌<◌, List, ◌++◌, drop, length, get_or, ap, ◌∙◌, arith}
use Rattle.std.specs.Prelude.{slice_get}
use Rattle.std.proofs.lemmas.List.{drop_more}
use Rattle.asm_lang.specs.Modules.{Function}
use Rattle.asm_lang.specs.Printing.{functions_text}
use Rattle.asm_grammar_print.specs.Put.{written, put}
use Rattle.wasm_lang.specs.Modules.{WasmModule}
use Rattle.wasm_tree.specs.Views.{module_of}
use Rattle.wasm2js_functions.specs.Listing.{wrapper_for, wrappers_from}
use Rattle.wasm2js_functions.proofs.Printed.{more_printed}
use Rattle.wasm2js_functions.proofs.printing.print_wrappers.Goals as goal

next_wrapper : (m : WasmModule) (k : ℕ) (ts : List ℕ) → k < length ts → wrappers_from m k (drop k ts) ≡ wrapper_for k (slice_get m.types (get_or ts k 0)) ++ wrappers_from m (k + 1) (drop (k + 1) ts)
next_wrapper m k ts lt =
    let e : suc k ≡ k + 1 = omega arith in
    ap (wrappers_from m k) (drop_more ts k 0 lt) ∙ ap (λ n. wrapper_for k (slice_get m.types (get_or ts k 0)) ++ wrappers_from m n (drop (k + 1) ts)) e

pub loop-number-preserved : goal.loop-number-preserved
loop-number-preserved c =
    let m = module_of c.args.«module».now in
    let k = c.loop-number.number in
    let ts = c.args.types.now in
    let lt : k < length ts = omega (arith, c.loop-number-test.true, c.loop-number.auto.number-end) in
    more_printed (put (written c.args.out.now) (functions_text (wrappers_from m 0 ts))) (written c.loop-number.out) (written c.print_wrapper.new.out)
    (wrappers_from m k (drop k ts)) (wrapper_for k (slice_get m.types (get_or ts k 0))) (wrappers_from m (k + 1) (drop (k + 1) ts))
    c.loop-number.invariant (next_wrapper m k ts lt) c.in_ok-print_wrapper.ensures
