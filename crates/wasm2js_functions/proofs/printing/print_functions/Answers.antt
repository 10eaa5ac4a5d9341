use Rattle.std.proofs.Common.{◌≡◌, take, subst, ap, ◌∙◌}
use Rattle.std.proofs.lemmas.Result.{on_ok_weaker}
use Rattle.asm_lang.specs.Printing.{functions_text}
use Rattle.asm_grammar_print.specs.Put.{written, put}
use Rattle.wasm_lang.specs.Modules.{WasmModule}
use Rattle.wasm_lang_exec.specs.Reductions.{callees}
use Rattle.wasm_tree.specs.Views.{module_of}
use Rattle.wasm2js_translation.specs.Modules.{functions_from}
use Rattle.wasm2js_functions.proofs.Printed.{all_printed}
use Rattle.wasm2js_functions.proofs.printing.print_functions.Goals as goal

pub returns : goal.returns
returns c =
    let old = written c.args.out.now in
    let new = written c.print_all_own.new.out in
    let facts = c.in_ok-facts.facts in
    on_ok_weaker c.print_all_own.result
    (λ own.
    subst (λ (m : WasmModule). new ≡ put old (functions_text (functions_from m 0 (callees m)))) c.module-module.ensures.given
    (all_printed (module_of c.module-module.result.now) facts.imported (take facts.imported c.deref.result.now) old (written c.print_wrappers.new.out) new
    c.in_ok-facts.ensures.imported (ap (take facts.imported) (c.deref.ensures.value ∙ c.in_ok-facts.ensures.functions)) c.in_ok-print_wrappers.ensures own))
    c.print_all_own.ensures
