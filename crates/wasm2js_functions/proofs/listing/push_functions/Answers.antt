use Rattle.std.proofs.Common.{◌≡◌, ◌++◌, map, take, subst, ap, ◌∙◌}
use Rattle.sem_words.specs.Lists.{list_items}
use Rattle.asm_tree.specs.Views.{function_view}
use Rattle.wasm_lang.specs.Modules.{WasmModule}
use Rattle.wasm_lang_exec.specs.Reductions.{callees}
use Rattle.wasm_tree.specs.Views.{module_of}
use Rattle.wasm2js_translation.specs.Modules.{functions_from}
use Rattle.wasm2js_functions.proofs.Lists.{whole_list}
use Rattle.wasm2js_functions.proofs.listing.push_functions.Goals as goal

pub returns : goal.returns
returns c =
    let old = map function_view (list_items c.args.functions.now) in
    let new = map function_view (list_items c.push_all_own.new.functions) in
    let facts = c.in_ok-facts.facts in
    subst (λ (m : WasmModule). new ≡ old ++ functions_from m 0 (callees m)) c.module-module.ensures.given
    (whole_list (module_of c.module-module.result.now) facts.imported (take facts.imported c.deref.result.now) old (map function_view (list_items c.push_wrappers.new.functions)) new
    c.in_ok-facts.ensures.imported (ap (take facts.imported) (c.deref.ensures.value ∙ c.in_ok-facts.ensures.functions)) c.in_ok-push_wrappers.ensures c.in_ok-push_all_own.ensures)
