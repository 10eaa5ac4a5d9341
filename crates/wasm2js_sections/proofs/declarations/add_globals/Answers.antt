use Rattle.std.proofs.Common.{◌≡◌, ◌++◌, map, length, ap, ◌∙◌}
use Rattle.wasm_tree.specs.Views.{global_of, import_of, module_of}
use Rattle.wasm_lang_exec.specs.Fits.{global_imports}
use Rattle.asm_tree.specs.Views.{global_view}
use Rattle.wasm2js_translation.specs.Modules.{imported_variables, own_variables}
use Rattle.wasm2js_sections.specs.Parts.{by_name, given_of}
use Rattle.wasm2js_sections.proofs.ByName.{variables_by_name}
use Rattle.wasm2js_sections.proofs.declarations.add_globals.Goals as goal

pub returns : goal.returns
returns c =
    let m = module_of c.args.«module».now in
    let before = map global_view c.args.variables.now.items in
    let names = c.in_ok-names.names.items in
    let known : map given_of names ≡ map by_name (global_imports m.imports) = c.in_ok-names.ensures ∙ ap (λ is. map by_name (global_imports (map import_of is))) c.as_slice.ensures in
    c.in_ok-add_named.ensures
    ∙ ap (λ ns. before ++ (imported_variables 0 (map given_of ns) ++ own_variables (map given_of ns) (length ns) (map global_of c.as_slice-3.result.now))) c.as_slice-2.ensures.value
    ∙ ap (λ gs. before ++ (imported_variables 0 (map given_of names) ++ own_variables (map given_of names) (length names) (map global_of gs))) c.as_slice-3.ensures
    ∙ ap (λ vs. before ++ vs) (variables_by_name (global_imports m.imports) names m.globals known)
