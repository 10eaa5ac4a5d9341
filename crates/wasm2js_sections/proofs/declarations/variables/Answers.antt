use Rattle.std.proofs.Common.{◌++◌, List, [], map, sym, ap, ◌∙◌}
use Rattle.std.specs.Prelude.{if◌then◌else◌}
use Rattle.wasm_lang.specs.Modules.{WasmModule}
use Rattle.wasm_lang_valid.specs.ModuleRules.{has_memory}
use Rattle.wasm_tree.specs.Views.{module_of}
use Rattle.asm_tree.specs.Views.{global_view}
use Rattle.asm_lang.specs.Modules.{Variable}
use Rattle.wasm2js_translation.specs.Modules.{view_variables, fixed_variables, global_variables}
use Rattle.wasm2js_sections.specs.Parts.{import_variables}
use Rattle.wasm2js_sections.proofs.Imports.{foreign_are}
use Rattle.wasm2js_sections.proofs.declarations.variables.Goals as goal

abbrev all : WasmModule → (imported : List Variable) → List Variable
all m imported = (if has_memory m then view_variables else []) ++ fixed_variables ++ imported ++ global_variables m

pub returns : goal.returns
returns c =
    let m = c.args.valid.now in
    let w = module_of c.module-module.result.now in
    ap (map global_view) c.from_vec.ensures
    ∙ c.in_ok-add_all.ensures
    ∙ ap (λ vs. map global_view vs ++ all w (import_variables 0 w.imports)) c.new-variables.ensures.items
    ∙ ap (λ (w : WasmModule). all w (import_variables 0 w.imports)) c.module-module.ensures.given
    ∙ ap (all m) (sym (foreign_are m c.module-module.ensures.valid))
