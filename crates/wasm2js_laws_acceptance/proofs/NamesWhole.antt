-- All rows of names.
use Rattle.std.proofs.Common.{◌++◌}
use Rattle.asm_lang_valid.specs.NameRows.{globals_names, functions_names, tables_names, exports_names, global_texts, function_texts}
use Rattle.asm_lang_valid.specs.Rows.{functions_at, tables_at, exports_at}
use Rattle.wasm2js_translation.specs.Modules.{translated}
use Rattle.wasm2js_laws_acceptance.specs.NamesLaws.{no_imports, NamesHaveNoRows}
use Rattle.wasm2js_laws_acceptance.proofs.NamesFresh.{none_join}
use Rattle.wasm2js_laws_acceptance.proofs.NamesOwn.{functions_have_no_rows}
use Rattle.wasm2js_laws_acceptance.proofs.NamesMembers.{tables_have_no_rows}
use Rattle.wasm2js_laws_acceptance.proofs.NamesKeys.{exports_have_no_rows}
use Rattle.wasm2js_laws_acceptance.proofs.NamesVariables.{variables_have_no_rows}

pub names_have_no_rows : NamesHaveNoRows
names_have_no_rows w h shaped typed =
    let m = translated w in
    let exports = exports_names m m.exports (exports_at m) in
    let tables = tables_names m (m.params ++ (global_texts m ++ function_texts m)) m.tables (tables_at m) in
    let functions = functions_names m (m.params ++ global_texts m) m.functions (functions_at m) in
    none_join (globals_names m m.params no_imports m.globals 1) (functions ++ (tables ++ exports)) (variables_have_no_rows w h shaped)
    (none_join functions (tables ++ exports) (functions_have_no_rows w typed)
    (none_join tables exports (tables_have_no_rows w h shaped) (exports_have_no_rows w h shaped)))
