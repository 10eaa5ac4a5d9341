-- The rows of a module in two parts, and its nodes.
use Rattle.std.specs.Prelude.{ℕ, not, List, [], ◌++◌}
use Rattle.asm_lang.specs.Modules.{Module}
use Rattle.asm_lang_valid.specs.declared.rule.Met.{Met}
use Rattle.asm_lang_valid.specs.declared.rule.Rule.TheVariants.{NameTaken, ForbiddenName}
use Rattle.asm_lang_valid.specs.Rows.{need, functions_at, tables_at, exports_at}
use Rattle.asm_lang_valid.specs.NameRows.{all_new, any_forbidden, own_name, globals_names, functions_names, tables_names, exports_names, global_texts, function_texts}
use Rattle.asm_validate_names.specs.Imported.{no_imports}

abbrev pub heading_rows : Module → List Met
heading_rows m = need (all_new [] m.params) NameTaken 0 ++ need (not (any_forbidden (own_name m.name ++ m.params))) ForbiddenName 0

-- the rows of global variables, of which the first is node `at`, and of what stands after them
abbrev pub variables_rows : Module → List (List ℕ) → ℕ → List Met
variables_rows m before at = globals_names m before no_imports m.globals at

abbrev pub later_rows : Module → List Met
later_rows m =
    functions_names m (m.params ++ global_texts m) m.functions (functions_at m)
    ++ (tables_names m (m.params ++ (global_texts m ++ function_texts m)) m.tables (tables_at m)
    ++ exports_names m m.exports (exports_at m))

abbrev pub rest_rows : Module → List Met
rest_rows m =
    globals_names m m.params no_imports m.globals 1
    ++ (functions_names m (m.params ++ global_texts m) m.functions (functions_at m)
    ++ (tables_names m (m.params ++ (global_texts m ++ function_texts m)) m.tables (tables_at m)
    ++ exports_names m m.exports (exports_at m)))
