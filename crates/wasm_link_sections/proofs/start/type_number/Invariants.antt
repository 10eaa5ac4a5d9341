use Rattle.std.proofs.Common.{◌≡◌, ◌++◌, drop, map}
use Rattle.std.specs.Prelude.{slice_get}
use Rattle.sem_words.specs.Lists.{list_items}
use Rattle.wasm_tree.specs.Views.{import_of, module_of}
use Rattle.wasm_lang_valid.specs.ModuleRules.{imported_functions, function_types}
use Rattle.wasm_link_sections.proofs.start.type_number.Given as goal

abbrev pub invariant-loop-import : goal.invariant-loop-import
invariant-loop-import l =
    slice_get (function_types (module_of l.«module»)) l.function
    ≡ slice_get (imported_functions (map import_of (drop l.import-index l.import-items)) ++ list_items l.«module».functions) l.left
