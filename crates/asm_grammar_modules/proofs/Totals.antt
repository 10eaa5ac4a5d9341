-- The height of a module, by those of its parts.
use Rattle.std.proofs.Common.{◌≡◌, ℕ, List, map, length, max, min, suc, arith}
use Rattle.sem_words.specs.Lists.{list_items}
use Rattle.asm_lang.specs.Modules.{variable_of, table_of, export_of, exports_of}
use Rattle.asm_lang.specs.Heights.{leaves_height, exports_height}
use Rattle.asm_lang.specs.TreeHeights.{whole_height}
use Rattle.asm_grammar_nodes.specs.declared.declarations.ExportTree.{ExportTree}
use Rattle.asm_grammar_nodes.specs.declared.declarations.ModuleTree.{ModuleTree as CodeModule}
use Rattle.asm_grammar_nodes.specs.Heights.{counted}
use Rattle.asm_grammar_nodes.specs.Views.{variable_view, table_view, export_view, exports_view, module_view}
use Rattle.asm_grammar_functions.specs.Totals.{highest, functions_view}
use Rattle.asm_grammar_functions.proofs.Totals.{leaves_of}

pub exports_high : (es : List ExportTree) → leaves_height (map export_of (map export_view es)) ≡ min 1 (length es)
exports_high es = leaves_of export_of export_view es

pub module_high : (m : CodeModule) (g f t e : ℕ) → g ≡ min 1 (length (list_items m.globals)) → f ≡ counted (highest (functions_view (list_items m.functions))) → t ≡ min 1 (length (list_items m.tables)) → e ≡ exports_height (exports_of (exports_view m.exports)) → counted (suc (max (max g f) (max t e))) ≡ counted (whole_height (module_view m))
module_high m g f t e gs fs ts es = omega (arith, leaves_of variable_of variable_view (list_items m.globals), leaves_of table_of table_view (list_items m.tables))
