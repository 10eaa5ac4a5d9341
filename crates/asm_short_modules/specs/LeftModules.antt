-- A module without some functions and tables.
use Rattle.std.specs.Prelude.{List, map}
use Rattle.std.specs.Borrow.{Bor}
use Rattle.asm_lang.specs.Modules as plain
use Rattle.asm_tree.specs.Views.{module_view, function_view, table_view}
use Rattle.asm_tree.specs.declared.tree.Function.{Function}
use Rattle.asm_tree.specs.declared.tree.Table.{Table}
use Rattle.asm_short_modules.specs.declared.left.Left.{Left}

abbrev pub functions_in : List (Bor Function) → List plain.Function
functions_in fs = map (λ (f : Bor Function). function_view f.now) fs

abbrev pub tables_in : List (Bor Table) → List plain.Table
tables_in ts = map (λ (t : Bor Table). table_view t.now) ts

abbrev pub left_view : Left → plain.Module
left_view l = record (module_view l.«module».now) { functions = functions_in l.functions.items; tables = tables_in l.tables.items }
