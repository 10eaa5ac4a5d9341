use Rattle.std.proofs.Common.{◌≡◌, map, take}
use Rattle.sem_words.specs.Lists.{list_items}
use Rattle.std.specs.Borrow.{Bor}
use Rattle.asm_tree.specs.declared.tree.Table.{Table}
use Rattle.asm_tree.specs.Views.{table_view}
use Rattle.asm_short_tree.specs.Looking.{declared_by}
use Rattle.asm_short_modules.specs.NewDeclared.{table_with}
use Rattle.asm_short_modules.proofs.modules.renamed_tables.Given as goal

abbrev pub invariant-loop-table : goal.invariant-loop-table
invariant-loop-table l = map table_view (list_items l.list) ≡ map (λ (x : Bor Table). table_with (declared_by l.names) (table_view x.now)) (take l.table-index l.tables)
