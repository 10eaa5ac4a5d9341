use Rattle.sem_words.specs.Lists.{list_items}
use Rattle.std.specs.Borrow.{Bor}
use Rattle.asm_tree.specs.declared.tree.Table.{Table}
use Rattle.asm_tree.specs.Views.{table_view}
use Rattle.asm_short_tree.specs.Looking.{declared_by}
use Rattle.asm_short_modules.specs.NewDeclared.{table_with}
use Rattle.asm_short_tree.proofs.Copied.{one_copied}
use Rattle.asm_short_modules.proofs.Gathered.{all_renamed}
use Rattle.asm_short_modules.proofs.modules.renamed_tables.Goals as goal

pub loop-table-preserved : goal.loop-table-preserved
loop-table-preserved c =
    let l = c.loop-table in
    let x = c.table-item.result in
    one_copied table_view (λ x. (table_with (declared_by c.args.names.now)) ((λ (x : Bor Table). table_view x.now) x)) (list_items l.list) (list_items c.in_ok-list.list) c.args.tables.now l.table-index x _ c.loop-table-test.true c.table-item.is c.in_ok-list.ensures c.in_ok-table.ensures l.invariant

pub returns : goal.returns
returns c = all_renamed (table_with (declared_by c.args.names.now)) (λ (x : Bor Table). table_view x.now) _ c.args.tables.now c.loop-table.table-index c.loop-table-test.false c.loop-table.invariant
