use Rattle.sem_words.specs.Lists.{text_bytes}
use Rattle.std.specs.Borrow.{Bor}
use Rattle.asm_tree.specs.declared.tree.Table.{Table}
use Rattle.asm_lang.specs.Modules as plain
use Rattle.asm_tree.specs.Views.{table_view}
use Rattle.asm_short_modules.proofs.Gathered.{none_pushed, one_pushed, all_pushed}
use Rattle.asm_short_modules.proofs.modules.push_tables.Goals as goal

pub loop-table-init : goal.loop-table-init
loop-table-init c = none_pushed (λ (x : Bor Table). text_bytes x.now.name) c.args.names.now.items c.args.tables.now

pub loop-table-preserved : goal.loop-table-preserved
loop-table-preserved c =
    let l = c.loop-table in
    one_pushed (λ (x : Bor Table). text_bytes x.now.name) c.args.names.now.items l.names.items c.push.new.self.items c.args.tables.now l.table-index c.table-item.result c.as_bytes.result c.loop-table-test.true c.table-item.is c.in_ok-push.ensures.items c.as_bytes.ensures l.invariant

pub returns : goal.returns
returns c = all_pushed (λ (y : plain.Table). y.name) (λ (x : Bor Table). table_view x.now) c.args.names.now.items _ c.args.tables.now c.loop-table.table-index c.loop-table-test.false c.loop-table.invariant
