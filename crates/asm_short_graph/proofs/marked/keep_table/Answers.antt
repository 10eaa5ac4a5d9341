use Rattle.std.proofs.Common.{refl}
use Rattle.asm_tree.specs.Views.{table_view}
use Rattle.asm_short_graph.proofs.Gathered.{item_kept, item_left}
use Rattle.asm_short_graph.proofs.marked.keep_table.Goals as goal

pub returns-then-not-mark : goal.returns-then-not-mark
returns-then-not-mark c = item_left table_view c.args.kept.now.items c.args.table.now c.args.mark c.if-not-mark.true

pub returns : goal.returns
returns c = item_kept table_view c.args.kept.now.items _ c.args.table c.args.table.now c.args.mark c.in_ok-push.ensures.items refl c.if-not-mark.false
