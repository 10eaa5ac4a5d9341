use Rattle.std.proofs.Common.{map, ap, arith}
use Rattle.asm_tree.specs.Views.{function_view}
use Rattle.asm_short_graph.specs.Picked.{picked, functions_in}
use Rattle.asm_short_graph.proofs.Gathered.{none_picked, one_kept, all_picked}
use Rattle.asm_short_graph.proofs.marked.kept_functions.Goals as goal

pub loop-i-init : goal.loop-i-init
loop-i-init c = none_picked _ (picked c.args.marks.now (map function_view c.args.functions.now)) (ap functions_in c.new-kept.ensures.items)

pub loop-i-preserved : goal.loop-i-preserved
loop-i-preserved c =
    let l = c.loop-i in
    one_kept function_view c.args.marks.now c.args.functions.now l.i c.index-functions-i.result c.is_marked-mark.result (functions_in l.kept.items) _ _ (omega arith) c.index-functions-i.is c.is_marked-mark.ensures c.in_ok-keep_function.ensures l.invariant

pub returns : goal.returns
returns c = all_picked function_view c.args.marks.now c.args.functions.now c.loop-i.i _ _ (omega arith) c.loop-i.invariant
