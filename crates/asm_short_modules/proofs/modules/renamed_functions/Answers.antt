use Rattle.std.specs.Borrow.{Bor}
use Rattle.sem_words.specs.Lists.{list_items}
use Rattle.asm_tree.specs.declared.tree.Function.{Function}
use Rattle.asm_tree.specs.Views.{function_view}
use Rattle.asm_short_lang.specs.Renaming.{renamed_function}
use Rattle.asm_short_tree.proofs.Copied.{one_copied}
use Rattle.asm_short_modules.proofs.Gathered.{all_renamed}
use Rattle.asm_short_modules.proofs.modules.renamed_functions.Goals as goal

pub loop-function-preserved : goal.loop-function-preserved
loop-function-preserved c = λ m of.
    let l = c.loop-function in
    let x = c.function-item.result in
    one_copied function_view (λ (x : Bor Function). renamed_function m (function_view x.now)) (list_items l.list) (list_items c.in_ok-list.list) c.args.functions.now l.function-index x _ c.loop-function-test.true c.function-item.is c.in_ok-list.ensures (c.in_ok-function.ensures m of) (l.invariant m of)

pub returns : goal.returns
returns c = λ m of. all_renamed (renamed_function m) (λ (x : Bor Function). function_view x.now) _ c.args.functions.now c.loop-function.function-index c.loop-function-test.false (c.loop-function.invariant m of)
