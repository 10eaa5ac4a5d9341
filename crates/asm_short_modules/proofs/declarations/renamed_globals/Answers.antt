use Rattle.sem_words.specs.Lists.{list_items}
use Rattle.asm_tree.specs.Views.{global_view}
use Rattle.asm_short_tree.specs.Looking.{declared_by}
use Rattle.asm_short_modules.specs.NewDeclared.{global_with}
use Rattle.asm_short_tree.proofs.Copied.{one_copied}
use Rattle.asm_short_modules.proofs.Gathered.{all_renamed}
use Rattle.asm_short_modules.proofs.declarations.renamed_globals.Goals as goal

pub loop-global-preserved : goal.loop-global-preserved
loop-global-preserved c =
    let l = c.loop-global in
    let x = c.global-item.result in
    one_copied global_view (λ x. (global_with (declared_by c.args.names.now)) (global_view x)) (list_items l.list) (list_items c.in_ok-list.list) c.args.globals.now l.global-index x _ c.loop-global-test.true c.global-item.is c.in_ok-list.ensures (λ k. record { name = c.in_ok-name.ensures k; init = c.in_ok-init.ensures k }) l.invariant

pub returns : goal.returns
returns c = all_renamed (global_with (declared_by c.args.names.now)) global_view _ c.args.globals.now c.loop-global.global-index c.loop-global-test.false c.loop-global.invariant
