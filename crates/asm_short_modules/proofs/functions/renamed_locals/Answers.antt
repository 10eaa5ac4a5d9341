use Rattle.std.proofs.Common.{◌∙◌}
use Rattle.sem_words.specs.Lists.{list_items}
use Rattle.asm_tree.specs.Views.{local_view, init_view}
use Rattle.asm_short_tree.specs.Looking.{look_by, declared_by}
use Rattle.asm_short_modules.specs.NewDeclared.{variable_with}
use Rattle.asm_short_modules.proofs.Whole.{init_stays, nothing_given}
use Rattle.asm_short_tree.proofs.Copied.{one_copied}
use Rattle.asm_short_modules.proofs.Gathered.{all_renamed}
use Rattle.asm_short_modules.proofs.functions.renamed_locals.Goals as goal

pub loop-local-preserved : goal.loop-local-preserved
loop-local-preserved c =
    let l = c.loop-local in
    let x = c.local-item.result in
    one_copied local_view (λ x. (variable_with (look_by c.args.look.now)) (local_view x)) (list_items l.list) (list_items c.in_ok-list.list) c.args.locals.now l.local-index x _ c.loop-local-test.true c.local-item.is c.in_ok-list.ensures (λ k. record { name = c.in_ok-name.ensures k; init = (c.in_ok-init.ensures ∙ init_stays (declared_by c.args.nothing.now) (init_view x.init) (nothing_given c.args.nothing.now c.requires)) k }) l.invariant

pub returns : goal.returns
returns c = all_renamed (variable_with (look_by c.args.look.now)) local_view _ c.args.locals.now c.loop-local.local-index c.loop-local-test.false c.loop-local.invariant
