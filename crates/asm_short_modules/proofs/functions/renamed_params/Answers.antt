use Rattle.sem_words.specs.Lists.{list_items}
use Rattle.asm_tree.specs.Views.{param_view}
use Rattle.asm_short_tree.specs.Looking.{look_by}
use Rattle.asm_short_modules.specs.NewDeclared.{param_with}
use Rattle.asm_short_tree.proofs.Copied.{one_copied}
use Rattle.asm_short_modules.proofs.Gathered.{all_renamed}
use Rattle.asm_short_modules.proofs.functions.renamed_params.Goals as goal

pub loop-param-preserved : goal.loop-param-preserved
loop-param-preserved c =
    let l = c.loop-param in
    let x = c.param-item.result in
    one_copied param_view (λ x. (param_with (look_by c.args.look.now)) (param_view x)) (list_items l.list) (list_items c.in_ok-list.list) c.args.params.now l.param-index x _ c.loop-param-test.true c.param-item.is c.in_ok-list.ensures (λ k. record { name = c.in_ok-name.ensures k; double = x.double }) l.invariant

pub returns : goal.returns
returns c = all_renamed (param_with (look_by c.args.look.now)) param_view _ c.args.params.now c.loop-param.param-index c.loop-param-test.false c.loop-param.invariant
