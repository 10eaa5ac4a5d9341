use Rattle.sem_words.specs.Lists.{list_items}
use Rattle.asm_tree.specs.Views.{export_view}
use Rattle.asm_short_tree.specs.Looking.{declared_by}
use Rattle.asm_short_modules.specs.NewDeclared.{export_with}
use Rattle.asm_short_tree.proofs.Copied.{one_copied}
use Rattle.asm_short_modules.proofs.Gathered.{all_renamed}
use Rattle.asm_short_modules.proofs.declarations.renamed_export_list.Goals as goal

pub loop-export-preserved : goal.loop-export-preserved
loop-export-preserved c =
    let l = c.loop-export in
    let x = c.export-item.result in
    one_copied export_view (λ x. (export_with (declared_by c.args.names.now)) (export_view x)) (list_items l.list) (list_items c.in_ok-list.list) c.args.exports.now l.export-index x _ c.loop-export-test.true c.export-item.is c.in_ok-list.ensures (λ k. record { key = c.in_ok-key.ensures k; function = c.in_ok-function.ensures k }) l.invariant

pub returns : goal.returns
returns c = all_renamed (export_with (declared_by c.args.names.now)) export_view _ c.args.exports.now c.loop-export.export-index c.loop-export-test.false c.loop-export.invariant
