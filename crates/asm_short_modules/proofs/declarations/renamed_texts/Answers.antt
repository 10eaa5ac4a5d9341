use Rattle.sem_words.specs.Lists.{list_items, text_bytes}
use Rattle.asm_short_tree.specs.Looking.{declared_by}
use Rattle.asm_short_tree.proofs.Copied.{one_copied}
use Rattle.asm_short_modules.proofs.Gathered.{all_renamed}
use Rattle.asm_short_modules.proofs.declarations.renamed_texts.Goals as goal

pub loop-text-preserved : goal.loop-text-preserved
loop-text-preserved c =
    let l = c.loop-text in
    let x = c.text-item.result in
    one_copied text_bytes (λ x. (declared_by c.args.names.now) (text_bytes x)) (list_items l.list) (list_items c.in_ok-list.list) c.args.texts.now l.text-index x _ c.loop-text-test.true c.text-item.is c.in_ok-list.ensures c.in_ok-text.ensures l.invariant

pub returns : goal.returns
returns c = all_renamed (declared_by c.args.names.now) text_bytes _ c.args.texts.now c.loop-text.text-index c.loop-text-test.false c.loop-text.invariant
