use Rattle.std.proofs.Common.{refl}
use Rattle.asm_short_lang.specs.Sequence.{numbered}
use Rattle.asm_short_tree.specs.Looking.{new_name}
use Rattle.asm_short_tree.proofs.Copied.{all_copied}
use Rattle.asm_short_modules.proofs.Gathered.{one_read}
use Rattle.asm_short_modules.proofs.locals.numbered_names.Goals as goal

pub loop-number-preserved : goal.loop-number-preserved
loop-number-preserved c = λ kept.
    let l = c.loop-number in
    one_read (new_name kept) numbered l.news.items c.push.new.self.items c.args.numbers.now l.number-index _ _ c.loop-number-test.true c.in_ok-push.ensures.items refl (l.invariant kept)

pub returns : goal.returns
returns c = λ kept. all_copied numbered _ c.args.numbers.now c.loop-number.number-index c.loop-number-test.false (c.loop-number.invariant kept)
