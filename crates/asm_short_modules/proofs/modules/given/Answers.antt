use Rattle.std.proofs.Common.{◌<◌, ◌++◌, ◌+◌, ◌∙◌, length, get_or, arith}
use Rattle.std.proofs.lemmas.List.{get_or_default}
use Rattle.asm_short_tree.specs.Looking.{new_names}
use Rattle.asm_short_modules.specs.NewDeclared.{lent_or_nothing}
use Rattle.asm_short_modules.proofs.Handed.{handed_from, numbers_over, names_over, one_kept, one_numbered}
use Rattle.asm_short_modules.proofs.modules.given.Goals as goal
use Rattle.asm_short_modules.proofs.modules.given.Goals.{then-is_kept+in_ok-push, else-is_kept+in_ok-push-2}

pub returns-then-next-numbers : goal.returns-then-next-numbers
returns-then-next-numbers c =
    let l = c.loop-old in
    numbers_over c.args.kept c.args.olds.now c.args.numbers.now l.old-index l.next _ _ (omega arith) l.invariant.handed

pub loop-old-preserved : goal.loop-old-preserved
loop-old-preserved c =
    let l = c.loop-old in
    let kept = c.args.kept in
    let olds = c.args.olds.now in
    let numbers = c.args.numbers.now in
    let low : l.old-index < length olds = c.loop-old-test.true in
    let lower : l.next < length numbers = let within = l.invariant.within in omega arith in
    elim c.if-is_kept.branch [
      | then-is_kept+in_ok-push w ↦ record {
        within = let within = l.invariant.within in let same = w.next-is in omega arith;
        handed = (λ k. new_names (lent_or_nothing kept) (w.news-is k).items ++ handed_from kept olds numbers (l.old-index + 1) (w.next-is k))
            ∙ one_kept kept olds numbers l.old-index l.next _ (get_or numbers l.next 0) l.news.items w.push.new.self.items _ c.is_kept.result low (get_or_default olds l.old-index _ _ low) lower (get_or_default numbers l.next 0 (get_or numbers l.next 0) lower) c.is_kept.ensures w.if-is_kept.true w.in_ok-push.ensures.items l.invariant.handed;
      }
      | else-is_kept+in_ok-push-2 w ↦ record {
        within = let same = w.next-is in omega arith;
        handed = (λ k. new_names (lent_or_nothing kept) (w.news-is k).items ++ handed_from kept olds numbers (l.old-index + 1) (w.next-is k))
            ∙ one_numbered kept olds numbers l.old-index l.next _ (get_or numbers l.next 0) l.news.items w.push-else-is_kept.new.self.items _ c.is_kept.result low (get_or_default olds l.old-index _ _ low) lower (get_or_default numbers l.next 0 (get_or numbers l.next 0) lower) c.is_kept.ensures w.if-is_kept.false w.in_ok-push-2.ensures.items l.invariant.handed;
      }
    ]

pub returns : goal.returns
returns c = names_over c.args.kept c.args.olds.now c.args.numbers.now c.loop-old.old-index c.loop-old.next _ _ c.loop-old-test.false c.loop-old.invariant.handed
