use Rattle.std.proofs.Common.{◌≡◌, ◌+◌, ap, ◌∙◌, arith}
use Rattle.heap_lang.specs.Heap.{copied}
use Rattle.heap_views.specs.Block.{Becomes}
use Rattle.heap_views.proofs.BlockLemmas.{chained, copied_up_on}
use Rattle.heap_views.proofs.block.Block.copy_up_short.Goals as goal

pub returns : goal.returns
returns c =
    let to = c.args.to in let from = c.args.from in let len = c.args.len in let block = c.args.self.now in let heap = block.cells.bytes in
    let lines = c.copy_up_by-lines in let words = c.copy_up_by-words in let rest = c.copy_up_by in let done = lines.result + words.result in
    let up = c.requires.1 in let first = lines.ensures.copied in let second = words.ensures.copied in let third = rest.ensures.copied in
    let both : Becomes block words.new.self (copied to from done heap) =
    chained block lines.new.self words.new.self _ _ _ first.1 second.1
    (ap (λ m. copied (to + lines.result) (from + lines.result) words.result m) first.1.1 ∙ copied_up_on to from lines.result words.result heap up (omega (arith, first.0, second.0, c.requires.2))) in
    let exact : done + rest.result ≡ len = omega (arith, first.0, second.0, third.0, rest.ensures.left) in
    chained block words.new.self rest.new.self _ _ _ both third.1
    (ap (λ m. copied (to + done) (from + done) rest.result m) both.1 ∙ copied_up_on to from done rest.result heap up (omega (arith, exact, c.requires.2)) ∙ ap (λ k. copied to from k heap) exact)
