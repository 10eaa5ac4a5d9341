use Rattle.std.proofs.Common.{◌≡◌, ◌+◌, ◌-◌, ap, ◌∙◌, arith}
use Rattle.heap_lang.specs.Heap.{copied}
use Rattle.heap_views.specs.Block.{Becomes}
use Rattle.heap_views.proofs.BlockLemmas.{chained, copied_down_on}
use Rattle.heap_views.proofs.block.Block.copy_down_short.Goals as goal

pub returns : goal.returns
returns c =
    let to = c.args.to in let from = c.args.from in let len = c.args.len in let block = c.args.self.now in let heap = block.cells.bytes in
    let first = c.copy_down_by-words in let second = c.copy_down_by-bytes in let third = c.copy_down_by in
    let down = c.requires.1 in let fits = c.requires.2 in let words = first.result in let bytes = second.result in let last = third.result in
    let one = first.ensures.copied in let two = second.ensures.copied in let three = third.ensures.copied in
    let both : Becomes block second.new.self (copied (to + bytes) (from + bytes) (len - bytes) heap) =
    chained block first.new.self second.new.self _ _ _ one.1 two.1
    (ap (λ m. copied (to + bytes) (from + bytes) (words - bytes) m) one.1.1 ∙ copied_down_on to from bytes words len heap down two.0 one.0 fits) in
    let none : last ≡ 0 = omega (arith, third.ensures.left) in
    let there : to + last ≡ to = omega (arith, none) in let here : from + last ≡ from = omega (arith, none) in let whole : len - last ≡ len = omega (arith, none) in
    chained block second.new.self third.new.self _ _ _ both three.1
    (ap (λ m. copied (to + last) (from + last) (bytes - last) m) both.1 ∙ copied_down_on to from last bytes len heap down three.0 (omega (arith, one.0, two.0)) fits
    ∙ (λ i. copied (there i) (here i) (whole i) heap))
