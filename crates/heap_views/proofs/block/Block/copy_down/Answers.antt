use Rattle.std.proofs.Common.{◌≡◌, ◌+◌, ◌-◌, sym, ap, ◌∙◌, arith}
use Rattle.heap_lang.specs.Heap.{copied}
use Rattle.heap_views.proofs.BlockLemmas.{chained, copied_down_on}
use Rattle.heap_views.proofs.block.Block.copy_down.Goals as goal

pub returns : goal.returns
returns c =
    let to = c.args.to in let from = c.args.from in let len = c.args.len in let block = c.args.self.now in let heap = block.cells.bytes in
    let pages = c.copy_down_by-left in let rest = c.copy_down_short in let first = pages.ensures.copied in let left = pages.result in
    let there : to + 0 ≡ to = omega arith in let here : from + 0 ≡ from = omega arith in let part : left - 0 ≡ left = omega arith in let whole : len - 0 ≡ len = omega arith in
    let later = copied (to + left) (from + left) (len - left) heap in
    chained block pages.new.self rest.new.self _ _ _ first.1 rest.ensures
    (ap (λ m. copied to from left m) first.1.1 ∙ sym (λ i. copied (there i) (here i) (part i) later)
    ∙ copied_down_on to from 0 left len heap c.requires.1 (omega arith) first.0 c.requires.2 ∙ (λ i. copied (there i) (here i) (whole i) heap))
