use Rattle.std.proofs.Common.{◌≡◌, ◌+◌, ◌-◌, ap, ◌∙◌, arith}
use Rattle.heap_lang.specs.Heap.{copied}
use Rattle.heap_views.proofs.BlockLemmas.{chained, copied_up_on}
use Rattle.heap_views.proofs.block.Block.copy_up.Goals as goal

pub returns : goal.returns
returns c =
    let to = c.args.to in let from = c.args.from in let len = c.args.len in let block = c.args.self.now in let heap = block.cells.bytes in
    let pages = c.copy_up_by-pages in let rest = c.copy_up_short in let first = pages.ensures.copied in let done = pages.result in
    let exact : done + (len - done) ≡ len = omega (arith, first.0) in
    chained block pages.new.self rest.new.self _ _ _ first.1 rest.ensures
    (ap (λ m. copied (to + done) (from + done) (len - done) m) first.1.1 ∙ copied_up_on to from done (len - done) heap c.requires.1 (omega (arith, exact, c.requires.2)) ∙ ap (λ k. copied to from k heap) exact)
