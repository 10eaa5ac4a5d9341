use Rattle.std.proofs.Common.{◌≡◌, ◌+◌, ap, ◌∙◌, arith}
use Rattle.heap_lang.specs.Heap.{filled}
use Rattle.heap_views.specs.Block.{Becomes}
use Rattle.heap_views.proofs.BlockLemmas.{chained, filled_on}
use Rattle.heap_views.proofs.block.Block.fill.Goals as goal

pub returns : goal.returns
returns c =
    let at = c.args.at in let len = c.args.len in let byte = c.args.byte in let block = c.args.self.now in let heap = block.cells.bytes in
    let lines = c.fill_by-lines in let words = c.fill_by-words in let rest = c.fill_by in let done = lines.result + words.result in
    let first = lines.ensures.written in let second = words.ensures.written in let third = rest.ensures.written in
    let both : Becomes block words.new.self (filled at done byte heap) =
    chained block lines.new.self words.new.self _ _ _ first.1 second.1
    (ap (λ m. filled (at + lines.result) words.result byte m) first.1.1 ∙ filled_on at lines.result words.result byte heap (omega (arith, first.0, second.0, c.requires.1))) in
    let exact : done + rest.result ≡ len = omega (arith, first.0, second.0, third.0, rest.ensures.left) in
    chained block words.new.self rest.new.self _ _ _ both third.1
    (ap (λ m. filled (at + done) rest.result byte m) both.1 ∙ filled_on at done rest.result byte heap (omega (arith, exact, c.requires.1)) ∙ ap (λ k. filled at k byte heap) exact)
