use Rattle.std.proofs.Common.{◌≡◌, ℕ, ◌+◌, ◌-◌, ◌≤◌, length, take, drop, ap, ◌∙◌, arith}
use Rattle.std.proofs.lemmas.List.{length-drop, take_all}
use Rattle.heap_lang.specs.Heap.{with_run}
use Rattle.heap_views.specs.Block.{Becomes}
use Rattle.heap_views.proofs.BlockLemmas.{chained, put_by}
use Rattle.heap_views.proofs.block.Block.put.Goals as goal

pub returns : goal.returns
returns c =
    let at = c.args.at in let bytes = c.args.bytes.now in let block = c.args.self.now in let heap = block.cells.bytes in
    let lines = c.put_by-lines in let words = c.put_by-words in let rest = c.put_by in let done = lines.result + words.result in
    let first = lines.ensures.written in let second = words.ensures.written in let third = rest.ensures.written in
    let tail : (n : ℕ) → take (length bytes - n) (drop n bytes) ≡ drop n bytes = λ n. take_all (length bytes - n) (drop n bytes) (omega (arith, length-drop n bytes)) in
    let fits : done ≤ length bytes = omega (arith, first.0, second.0, ap length (tail lines.result), length-drop lines.result bytes) in
    let both : Becomes block words.new.self (with_run at (take done bytes) heap) =
    chained block lines.new.self words.new.self _ _ _ first.1 second.1
    (ap (λ l. with_run (at + lines.result) (take words.result l) lines.new.self.cells.bytes) (tail lines.result)
    ∙ ap (λ m. with_run (at + lines.result) (take words.result (drop lines.result bytes)) m) first.1.1 ∙ put_by at lines.result words.result bytes heap fits c.requires.1) in
    let exact : done + rest.result ≡ length bytes = omega (arith, fits, third.0, rest.ensures.left, ap length (tail done), length-drop done bytes) in
    chained block words.new.self rest.new.self _ _ _ both third.1
    (ap (λ l. with_run (at + done) (take rest.result l) words.new.self.cells.bytes) (tail done)
    ∙ ap (λ m. with_run (at + done) (take rest.result (drop done bytes)) m) both.1 ∙ put_by at done rest.result bytes heap (omega (arith, exact)) c.requires.1
    ∙ ap (λ k. with_run at (take k bytes) heap) exact ∙ ap (λ l. with_run at l heap) (take_all (length bytes) bytes (omega arith)))
