use Rattle.std.proofs.Common.{◌≡◌, false, drop, sym, ap, ◌∙◌, arith}
use Rattle.std.proofs.lemmas.List.{take_rest}
use Rattle.asm_lang_tokens.specs.Forms.{begins_close}
use Rattle.js_tokens.proofs.Places.{not_here}
use Rattle.js_tokens.proofs.comments.close_at.Goals as goal

pub loop-n-preserved : goal.loop-n-preserved
loop-n-preserved c =
    let s = c.args.s.now in
    let more_left : begins_close (drop c.loop-n.n s) ≡ false = ap begins_close (sym (take_rest s c.loop-n.n)) ∙ sym c.begins_close.ensures ∙ c.if-begins_close.false in
    (omega arith, not_here begins_close s c.loop-n.n c.loop-n-test.true more_left ∙ c.loop-n.invariant.1)
