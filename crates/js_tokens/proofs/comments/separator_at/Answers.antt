use Rattle.std.proofs.Common.{◌≡◌, false, drop, sym, ap, ◌∙◌, arith}
use Rattle.std.proofs.lemmas.List.{take_rest}
use Rattle.asm_lang_tokens.specs.Forms.{begins_separator}
use Rattle.js_tokens.proofs.Places.{not_here}
use Rattle.js_tokens.proofs.comments.separator_at.Goals as goal

pub loop-n-preserved : goal.loop-n-preserved
loop-n-preserved c =
    let s = c.args.s.now in
    let more_left : begins_separator (drop c.loop-n.n s) ≡ false = ap begins_separator (sym (take_rest s c.loop-n.n)) ∙ sym c.begins_separator.ensures ∙ c.if-begins_separator.false in
    (omega arith, not_here begins_separator s c.loop-n.n c.loop-n-test.true more_left ∙ c.loop-n.invariant.1)
