use Rattle.std.proofs.Common.{◌∙◌, [], ◌∷◌, ◌++◌, sym, ap}
use Rattle.wat_tokens.specs.Left.{IsLeft}
use Rattle.wat_tokens.specs.Views.{token_of}
use Rattle.wat_tokens.proofs.GoingOn.{one_more}
use Rattle.wat_marks.specs.Views.{outside_after}
use Rattle.wat_marks.proofs.Words.{outside_more}
use Rattle.wat_marks.proofs.outside.outside_behind.Goals as goal

pub loop-token-preserved : goal.loop-token-preserved
loop-token-preserved c =
    let so_far = c.loop-token.invariant.0 in
    let t = c.in-Token.token in (
      so_far ++ token_of t ∷ [],
      one_more (IsLeft c.args.from) so_far t c.loop-token.scanner c.next.new.self c.loop-token.invariant.1 c.in-Token.ensures,
      c.outside_after-found.ensures ∙ ap (λ o. outside_after o (token_of t)) c.loop-token.invariant.2 ∙ sym (outside_more so_far (token_of t)),
    )
