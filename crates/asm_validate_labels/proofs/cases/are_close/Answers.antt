use Rattle.std.proofs.Common.{arith}
use Rattle.std.proofs.lemmas.Int.{ints}
use Rattle.asm_tree.specs.Views.{clauses_view}
use Rattle.asm_lang_valid.specs.Typing as typing
use Rattle.asm_validate_labels.proofs.Spans.{close_span, span_close, same_test}
use Rattle.asm_validate_labels.proofs.cases.are_close.Goals as goal

pub returns : goal.returns
returns c =
    let vs = typing.values (clauses_view c.args.clauses.now) in
    let g = c.greatest_value.ensures.value in
    let l = c.least_value.ensures.value in
    same_test _ (typing.close_together vs) (λ h. let k = close_span vs c.requires h in grind (arith, ints)) (λ h. span_close vs (grind (arith, ints)))
