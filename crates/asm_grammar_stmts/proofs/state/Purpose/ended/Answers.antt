use Rattle.std.proofs.Common.{◌∙◌, ap, sym}
use Rattle.std.specs.Prelude.{if◌then◌else◌}
use Rattle.asm_lang.specs.Lexemes.{close_paren}
use Rattle.asm_lang.specs.Machine.{ends, feed, same_class, stuck}
use Rattle.asm_grammar_nodes.specs.Views.{class_view, lexeme_view}
use Rattle.asm_grammar_nodes.specs.Tall.{tall_view}
use Rattle.asm_grammar_stmts.specs.Views.{around_view, condition_view, purpose_view}
use Rattle.asm_grammar_stmts.proofs.StepLemmas.{ok_map, closed_wanted, closed_ends, closed_stays}
use Rattle.asm_grammar_stmts.proofs.state.Purpose.ended.Goals as goal

pub returns-in-Plain : goal.returns-in-Plain
returns-in-Plain c =
    let t = lexeme_view c.args.token.now in
    ok_map c.end_step.result
    (λ r is k.
    let k' = around_view c.args.around k in
    is k ∙ ap (λ s. feed (ends (k' s)) t) c.plain.ensures ∙ ap (λ p. feed (purpose_view p k' (tall_view c.args.expr)) t) (sym c.in-Plain.is))
    c.end_step.ensures

pub returns-in-Returned : goal.returns-in-Returned
returns-in-Returned c =
    let t = lexeme_view c.args.token.now in
    ok_map c.end_step-in-Returned.result
    (λ r is k.
    let k' = around_view c.args.around k in
    is k ∙ ap (λ s. feed (ends (k' s)) t) c.returns.ensures ∙ ap (λ p. feed (purpose_view p k' (tall_view c.args.expr)) t) (sym c.in-Returned.is))
    c.end_step-in-Returned.ensures

pub returns-then-ends_part : goal.returns-then-ends_part
returns-then-ends_part c =
    let t = lexeme_view c.args.token.now in
    ok_map c.ended.result
    (λ r is k.
    let k' = around_view c.args.around k in
    is k t ∙ sym (closed_ends c.in-For.part c.in-For.at k' (tall_view c.args.expr) t (sym c.ends_part.ensures ∙ c.if-ends_part.true))
    ∙ ap (λ p. feed (purpose_view p k' (tall_view c.args.expr)) t) (sym c.in-For.is))
    c.ended.ensures

pub returns-else-ends_part : goal.returns-else-ends_part
returns-else-ends_part c = λ k.
    let t = lexeme_view c.args.token.now in
    let k' = around_view c.args.around k in
    sym (closed_stays c.in-For.part c.in-For.at k' (tall_view c.args.expr) t (sym c.ends_part.ensures ∙ c.if-ends_part.false))
    ∙ ap (λ p. feed (purpose_view p k' (tall_view c.args.expr)) t) (sym c.in-For.is)

pub returns-in-CloseParen : goal.returns-in-CloseParen
returns-in-CloseParen c =
    let t = lexeme_view c.args.token.now in
    ok_map c.closed.result
    (λ r is k.
    let k' = around_view c.args.around k in
    let step = condition_view c.in-Condition.condition k' (tall_view c.args.expr) in
    is k t ∙ ap (λ d. if same_class close_paren (class_view d) then step else stuck t) (sym c.in-CloseParen.is)
    ∙ ap (λ p. feed (purpose_view p k' (tall_view c.args.expr)) t) (sym c.in-Condition.is))
    c.closed.ensures

pub returns-in_default : goal.returns-in_default
returns-in_default c = λ k.
    let t = lexeme_view c.args.token.now in
    let k' = around_view c.args.around k in
    closed_wanted c.args.token.now.class t (condition_view c.in-Condition.condition k' (tall_view c.args.expr)) c.in_default.not-CloseParen
    ∙ ap (λ p. feed (purpose_view p k' (tall_view c.args.expr)) t) (sym c.in-Condition.is)
