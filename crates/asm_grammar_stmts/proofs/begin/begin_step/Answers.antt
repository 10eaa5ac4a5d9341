use Rattle.std.proofs.Common.{◌∙◌, ap, sym}
use Rattle.asm_lang.specs.Machine.{stmt_by}
use Rattle.asm_grammar_nodes.specs.Views.{class_view, lexeme_view}
use Rattle.asm_grammar_stmts.specs.Views.{around_view, body_step_view}
use Rattle.asm_grammar_stmts.proofs.StepLemmas.{ok_map, begin_goes}
use Rattle.asm_grammar_stmts.proofs.begin.begin_step.Goals as goal

pub returns-in_default : goal.returns-in_default
returns-in_default c =
    let other = c.in_default in
    ok_map c.expression_begins.result
    (λ r is k. is k ∙ begin_goes c.args.token.now.class (lexeme_view c.args.token.now) (around_view c.args.around k)
    other.not-Semicolon other.not-OpenBrace other.not-If other.not-While other.not-Do other.not-For other.not-Return other.not-Break other.not-Continue other.not-Switch other.not-Identifier)
    c.expression_begins.ensures

pub returns-in-If : goal.returns-in-If
returns-in-If c = λ k.
    let t = lexeme_view c.args.token.now in
    ap (λ r. body_step_view r k t) c.on.ensures ∙ ap (λ d. stmt_by (class_view d) t (around_view c.args.around k)) (sym c.in-If.is)

pub returns-in-While : goal.returns-in-While
returns-in-While c = λ k.
    let t = lexeme_view c.args.token.now in
    ap (λ r. body_step_view r k t) c.on-in-While.ensures ∙ ap (λ d. stmt_by (class_view d) t (around_view c.args.around k)) (sym c.in-While.is)

pub returns-in-For : goal.returns-in-For
returns-in-For c = λ k.
    let t = lexeme_view c.args.token.now in
    ap (λ r. body_step_view r k t) c.on-in-For.ensures ∙ ap (λ d. stmt_by (class_view d) t (around_view c.args.around k)) (sym c.in-For.is)

pub returns-in-Switch : goal.returns-in-Switch
returns-in-Switch c = λ k.
    let t = lexeme_view c.args.token.now in
    ap (λ r. body_step_view r k t) c.on-in-Switch.ensures ∙ ap (λ d. stmt_by (class_view d) t (around_view c.args.around k)) (sym c.in-Switch.is)

pub returns-in-Do : goal.returns-in-Do
returns-in-Do c =
    let t = lexeme_view c.args.token.now in
    ok_map c.enter-in-Do.result
    (λ r is k. is k t ∙ ap (λ d. stmt_by (class_view d) t (around_view c.args.around k)) (sym c.in-Do.is))
    c.enter-in-Do.ensures
