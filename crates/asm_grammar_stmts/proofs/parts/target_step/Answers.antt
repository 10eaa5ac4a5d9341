use Rattle.std.proofs.Common.{◌∙◌, ap, sym, Some, None}
use Rattle.asm_lang.specs.Machine.{ends, goes, feed}
use Rattle.asm_grammar_nodes.specs.Views.{lexeme_view}
use Rattle.asm_grammar_stmts.specs.Views.{around_view, body_step_view, jump_view}
use Rattle.asm_grammar_stmts.proofs.StepLemmas.{ok_map, no_target, target_last, target_named}
use Rattle.asm_grammar_stmts.proofs.parts.target_step.Goals as goal

pub returns-then-token : goal.returns-then-token
returns-then-token c =
    let t = lexeme_view c.args.token.now in
    ok_map c.end_step.result
    (λ r is k.
    let k' = around_view c.args.around k in
    let jump = jump_view c.args.kind c.args.at in
    is k ∙ ap (λ s. feed (ends (k' s)) t) c.jump.ensures
    ∙ sym (target_last c.args.token.now.class t (λ l. k' (jump l)) (feed (ends (k' (jump None))) t) c.in-Identifier.is c.if-token.true))
    c.end_step.ensures

pub returns-in_default : goal.returns-in_default
returns-in_default c =
    let t = lexeme_view c.args.token.now in
    ok_map c.end_step-in_default.result
    (λ r is k.
    let k' = around_view c.args.around k in
    let jump = jump_view c.args.kind c.args.at in
    is k ∙ ap (λ s. feed (ends (k' s)) t) c.jump-in_default.ensures
    ∙ sym (no_target c.args.token.now.class t (λ l. k' (jump l)) (feed (ends (k' (jump None))) t) c.in_default.not-Identifier))
    c.end_step-in_default.ensures

pub returns-in-Ok : goal.returns-in-Ok
returns-in-Ok c = λ k.
    let t = lexeme_view c.args.token.now in
    let k' = around_view c.args.around k in
    let jump = jump_view c.args.kind c.args.at in
    ap (λ r. body_step_view r k t) c.on.ensures
    ∙ ap (λ s. goes (ends (k' s))) (c.jump-in-Ok.ensures ∙ ap (λ n. jump (Some n)) c.in-Ok.ensures)
    ∙ sym (target_named c.args.token.now.class t (λ l. k' (jump l)) (feed (ends (k' (jump None))) t) c.in-Identifier.is c.if-token.false)
