use Rattle.std.proofs.Common.{◌∙◌, ap, sym}
use Rattle.asm_lang.specs.Trees.{if_only}
use Rattle.asm_lang.specs.Machine.{arm_by, feed}
use Rattle.asm_grammar_nodes.specs.Views.{class_view, lexeme_view}
use Rattle.asm_grammar_nodes.specs.Tall.{tall_view, stmt_tall_view}
use Rattle.asm_grammar_stmts.specs.Views.{around_view}
use Rattle.asm_grammar_stmts.proofs.StepLemmas.{ok_map, arm_ended}
use Rattle.asm_grammar_stmts.proofs.ending.arm_step.Goals as goal

pub returns-in-Else : goal.returns-in-Else
returns-in-Else c =
    let t = lexeme_view c.args.token.now in
    let condition = tall_view c.args.condition in
    let first = stmt_tall_view c.args.first in
    ok_map c.enter.result
    (λ r is k.
    let k' = around_view c.args.around k in
    is k t ∙ ap (λ d. arm_by (class_view d) c.args.at condition first k' (feed (k' (if_only c.args.at condition first)) t)) (sym c.in-Else.is))
    c.enter.ensures

pub returns-in-Ok : goal.returns-in-Ok
returns-in-Ok c =
    let t = lexeme_view c.args.token.now in
    let condition = tall_view c.args.condition in
    let first = stmt_tall_view c.args.first in
    ok_map c.next_step.result
    (λ r is k.
    let k' = around_view c.args.around k in
    is k ∙ ap (λ s. feed (k' s) t) c.in-Ok.ensures
    ∙ sym (arm_ended c.args.token.now.class c.args.at condition first k' (feed (k' (if_only c.args.at condition first)) t) c.in_default.not-Else))
    c.next_step.ensures
