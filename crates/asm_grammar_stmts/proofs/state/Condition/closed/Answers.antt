use Rattle.std.proofs.Common.{◌∙◌, ap, sym}
use Rattle.asm_grammar_nodes.specs.Tall.{tall_view}
use Rattle.asm_grammar_stmts.specs.Views.{around_view, body_step_view, condition_view}
use Rattle.asm_grammar_stmts.proofs.StepLemmas.{ok_map}
use Rattle.asm_grammar_stmts.proofs.state.Condition.closed.Goals as goal

pub returns-in-If : goal.returns-in-If
returns-in-If c =
    ok_map c.enter.result
    (λ r is k t. is k t ∙ ap (λ x. condition_view x (around_view c.args.around k) (tall_view c.args.expr)) (sym c.in-If.is))
    c.enter.ensures

pub returns-in-While : goal.returns-in-While
returns-in-While c =
    ok_map c.enter-in-While.result
    (λ r is k t. is k t ∙ ap (λ x. condition_view x (around_view c.args.around k) (tall_view c.args.expr)) (sym c.in-While.is))
    c.enter-in-While.ensures

pub returns-in-Switch : goal.returns-in-Switch
returns-in-Switch c = λ k t.
    ap (λ r. body_step_view r k t) c.on-in-Switch.ensures
    ∙ ap (λ x. condition_view x (around_view c.args.around k) (tall_view c.args.expr)) (sym c.in-Switch.is)
