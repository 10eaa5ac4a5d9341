use Rattle.std.proofs.Common.{◌∙◌, ap, sym}
use Rattle.asm_grammar_nodes.specs.Tall.{tall_option}
use Rattle.asm_grammar_stmts.specs.Views.{around_view, body_step_view, part_after}
use Rattle.asm_grammar_stmts.proofs.StepLemmas.{ok_map}
use Rattle.asm_grammar_stmts.proofs.state.ForPart.ended.Goals as goal

pub returns-in-First : goal.returns-in-First
returns-in-First c = λ k t.
    ap (λ r. body_step_view r k t) c.on.ensures
    ∙ ap (λ p. part_after c.args.at p (around_view c.args.around k) (tall_option c.args.value)) (sym c.in-First.is)

pub returns-in-Condition : goal.returns-in-Condition
returns-in-Condition c = λ k t.
    ap (λ r. body_step_view r k t) c.on-in-Condition.ensures
    ∙ ap (λ p. part_after c.args.at p (around_view c.args.around k) (tall_option c.args.value)) (sym c.in-Condition.is)

pub returns-in-Step : goal.returns-in-Step
returns-in-Step c =
    ok_map c.enter.result
    (λ r is k t. is k t ∙ ap (λ p. part_after c.args.at p (around_view c.args.around k) (tall_option c.args.value)) (sym c.in-Step.is))
    c.enter.ensures
