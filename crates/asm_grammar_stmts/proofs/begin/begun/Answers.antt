use Rattle.std.proofs.Common.{◌∙◌, ap, sym}
use Rattle.asm_lang.specs.Machine.{feed}
use Rattle.asm_grammar_nodes.specs.Views.{lexeme_view}
use Rattle.asm_grammar_nodes.specs.Tall.{tall_view}
use Rattle.asm_grammar_exprs.specs.Views.{expr_step_view}
use Rattle.asm_grammar_stmts.proofs.Beginning.{nothing_done}
use Rattle.asm_grammar_stmts.proofs.begin.begun.Goals as goal

pub returns-in-Done : goal.returns-in-Done
returns-in-Done c =
    let t = lexeme_view c.args.token.now in
    λ k. nothing_done t (tall_view c.in-Done.field-0) (λ j. ap (λ x. expr_step_view x j t) (sym c.in-Done.is) ∙ c.in-Ok.ensures j ∙ ap (λ s. feed s t) (c.start.ensures j)) k

pub returns-in-Ok : goal.returns-in-Ok
returns-in-Ok c =
    let t = lexeme_view c.args.token.now in
    λ k. ap (λ x. expr_step_view x k t) (sym c.in-Stuck.is) ∙ c.in-Ok.ensures k ∙ ap (λ s. feed s t) (c.start.ensures k)

pub returns-in-On : goal.returns-in-On
returns-in-On c =
    let t = lexeme_view c.args.token.now in
    λ k. ap (λ x. expr_step_view x k t) (sym c.in-On.is) ∙ c.in-Ok.ensures k ∙ ap (λ s. feed s t) (c.start.ensures k)
