use Rattle.std.proofs.Common.{◌∙◌, sym}
use Rattle.asm_grammar_nodes.specs.Views.{lexeme_view}
use Rattle.asm_grammar_stmts.specs.Views.{around_view}
use Rattle.asm_grammar_stmts.proofs.StepLemmas.{ok_map, part_begun, part_ends, part_stays}
use Rattle.asm_grammar_stmts.proofs.parts.part_step.Goals as goal

pub returns-then-begins_expr : goal.returns-then-begins_expr
returns-then-begins_expr c =
    let t = lexeme_view c.args.token.now in
    ok_map c.expression_begins.result
    (λ r is k. is k ∙ sym (part_begun c.args.part c.args.at (around_view c.args.around k) t (sym c.begins_expr.ensures ∙ c.if-begins_expr.true)))
    c.expression_begins.ensures

pub returns-then-ends_part : goal.returns-then-ends_part
returns-then-ends_part c =
    let t = lexeme_view c.args.token.now in
    ok_map c.ended.result
    (λ r is k. is k t ∙ sym (part_ends c.args.part c.args.at (around_view c.args.around k) t (sym c.begins_expr.ensures ∙ c.if-begins_expr.false) (sym c.ends_part.ensures ∙ c.if-ends_part.true)))
    c.ended.ensures

pub returns-else-ends_part : goal.returns-else-ends_part
returns-else-ends_part c = λ k.
    let t = lexeme_view c.args.token.now in
    sym (part_stays c.args.part c.args.at (around_view c.args.around k) t (sym c.begins_expr.ensures ∙ c.if-begins_expr.false) (sym c.ends_part.ensures ∙ c.if-ends_part.false))
