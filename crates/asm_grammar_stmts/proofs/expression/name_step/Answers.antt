use Rattle.std.proofs.Common.{◌∙◌, ap, sym}
use Rattle.asm_lang.specs.Trees.{plain, variable}
use Rattle.asm_lang.specs.Machine.{ends, feed}
use Rattle.asm_grammar_nodes.specs.Views.{lexeme_view, word_view}
use Rattle.asm_grammar_stmts.specs.Views.{around_view}
use Rattle.asm_grammar_stmts.proofs.StepLemmas.{ok_map, no_label}
use Rattle.asm_grammar_stmts.proofs.expression.name_step.Goals as goal

pub returns-in_default : goal.returns-in_default
returns-in_default c =
    let t = lexeme_view c.args.token.now in
    let n = word_view c.args.name in
    ok_map c.expression_step.result
    (λ r is k. is k ∙ ap (λ s. feed s t) (c.after_name-expr.ensures (λ e. ends (around_view c.args.around k (plain n.at e))))
    ∙ sym (no_label c.args.token.now.class t n (around_view c.args.around k) (feed (ends (around_view c.args.around k (plain n.at (variable n.at n.text)))) t) c.in_default.not-Colon))
    c.expression_step.ensures
