use Rattle.std.proofs.Common.{◌∙◌, sym}
use Rattle.asm_lang.specs.Machine.{feed}
use Rattle.asm_grammar_nodes.specs.Views.{lexeme_view}
use Rattle.asm_grammar_nodes.specs.Tall.{stmt_tall_view}
use Rattle.asm_grammar_stmts.specs.Views.{around_view}
use Rattle.asm_grammar_stmts.proofs.StepLemmas.{ok_map, do_ended}
use Rattle.asm_grammar_stmts.proofs.ending.do_end_step.Goals as goal

pub returns-in_default : goal.returns-in_default
returns-in_default c =
    let t = lexeme_view c.args.token.now in
    ok_map c.next_step.result
    (λ r is k. is k ∙ sym (do_ended c.args.token.now.class (around_view c.args.around k (stmt_tall_view c.args.stmt)) (feed (around_view c.args.around k (stmt_tall_view c.args.stmt)) t) c.in_default.not-Semicolon))
    c.next_step.ensures
