use Rattle.std.proofs.Common.{◌∙◌, sym}
use Rattle.asm_grammar_nodes.specs.Views.{lexeme_view}
use Rattle.asm_grammar_stmts.specs.Views.{around_view, switch_view}
use Rattle.asm_grammar_stmts.proofs.Beginning.{clause_ended, no_clause_begins}
use Rattle.asm_grammar_stmts.proofs.StepLemmas.{ok_map}
use Rattle.asm_grammar_stmts.proofs.clauses.clause_step.Goals as goal

pub returns-in-Some : goal.returns-in-Some
returns-in-Some c =
    let t = lexeme_view c.args.token.now in
    ok_map c.next_clause.result
    (λ r is k. is k t ∙ sym (clause_ended t.class t (switch_view c.args.switch (around_view c.args.around k)) c.in-Some.end (sym c.list_end.ensures ∙ c.in-Some.is)))
    c.next_clause.ensures

pub returns-in-None : goal.returns-in-None
returns-in-None c =
    let t = lexeme_view c.args.token.now in
    λ k. sym (no_clause_begins t.class t (switch_view c.args.switch (around_view c.args.around k)) (sym c.list_end.ensures ∙ c.in-None.is))
