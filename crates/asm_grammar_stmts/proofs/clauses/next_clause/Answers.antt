use Rattle.std.proofs.Common.{◌∙◌, ap, sym}
use Rattle.asm_lang.specs.Trees.{switches}
use Rattle.asm_lang.specs.Machine.{clauses_by, goes}
use Rattle.asm_grammar_nodes.specs.Tall.{tall_view, clauses_tall_view}
use Rattle.asm_grammar_stmts.specs.Classes.{end_class}
use Rattle.asm_grammar_stmts.specs.Views.{around_view, body_step_view, switch_view}
use Rattle.asm_grammar_stmts.proofs.Following.{after_clauses-none}
use Rattle.asm_grammar_stmts.proofs.StepLemmas.{ok_map}
use Rattle.asm_grammar_stmts.proofs.clauses.next_clause.Goals as goal

pub returns-in-Case : goal.returns-in-Case
returns-in-Case c = λ k t.
    ap (λ r. body_step_view r k t) c.on.ensures
    ∙ ap (λ e. clauses_by (end_class e) t (switch_view c.args.switch (around_view c.args.around k))) (sym c.in-Case.is)

pub returns-in-Default : goal.returns-in-Default
returns-in-Default c = λ k t.
    ap (λ r. body_step_view r k t) c.on-in-Default.ensures
    ∙ ap (λ e. clauses_by (end_class e) t (switch_view c.args.switch (around_view c.args.around k))) (sym c.in-Default.is)

pub returns-in-Brace : goal.returns-in-Brace
returns-in-Brace c =
    ok_map c.finish.result
    (λ r is k t.
    let k' = around_view c.args.around k in
    let w = c.args.switch in
    is k t ∙ ap (λ s. goes (k' s)) c.stmt.ensures
    ∙ sym (after_clauses-none (clauses_tall_view w.clauses) (λ cs. goes (k' (switches w.at (tall_view w.subject) cs))))
    ∙ ap (λ e. clauses_by (end_class e) t (switch_view w k')) (sym c.in-Brace.is))
    c.finish.ensures
