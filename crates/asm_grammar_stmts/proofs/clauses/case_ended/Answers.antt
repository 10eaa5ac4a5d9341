use Rattle.std.proofs.Common.{◌∙◌, ap, Some, to_z-of_z}
use Rattle.asm_lang.specs.Machine.{clauses_by}
use Rattle.asm_grammar_nodes.specs.Views.{more_clauses}
use Rattle.asm_grammar_nodes.specs.Tall.{clauses_tall_view, stmts_tall_view}
use Rattle.asm_grammar_stmts.specs.Classes.{end_class}
use Rattle.asm_grammar_stmts.specs.Items.{items_view}
use Rattle.asm_grammar_stmts.specs.Views.{around_view, switch_view}
use Rattle.asm_grammar_stmts.proofs.StackLemmas.{switch_more, case_ends}
use Rattle.asm_grammar_stmts.proofs.StepLemmas.{ok_map}
use Rattle.asm_grammar_stmts.proofs.clauses.case_ended.Goals as goal

pub returns-in-Ok : goal.returns-in-Ok
returns-in-Ok c =
    let old = c.args.switch in
    let value = Some c.args.value in
    let body = items_view c.args.stmts in
    let more =
    c.in-Ok.ensures.clauses
    ∙ ap (λ v. more_clauses (clauses_tall_view old.clauses) (Some v) (stmts_tall_view c.into_stmts.result)) (to_z-of_z c.ranges.value)
    ∙ ap (λ ss. more_clauses (clauses_tall_view old.clauses) value ss) c.into_stmts.ensures in
    ok_map c.next_clause.result
    (λ r is k t. is k t ∙ ap (λ f. clauses_by (end_class c.args.end) t f) (switch_more old c.in-Ok.switch value body (around_view c.args.around k) more c.in-Ok.ensures.at c.in-Ok.ensures.subject)
    ∙ case_ends c.args.end t c.args.value body (switch_view old (around_view c.args.around k)))
    c.next_clause.ensures
