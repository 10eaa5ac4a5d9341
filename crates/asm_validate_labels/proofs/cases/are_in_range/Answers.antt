use Rattle.std.proofs.Common.{◌≡◌, ◌+◌, ◌&&◌, true, false, drop, ap, sym, ◌∙◌, rules}
use Rattle.asm_tree.specs.Views.{clauses_view}
use Rattle.asm_lang_valid.specs.Typing as typing
use Rattle.asm_validate_labels.proofs.CaseValues.{range_step}
use Rattle.asm_validate_labels.proofs.cases.are_in_range.Goals as goal

pub returns-then-not-value_fits : goal.returns-then-not-value_fits
returns-then-not-value_fits c =
    let no : c.value_fits.result ≡ false = search rules in
    sym (c.loop-clause.invariant
    ∙ range_step c.args.clauses.now c.loop-clause.clause-index c.clause-item.result c.value_fits.result c.loop-clause-test.true c.clause-item.is c.value_fits.ensures
    ∙ ap (λ b. b && typing.in_range (typing.values (clauses_view (drop (c.loop-clause.clause-index + 1) c.args.clauses.now)))) no)

pub loop-clause-preserved : goal.loop-clause-preserved
loop-clause-preserved c =
    let yes : c.value_fits.result ≡ true = search rules in
    c.loop-clause.invariant
    ∙ range_step c.args.clauses.now c.loop-clause.clause-index c.clause-item.result c.value_fits.result c.loop-clause-test.true c.clause-item.is c.value_fits.ensures
    ∙ ap (λ b. b && typing.in_range (typing.values (clauses_view (drop (c.loop-clause.clause-index + 1) c.args.clauses.now)))) yes
