use Rattle.std.proofs.Common.{◌≡◌, ◌-◌, drop, ap, sym, ◌∙◌, arith, rules, w64, FitsSigned}
use Rattle.std.proofs.lemmas.Int.{ints, to_z-of_z}
use Rattle.asm_tree.specs.declared.tree.Clause.{Clause}
use Rattle.asm_tree.specs.Views.{clauses_view}
use Rattle.asm_lang_valid.specs.Typing as typing
use Rattle.asm_validate_labels.specs.Cases.{least, value_before}
use Rattle.asm_validate_labels.proofs.CaseValues.{values_put}
use Rattle.asm_validate_labels.proofs.Spans.{spans}
use Rattle.asm_validate_labels.proofs.cases.least_value.Goals as goal

pub loop-i-preserved : goal.loop-i-preserved
loop-i-preserved c =
    let fits : FitsSigned w64 c.lesser-low.result = search rules in
    let rest = typing.values (clauses_view (drop c.loop-i.i c.args.clauses.now)) in
    record {
      within = omega arith;
      found =
          to_z-of_z w64 c.lesser-low.result fits
          ∙ c.lesser-low.ensures rest c.loop-i.invariant.found
          ∙ ap (λ (k : Clause). least (value_before k.value rest)) (sym c.index-clauses-i.is)
          ∙ ap least (sym (values_put c.args.clauses.now (c.loop-i.i - 1) c.loop-i.i c.index-clauses-i.result (omega arith) (omega arith) c.index-clauses-i.is));
    }

pub returns-clause-low : goal.returns-clause-low
returns-clause-low c =
    let s = spans (typing.values (clauses_view c.args.clauses.now)) c.requires in
    let low = s.least_low in
    let z : c.loop-i.i ≡ 0 = omega arith in
    let found = c.loop-i.invariant.found ∙ ap (λ i. least (typing.values (clauses_view (drop i c.args.clauses.now)))) z in
    omega (arith, ints)

pub returns-clause-high : goal.returns-clause-high
returns-clause-high c =
    let s = spans (typing.values (clauses_view c.args.clauses.now)) c.requires in
    let high = s.least_high in
    let z : c.loop-i.i ≡ 0 = omega arith in
    let found = c.loop-i.invariant.found ∙ ap (λ i. least (typing.values (clauses_view (drop i c.args.clauses.now)))) z in
    omega (arith, ints)
