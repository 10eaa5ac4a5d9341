use Rattle.std.proofs.Common.{◌≡◌, ◌-◌, true, false, List, drop, ap, sym, subst, ◌∙◌, arith, rules}
use Rattle.std.specs.Prelude.{ℤ}
use Rattle.asm_tree.specs.declared.tree.Clause.{Clause}
use Rattle.asm_tree.specs.Views.{clauses_view}
use Rattle.asm_lang_valid.specs.Typing as typing
use Rattle.asm_validate_labels.specs.Cases.{value_before, Knows}
use Rattle.asm_validate_labels.proofs.CaseValues.{values_put, distinct_all}
use Rattle.asm_validate_labels.proofs.cases.are_distinct.Goals as goal

pub returns-then-not-branch : goal.returns-then-not-branch
returns-then-not-branch c =
    let no : c.in_ok-add.field-0 ≡ false = search rules in
    let ks = c.args.clauses.now in
    let rest = typing.values (clauses_view (drop c.loop-i.i ks)) in
    let put = values_put ks (c.loop-i.i - 1) c.loop-i.i c.index-clauses-i.result (omega arith) (omega arith) c.index-clauses-i.is in
    let new = c.in_ok-add.ensures.is_new rest c.loop-i.invariant.known c.loop-i.invariant.distinct in
    sym (distinct_all ks (c.loop-i.i - 1) (ap typing.distinct put ∙ ap (λ (k : Clause). typing.distinct (value_before k.value rest)) c.index-clauses-i.is ∙ sym new ∙ no))

pub loop-i-preserved : goal.loop-i-preserved
loop-i-preserved c =
    let yes : c.in_ok-add.field-0 ≡ true = search rules in
    let ks = c.args.clauses.now in
    let rest = typing.values (clauses_view (drop c.loop-i.i ks)) in
    let put = values_put ks (c.loop-i.i - 1) c.loop-i.i c.index-clauses-i.result (omega arith) (omega arith) c.index-clauses-i.is in
    let new = c.in_ok-add.ensures.is_new rest c.loop-i.invariant.known c.loop-i.invariant.distinct in
    record {
      within = omega arith;
      known = subst (λ (vs : List ℤ). Knows c.add.new.seen vs) (sym (put ∙ ap (λ (k : Clause). value_before k.value rest) c.index-clauses-i.is)) (c.in_ok-add.ensures.added rest c.loop-i.invariant.known yes);
      distinct = ap typing.distinct put ∙ ap (λ (k : Clause). typing.distinct (value_before k.value rest)) c.index-clauses-i.is ∙ sym new ∙ yes;
    }
