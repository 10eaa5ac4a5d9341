use Rattle.std.proofs.Common.{◌-◌, drop, ap, sym, ◌∙◌, arith, length-drop}
use Rattle.asm_tree.specs.declared.tree.Clause.{Clause}
use Rattle.asm_tree.specs.Views.{clauses_view}
use Rattle.asm_lang_valid.specs.Typing as typing
use Rattle.switch_cases.specs.declared.range.CaseRange.{CaseRange}
use Rattle.switch_cases.specs.Cases.{value_before, range_of}
use Rattle.switch_cases.proofs.CaseValues.{values_put, few_values}
use Rattle.switch_cases.proofs.range.CaseRange.of.Goals as goal

pub with-range-requires : goal.with-range-requires
with-range-requires c =
    let left = drop c.loop-i.i c.args.clauses.now in
    let counted = ap (λ (r : CaseRange). r.count) c.loop-i.invariant.found in
    let few = few_values left in
    let shorter = length-drop c.loop-i.i c.args.clauses.now in
    omega arith

pub loop-i-preserved : goal.loop-i-preserved
loop-i-preserved c =
    let ks = c.args.clauses.now in
    let rest = typing.values (clauses_view (drop c.loop-i.i ks)) in
    let put = values_put ks (c.loop-i.i - 1) c.loop-i.i c.index-clauses-i.result (omega arith) (omega arith) c.index-clauses-i.is in
    record {
      within = omega arith;
      found =
          c.with-range.ensures rest c.loop-i.invariant.found
          ∙ ap (λ (k : Clause). range_of (value_before k.value rest)) (sym c.index-clauses-i.is)
          ∙ ap range_of (sym put);
    }

pub returns-clause-few : goal.returns-clause-few
returns-clause-few c =
    let left = drop c.loop-i.i c.args.clauses.now in
    let counted = ap (λ (r : CaseRange). r.count) c.loop-i.invariant.found in
    let few = few_values left in
    let shorter = length-drop c.loop-i.i c.args.clauses.now in
    omega arith
