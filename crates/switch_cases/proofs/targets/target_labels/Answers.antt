use Rattle.std.proofs.Common.{◌≡◌, ◌-◌, ◌+◌, suc, length, drop, replicate, ap, sym, ◌∙◌, arith, rules, w64, FitsSigned, to_z, of_z}
use Rattle.std.proofs.lemmas.List.{length-replicate}
use Rattle.std.proofs.lemmas.Int.{to_z-of_z}
use Rattle.asm_tree.specs.declared.tree.Clause.{Clause}
use Rattle.asm_tree.specs.Views.{clauses_view}
use Rattle.asm_lang_valid.specs.Typing.{values}
use Rattle.asm_lang_exec.specs.Meaning.{before_default}
use Rattle.asm2wasm_translation.specs.Bodies.{low, span}
use Rattle.switch_cases.specs.declared.range.CaseRange.{CaseRange}
use Rattle.switch_cases.specs.Cases.{with_target, targets_from}
use Rattle.switch_cases.proofs.CaseValues.{value_within}
use Rattle.switch_cases.proofs.Tables.{within_along, targets_begin, targets_turn, targets_all, size_kept}
use Rattle.switch_cases.proofs.targets.target_labels.Goals as goal

pub loop-i-init : goal.loop-i-init
loop-i-init c =
    let ks = c.args.clauses.now in
    let vs = values (clauses_view ks) in
    let filled = c.in_ok-labels.ensures.items_if_clones_equal (λ y h. h) in
    let n : c.span.result + 1 ≡ suc (span vs) = ap (λ m. m + 1) (c.span.ensures vs c.of-range.ensures.exact) ∙ (omega arith) in
    let all = filled ∙ ap (λ m. replicate m c.before_default-default.result) n ∙ ap (replicate (suc (span vs))) c.before_default-default.ensures.exact in
    record {
      within = omega arith;
      sized = ap length all ∙ length-replicate (suc (span vs)) (before_default (clauses_view ks));
      found = all ∙ sym (targets_begin ks (before_default (clauses_view ks)) (suc (span vs)) (low vs));
    }

pub set_target-requires : goal.set_target-requires
set_target-requires c =
    let ks = c.args.clauses.now in
    let fits : FitsSigned w64 c.of-range.result.low = search rules in
    within_along _ c.index-clauses-i.result.value _ (low (values (clauses_view ks))) _
    (ap (λ (k : Clause). k.value) (sym c.index-clauses-i.is))
    (to_z-of_z w64 c.of-range.result.low fits ∙ ap (λ (r : CaseRange). r.low) c.of-range.ensures.exact)
    (value_within ks (c.loop-i.i - 1) c.loop-i.i c.index-clauses-i.result _ (omega arith) (omega arith) c.index-clauses-i.is c.loop-i.invariant.sized)

pub loop-i-preserved : goal.loop-i-preserved
loop-i-preserved c =
    let ks = c.args.clauses.now in
    let vs = values (clauses_view ks) in
    let d = before_default (clauses_view ks) in
    let fits : FitsSigned w64 c.of-range.result.low = search rules in
    let left = to_z-of_z w64 c.of-range.result.low fits ∙ ap (λ (r : CaseRange). r.low) c.of-range.ensures.exact in
    let written = c.set_target.ensures ∙ ap (λ (k : Clause). with_target k.value (to_z w64 (of_z w64 c.of-range.result.low)) (c.loop-i.i - 1) c.loop-i.labels.items) (sym c.index-clauses-i.is) in
    record {
      within = omega arith;
      sized = ap length written ∙ size_kept c.index-clauses-i.result.value (to_z w64 (of_z w64 c.of-range.result.low)) (c.loop-i.i - 1) c.loop-i.labels.items ∙ c.loop-i.invariant.sized;
      found =
          written
          ∙ ap (with_target c.index-clauses-i.result.value (to_z w64 (of_z w64 c.of-range.result.low)) (c.loop-i.i - 1)) c.loop-i.invariant.found
          ∙ targets_turn ks (c.loop-i.i - 1) c.loop-i.i c.index-clauses-i.result d (suc (span vs)) (to_z w64 (of_z w64 c.of-range.result.low)) (omega arith) (omega arith) c.index-clauses-i.is left;
    }

pub returns : goal.returns
returns c =
    let ks = c.args.clauses.now in
    let vs = values (clauses_view ks) in
    let z : c.loop-i.i ≡ 0 = omega arith in
    c.loop-i.invariant.found
    ∙ ap (λ i. targets_from (before_default (clauses_view ks)) i (suc (span vs)) (low vs) (clauses_view (drop i ks))) z
    ∙ targets_all (suc (span vs)) (low vs) (clauses_view ks)
