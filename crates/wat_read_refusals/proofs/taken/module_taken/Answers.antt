use Rattle.std.proofs.Common.{List, sym, ap, ◌∙◌}
use Rattle.std.specs.List.{flat_map}
use Rattle.wat_lang.specs.Grammar.{Marked}
use Rattle.wat_lang.specs.Rows as spec
use Rattle.wat_read_refusals.specs.Joined.{join}
use Rattle.wat_read_refusals.specs.Single.{module_spaces}
use Rattle.wat_read_refusals.proofs.Joins.{then_both, join_none}
use Rattle.wat_read_refusals.proofs.OfModule.{same_taken}
use Rattle.wat_read_refusals.proofs.taken.module_taken.Goals as goal

pub returns : goal.returns
returns c = λ ms e.
    then_both _ _ _ _ _ c.in_ok-taken_in.ensures
    (then_both _ _ _ _ _ c.in_ok-taken_in-2.ensures
    (then_both _ _ _ _ _ c.in_ok-taken_in-3.ensures
    (then_both _ _ _ _ _ c.in_ok-taken_in-4.ensures
    (then_both _ _ _ _ _ c.in_ok-taken_in-5.ensures
    (then_both _ _ _ _ _ c.in_ok-taken_in-6.ensures
    (then_both _ _ _ _ _ c.in_ok-taken_in-7.ensures
    (sym (join_none _))))))))
    ∙ ap (λ (ks : List Marked). join c.args.least.now (spec.least (flat_map (λ s. spec.taken_in s ks) module_spaces))) e
    ∙ ap (λ (rs : List spec.Refusal). join c.args.least.now (spec.least rs)) (same_taken ms)
