use Rattle.std.proofs.Common.{◌≡◌, sym, ap, ◌∙◌, subst}
use Rattle.asm_tree.specs.Views.{module_view}
use Rattle.asm_lang.specs.Heights.{IsWellFormed}
use Rattle.asm_lang_valid.specs.Refusal.{IsAccepted}
use Rattle.asm_short_lang.specs.Short.{IsShort, IsSameOutside}
use Rattle.asm_laws_short.proofs.Outside.{short_is_same, short_is_one}
use Rattle.asm_laws_short.proofs.Accepted.{short_is_accepted}
use Rattle.asm_laws_short.proofs.WellFormed.{short_is_well_formed}
use Rattle.asm_laws_short.proofs.Twice.{short_again}
use Rattle.asm_short.proofs.Shortened.{never_refused}
use Rattle.asm_short.proofs.shortening.shorten.Goals as goal

pub validate-requires : goal.validate-requires
validate-requires c = short_is_well_formed _ _ c.module-home.ensures.well_formed c.in_ok-module.ensures

pub returns-in-Ok-clause-short : goal.returns-in-Ok-clause-short
returns-in-Ok-clause-short c = subst (IsShort (module_view c.args.checked.now)) (sym (ap module_view c.in-Ok.ensures.given)) c.in_ok-module.ensures

pub returns-in-Ok-clause-only : goal.returns-in-Ok-clause-only
returns-in-Ok-clause-only c = λ t h. short_is_one _ _ _ h c.in_ok-module.ensures ∙ sym (ap module_view c.in-Ok.ensures.given)

pub returns-in-Ok-clause-accepted : goal.returns-in-Ok-clause-accepted
returns-in-Ok-clause-accepted c = subst IsAccepted (sym (ap module_view c.in-Ok.ensures.given)) (short_is_accepted _ _ c.module-home.ensures.accepted c.in_ok-module.ensures)

pub returns-in-Ok-clause-well_formed : goal.returns-in-Ok-clause-well_formed
returns-in-Ok-clause-well_formed c = subst IsWellFormed (sym (ap module_view c.in-Ok.ensures.given)) (short_is_well_formed _ _ c.module-home.ensures.well_formed c.in_ok-module.ensures)

pub returns-in-Ok-clause-outside : goal.returns-in-Ok-clause-outside
returns-in-Ok-clause-outside c = subst (IsSameOutside (module_view c.args.checked.now)) (sym (ap module_view c.in-Ok.ensures.given)) (short_is_same _ _ c.module-home.ensures.accepted c.in_ok-module.ensures)

pub returns-in-Ok-clause-again : goal.returns-in-Ok-clause-again
returns-in-Ok-clause-again c = λ t h.
    let same = ap module_view c.in-Ok.ensures.given in
    short_again _ _ _ c.module-home.ensures.accepted (subst (IsShort (module_view c.args.checked.now)) (sym same) c.in_ok-module.ensures) h

pub unreachable-requires : goal.unreachable-requires
unreachable-requires c =
    never_refused (module_view c.in_ok-module.module) c.in-Err-Refused.field-0 c.in-Err-Refused.field-0-0 c.in-Err-Refused.field-0-1
    (short_is_accepted _ _ c.module-home.ensures.accepted c.in_ok-module.ensures) c.in-Err-Refused.ensures.exactly c.in-Err-Refused.field-0-is
