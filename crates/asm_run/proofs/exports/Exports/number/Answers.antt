use Rattle.std.proofs.Common.{List, Some, None, sym, ap, ◌∙◌}
use Rattle.std.specs.Prelude.{slice_get}
use Rattle.std.specs.Option.{option_map}
use Rattle.asm_lang_valid.specs.Refusal.{Exported}
use Rattle.asm_run.proofs.Exported.{number_here}
use Rattle.asm_run.proofs.exports.Exports.number.Goals as goal

pub returns-in_default-clause-number : goal.returns-in_default-clause-number
returns-in_default-clause-number c = number_here c.args.self.now c.args.key.now None (sym c.in_default.is ∙ c.in_ok-place.ensures.place)

pub returns-clause-number : goal.returns-clause-number
returns-clause-number c =
    c.number_at.ensures
    ∙ ap (λ (es : List Exported). option_map (λ (e : Exported). e.function) (slice_get es c.in-Some.place)) (c.self.view_is ∙ c.in_ok-place.ensures.same)
    ∙ number_here c.args.self.now c.args.key.now (Some c.in-Some.place) (sym c.in-Some.is ∙ c.in_ok-place.ensures.place)
