use Rattle.std.proofs.Common.{◌∙◌, ap, Option}
use Rattle.std.specs.Prelude.{flat_map}
use Rattle.wat_lang.specs.Rows as spec
use Rattle.wat_read_tokens.specs.Marks.{marks_of}
use Rattle.wat_read_refusals.specs.Joined.{join}
use Rattle.wat_read_refusals.specs.Single.{module_spaces}
use Rattle.wat_read_outline.proofs.outline.TokenNotes.taken.Goals as goal

pub returns : goal.returns
returns c = λ ks h.
    c.in_ok-module_taken.ensures ks (ap marks_of c.as_slice.ensures.value ∙ h.bindings)
    ∙ ap (λ (o : Option spec.Refusal). join o (spec.least (flat_map (λ s. spec.taken_in s ks) module_spaces))) c.new-taken.ensures
