use Rattle.std.proofs.Common.{ap, refl, ◌∙◌}
use Rattle.wat_read_tokens.specs.Marks.{marks_of}
use Rattle.wat_read.proofs.OpenFields.{none_closed}
use Rattle.wat_read.proofs.making.Making.close_none.Goals as goal

pub returns : goal.returns
returns c = λ names_of types ks h.
    none_closed names_of types c.args.self.now _ ks _ h (ap marks_of c.as_slice.ensures.value ∙ h.parts) c.number_rows.ensures.noted refl refl refl refl c.clear.ensures.items
