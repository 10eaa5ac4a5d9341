use Rattle.std.proofs.Common.{◌≡◌, [], ◌∷◌, ◌++◌, ap, sym, ◌∙◌}
use Rattle.wat_lang.specs.Names as names
use Rattle.wat_read_tokens.specs.Marks.{marks_of}
use Rattle.wat_read_fields.specs.Contexts.{module_names, module_types}
use Rattle.wat_read.proofs.OpenFields.{same_field, field_closed}
use Rattle.wat_read.proofs.making.Making.close_parts.Goals as goal

pub returns : goal.returns
returns c = λ ks h.
    let g : names.Field = record { kind = c.args.begun.kind; at = c.args.begun.at; parts = marks_of c.as_slice.result.now } in
    let same : g ≡ h.field = same_field h.field _ _ _ (sym h.kind) (sym h.at) (ap marks_of c.as_slice.ensures.value ∙ h.parts) in
    field_closed (module_names c.args.context) (module_types c.args.context) _ ks h.whole h.field g h.stands same
    (c.in_ok-fits.ensures.noted (h.stands.before ++ h.stands.first ∷ []) h.whole h.rows)
    (λ first part. c.in_ok-list_field.ensures h.whole (h.lists first) (c.in_ok-fits.ensures.fits.1 part))
    h.function c.clear.ensures.items
