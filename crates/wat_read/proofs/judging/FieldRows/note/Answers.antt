use Rattle.std.proofs.Common.{◌∙◌, ap, Option}
use Rattle.wat_lang.specs.Rows as spec
use Rattle.wat_read_names.specs.Fields.{field_of}
use Rattle.wat_read_refusals.specs.Joined.{join}
use Rattle.wat_read_fields.specs.Contexts.{module_names, module_types}
use Rattle.wat_read.proofs.Judged.{field_more}
use Rattle.wat_read.proofs.judging.FieldRows.note.Goals as goal

pub returns-clause-noted : goal.returns-clause-noted
returns-clause-noted c = λ ks fs h.
    let names = module_names c.args.context in
    let types = module_types c.args.context in
    let uses = c.in_ok-note_uses.ensures in
    let kind = c.in_ok-note_kind.ensures in
    field_more names types c.args.self.now c.note_kind.new.self c.note_uses.new.self.fields ks fs (field_of c.args.field.now) c.requires h
    (kind.numbers ∙ uses.numbers ∙ c.number_rows-fits.ensures.noted) (kind.locals ∙ ap (λ (o : Option spec.Refusal). join o (spec.least (spec.local_spaces (field_of c.args.field.now)))) uses.locals) uses.fields kind.fields
