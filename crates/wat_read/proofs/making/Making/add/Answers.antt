use Rattle.std.proofs.Common.{refl, ap}
use Rattle.wat_grammar.specs.Views.{mark_of}
use Rattle.wat_marks.specs.Views.{marked_of}
use Rattle.wat_read_outline.specs.declared.outline.Begun.{Begun}
use Rattle.wat_read_fields.specs.Contexts.{module_names, module_types}
use Rattle.wat_read.proofs.OpenFields.{field_opened}
use Rattle.wat_read.proofs.making.Making.add.Goals as goal

pub returns-in_ok-close-in-Field : goal.returns-in_ok-close-in-Field
returns-in_ok-close-in-Field c = λ ks h leads.
    let w = c.in_ok-close-in-Field.ensures ks h in
    let b : Begun = record { kind = c.in-Field.kind; at = c.args.token.now.token.at } in
    field_opened (module_names c.args.context) (module_types c.args.context) _ b ks (marked_of c.args.token.now)
    (record { rows = w.rows; lists = w.lists; function = w.function; parts = w.parts }) (ap mark_of c.in-Field.is) refl
