use Rattle.std.proofs.Common.{[], ◌∷◌, ◌++◌}
use Rattle.std.proofs.lemmas.Result.{on_ok_weaker}
use Rattle.wat_read_names.specs.Fields.{field_of}
use Rattle.wat_read_outline.specs.Outlines.{HasFields}
use Rattle.wat_read_outline.proofs.outline.FieldNotes.note.Goals as goal

pub returns : goal.returns
returns c = λ fs h.
    on_ok_weaker {Q = HasFields (record { naming = c.add.new.self; orders = c.note.new.self }) (fs ++ field_of c.args.field.now ∷ [])} _
    (λ n. record { naming = n; orders = c.note.ensures fs h.orders }) (c.add.ensures fs h.naming)
