use Rattle.std.proofs.Common.{length}
use Rattle.wat_lang.specs.Rows as spec
use Rattle.wat_read_names.specs.Fields.{field_of}
use Rattle.wat_read_rows.proofs.FieldByField.{count_more}
use Rattle.wat_read_rows.proofs.orders.Count.note.Goals as goal

pub returns : goal.returns
returns c = λ most fs h.
    count_more c.args.space most fs (field_of c.args.field.now) c.args.self.now _ c.place_in-place.result c.is_some.result h c.place_in-place.ensures c.is_some.ensures
    c.room_after-self.ensures (c.note_over.ensures most (length (spec.entries_in c.args.space fs)) h.room)
