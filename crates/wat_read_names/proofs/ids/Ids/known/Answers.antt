use Rattle.std.proofs.Common.{sym, ap, ◌∙◌}
use Rattle.wat_lang.specs.Names.{index_of}
use Rattle.wat_lang.specs.Rows.{known_use}
use Rattle.wat_read_names.proofs.Places.{number_index, id_index, place_known}
use Rattle.wat_read_names.proofs.ids.Ids.known.Goals as goal

pub returns-then-is_number : goal.returns-then-is_number
returns-then-is_number c =
    c.small_number.ensures
    ∙ ap known_use (sym (number_index c.args.self.now c.atom-text.result.now (sym c.is_number.ensures ∙ c.if-is_number.true)) ∙ ap (index_of c.args.self.now) c.atom-text.ensures)

pub returns-else-is_number : goal.returns-else-is_number
returns-else-is_number c =
    place_known c.place.result c.place.ensures.small
    ∙ ap known_use (c.place.ensures.place ∙ sym (id_index c.args.self.now c.atom-text.result.now (sym c.is_number.ensures ∙ c.if-is_number.false)) ∙ ap (index_of c.args.self.now) c.atom-text.ensures)
