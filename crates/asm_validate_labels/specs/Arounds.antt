-- What stands round a statement, by the code's values.
use Rattle.std.specs.Prelude.{List}
use Rattle.asm_lang_valid.specs.Typing.{Around}
use Rattle.asm_validate_labels.specs.declared.places.Place.{Place}
use Rattle.asm_validate_labels.specs.Open.{Entry, labels_in}

abbrev pub around_view : Place → List Entry → Around
around_view p es = record { in_breakable = p.in_breakable; in_loop = p.in_loop; labels = labels_in es }
