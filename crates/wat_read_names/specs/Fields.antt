-- Fields of the code as those of the text form.
use Rattle.wat_lang.specs.Names as spec
use Rattle.wat_read_names.specs.declared.field.Field.{Field}
use Rattle.wat_read_names.specs.declared.field.Entry.{Entry}
use Rattle.wat_read_tokens.specs.Marks.{marks_of}

abbrev pub field_of : Field → spec.Field
field_of f = record { kind = f.kind; at = f.at; parts = marks_of f.parts.now }

abbrev pub entry_of : Entry → spec.Entry
entry_of e = record { space = e.space; at = e.at }
