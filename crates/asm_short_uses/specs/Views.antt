-- What the code's uses say.
use Rattle.std.specs.Prelude.{List, map}
use Rattle.sem_words.specs.Lists.{text_bytes}
use Rattle.asm_short_lang.specs.Uses as plain
use Rattle.asm_short_uses.specs.declared.naming.Use.{Use}
use Rattle.asm_short_uses.specs.declared.naming.Use.TheVariants.{Variable, View, Callee, Table}

abbrev pub use_view : Use → plain.Use
use_view (Variable n) = plain.of_variable (text_bytes n.now)
use_view (View n) = plain.of_view (text_bytes n.now)
use_view (Callee n) = plain.of_callee (text_bytes n.now)
use_view (Table n) = plain.of_table (text_bytes n.now)

abbrev pub uses_view : List Use → List plain.Use
uses_view us = map use_view us
