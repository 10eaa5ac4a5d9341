-- The row that a pass found.
use Rattle.std.specs.Prelude.{Option, Some, None, Result, Ok, Err}
use Rattle.asm_lang_valid.specs.declared.rule.Met.{Met}

abbrev pub row_of : Result (Unit {0}) Met → Option Met
row_of (Ok u) = None
row_of (Err x) = Some x
