-- The row that a pass found.
use Rattle.std.specs.Prelude.{Option, Some, None, Result, Ok, Err}
use Rattle.asm_lang_valid.specs.declared.rule.Met.{Met}

abbrev pub row_of : {A : Type 0} → Result A Met → Option Met
row_of (Ok a) = None
row_of (Err x) = Some x
