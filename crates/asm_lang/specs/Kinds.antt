-- The kinds of faults of tokens that are no module within a limit on the height. A fault's place is a number of tokens before it.
use Rattle.std.specs.Prelude.{ℕ, List}
use Rattle.asm_lang.specs.Lexemes.{Lexeme}
use Rattle.asm_lang.specs.Faults.{IsNegativeZero, IsMissingUse, IsFirstFault}
use Rattle.asm_lang.specs.HighNodes.{IsHeightFault}

pub data Kind : Type 0 where
  negative_zero : Kind  -- a prefix `-` directly before a number of value 0
  missing_use : Kind  -- no `"use asm"` right after the heading
  grammar : Kind  -- no module begins with the tokens up to the place, or they end too early
  height : Kind  -- a node above the limit is complete

-- no token completes a node above the limit
abbrev pub IsLow : ℕ → List Lexeme → Type 0
IsLow limit xs = (j : ℕ) → ¬ IsHeightFault limit xs j

-- Of a fault of the grammar and one of the height the earlier one counts. Where some module begins with the tokens up to one,
-- the grammar has no fault there.
abbrev pub IsFault : ℕ → List Lexeme → Kind → ℕ → Type 0
IsFault limit xs negative_zero k = IsNegativeZero xs k × IsLow limit xs
IsFault limit xs missing_use k = IsMissingUse xs k × IsLow limit xs
IsFault limit xs grammar k = IsFirstFault xs k × IsLow limit xs
IsFault limit xs height k = IsHeightFault limit xs k
