-- What one field or one token adds to the rows.
use Rattle.std.specs.Prelude.{ℕ, ◌&&◌, List, [], ◌++◌, length, Option, Some, None, nat_le, if◌then◌else◌}
use Rattle.wasm_lang.specs.Limits.{most_levels}
use Rattle.wat_lang.specs.declared.parts.Space.{Space}
use Rattle.wat_lang.specs.declared.fault.Row.TheVariants as rows
use Rattle.wat_lang.specs.Grammar.{Marked}
use Rattle.wat_lang.specs.Names.{same_space, Entry, Names}
use Rattle.wat_lang.specs.Rows.{Refusal, where_holds, is_unknown_use, opens_block}

-- the place of an entry of the space
abbrev pub place_in : Space → Option Entry → Option ℕ
place_in s None = None
place_in s (Some e) = if same_space s e.space then Some e.at else None

abbrev pub over_row : (most before : ℕ) → Option ℕ → List Refusal
over_row most before None = []
over_row most before (Some at) = where_holds (nat_le most before) rows.Limit at

-- what a token uses that nothing binds, and a block that it opens past the limit
abbrev pub use_row : (Names → Space → Names) → (labels : Names) → Marked → List Refusal
use_row names labels m =
    where_holds (is_unknown_use (names labels) m) rows.IdUnknown m.token.at
    ++ where_holds (opens_block m.mark && nat_le most_levels (length labels)) rows.Limit m.token.at
