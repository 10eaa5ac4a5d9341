-- What is wanted for a natural number.
use Rattle.std.specs.Prelude.{ℕ, Bool, true, false, unwrap_or}
use Rattle.wat_lang.specs.Grammar.{Marked}
use Rattle.wat_lang.specs.Names.{Names, text_of, index_of}
use Rattle.wat_read_tokens.specs.declared.tokens.Wanted.{Wanted}
use Rattle.wat_read_tokens.specs.declared.tokens.Wanted.TheVariants as wanted

abbrev pub is_natural : Wanted → Bool
is_natural wanted.Minimum = true
is_natural wanted.Maximum = true
is_natural _ = false

-- the number that a token names in a space, or 0
abbrev pub number_named : Names → Marked → ℕ
number_named names m = unwrap_or (index_of names (text_of m)) 0
