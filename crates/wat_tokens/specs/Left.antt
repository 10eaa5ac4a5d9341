-- What is left of a text whose tokens are cut off one by one.
use Rattle.std.specs.Prelude.{◌<◌, ℕ, [], Ok, Err, length}
use Rattle.wat_lang.specs.Tokens.{Reading, Reads, with_first}
use Rattle.wat_tokens.specs.declared.scanner.Scanner.{Scanner}
use Rattle.wat_tokens.specs.declared.scanner.Next.{Next}
use Rattle.wat_tokens.specs.declared.scanner.Next.TheVariants as nexts
use Rattle.wat_tokens.specs.Views.{token_of}

-- these tokens are left, or this is the first fault of what is left
abbrev pub IsLeft : Scanner → Reading → Type 0
IsLeft s r = Reads s.at s.rest.now r

abbrev pub IsFirstFault : Scanner → ℕ → Type 0
IsFirstFault s at = IsLeft s (Err at)

-- Of what is left first and what is left then: the token stands before what is left then, which is shorter; or nothing was left; or
-- a fault stood there.
abbrev pub IsNext : Next → Scanner → Scanner → Type 0
IsNext (nexts.Token t) s n = (length n.rest.now < length s.rest.now) × ((r : Reading) → IsLeft n r → IsLeft s (with_first (token_of t) r))
IsNext nexts.End s n = IsLeft s (Ok [])
IsNext (nexts.Fault at) s n = IsFirstFault s at
