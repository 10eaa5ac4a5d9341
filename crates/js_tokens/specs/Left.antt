-- What is left of a text whose tokens are cut off one by one.
use Rattle.std.specs.Prelude.{◌<◌, false, [], Ok, Err, length}
use Rattle.asm_lang_tokens.specs.Text.{non_ascii, bad_token, open_comment, literal_form, Reading, Reads, with_first}
use Rattle.js_tokens.specs.declared.fault.TokenFault.{TokenFault}
use Rattle.js_tokens.specs.declared.fault.TokenFault.TheVariants as faults
use Rattle.js_tokens.specs.declared.scanner.Scanner.{Scanner}
use Rattle.js_tokens.specs.declared.scanner.Next.{Next}
use Rattle.js_tokens.specs.declared.scanner.Next.TheVariants as nexts
use Rattle.js_tokens.specs.Views.{placed_token}

-- these tokens are left, or this is the first fault of what is left
abbrev pub IsLeft : Scanner → Reading → Type 0
IsLeft s r = Reads s.at false s.rest.now r

abbrev pub IsFirstFault : Scanner → TokenFault → Type 0
IsFirstFault s (faults.NonAscii at) = IsLeft s (Err (record { fault = non_ascii; at = at }))
IsFirstFault s (faults.BadToken at) = IsLeft s (Err (record { fault = bad_token; at = at }))
IsFirstFault s (faults.OpenComment at) = IsLeft s (Err (record { fault = open_comment; at = at }))
IsFirstFault s (faults.LiteralForm at) = IsLeft s (Err (record { fault = literal_form; at = at }))
IsFirstFault s faults.Memory = ⊥

-- Of what is left first and what is left then: the token stands before what is left then, which is shorter; or nothing was left; or
-- a fault stood there.
abbrev pub IsNext : Next → Scanner → Scanner → Type 0
IsNext (nexts.Token t) s n = (length n.rest.now < length s.rest.now) × ((r : Reading) → IsLeft n r → IsLeft s (with_first (placed_token t) r))
IsNext nexts.End s n = IsLeft s (Ok [])
IsNext (nexts.Fault e) s n = IsFirstFault s e
