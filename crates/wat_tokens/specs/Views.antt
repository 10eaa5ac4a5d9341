-- Tokens of the code as those of the text form.
use Rattle.std.specs.Prelude.{◌≡◌, ℕ, ◌-◌, ◌<◌, ◌≤◌, List, length, drop}
use Rattle.wat_lang.specs.Tokens as spec
use Rattle.wat_lang.specs.Tokens.{string_from}
use Rattle.wat_tokens.specs.declared.strings.StringText.{StringText}
use Rattle.wat_tokens.specs.declared.token.Class.{Class}
use Rattle.wat_tokens.specs.declared.token.Class.TheVariants as classes
use Rattle.wat_tokens.specs.declared.token.Token.{Token}
use Rattle.wat_tokens.specs.declared.front.Front.{Front}
use Rattle.wat_tokens.specs.declared.front.Front.TheVariants as fronts
use Rattle.wat_tokens.specs.Closed.{value_of, quoted_in}

-- what a string stands for
abbrev pub string_value : StringText → List ℕ
string_value s = value_of s.behind.now

-- the bytes between its quotes
abbrev pub between_quotes : StringText → List ℕ
between_quotes s = quoted_in s.behind.now (string_from 0 s.behind.now)

abbrev pub class_of : Class → spec.Class
class_of classes.Opens = spec.opens
class_of classes.Closes = spec.closes
class_of (classes.String s) = spec.string (string_value s)
class_of (classes.Atom bytes) = spec.atom bytes.now

abbrev pub token_of : Token → spec.Token
token_of t = record { class = class_of t.class; at = t.at }

abbrev pub front_view : Front → spec.Front
front_view (fronts.Gap n) = spec.gap n
front_view (fronts.Token class n) = spec.token (class_of class) n
front_view fronts.Nothing = spec.no_front

-- it takes some of so many bytes
abbrev pub IsInside : Front → ℕ → Type 0
IsInside (fronts.Gap n) len = (0 < n) × (n ≤ len)
IsInside (fronts.Token class n) len = (0 < n) × (n ≤ len)
IsInside fronts.Nothing len = Unit {0}

-- this token stands at n and ends there
abbrev pub IsTokenUpTo : List ℕ → ℕ → Class × ℕ → Type 0
IsTokenUpTo bs n x = (spec.token (class_of x.0) (x.1 - n) ≡ spec.front_of (drop n bs)) × (n < x.1) × (x.1 ≤ length bs)
