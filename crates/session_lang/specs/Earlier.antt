-- The lesser of two lines, as the first line is found part by part.
use Rattle.std.specs.Prelude.{ℕ, Option, Some, None}
use Rattle.session_lang.specs.Fits.{lesser}

-- of two, where there are two
abbrev pub earlier : Option ℕ → Option ℕ → Option ℕ
earlier None o = o
earlier (Some n) o = lesser n o
