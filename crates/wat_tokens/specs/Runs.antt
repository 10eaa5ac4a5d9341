-- Runs of bytes. Only private contracts name these.
use Rattle.std.specs.Prelude.{◌≡◌, ℕ, ◌+◌, ◌<◌, ◌≤◌, Bool, true, false, List, get_or, ◌==◌, if◌then◌else◌}
use Rattle.std.specs.Int.{w64, trailing_zeros}
use Rattle.wat_lang.specs.Tokens.{is_atom_byte}
use Rattle.wat_tokens.specs.declared.runs.Kind.{Kind}
use Rattle.wat_tokens.specs.declared.runs.Kind.TheVariants.{Atom, Plain}
use Rattle.wat_tokens.specs.Fronts.{is_plain}

abbrev pub is_of : Kind → (ℕ → Bool)
is_of Atom = is_atom_byte
is_of Plain = is_plain

-- the place of the lowest bit that is set, or n
abbrev pub first_set : ℕ → ℕ → ℕ
first_set mask n = if mask == 0 then n else trailing_zeros w64 mask

-- of n bytes from an offset on, so many pass the test up to the first that fails it
pub record IsRunIn (test : ℕ → Bool) (bs : List ℕ) (at n run : ℕ) : Type 0 where
  pub most : run ≤ n
  pub pass : (k : ℕ) → k < run → test (get_or bs (at + k) 0) ≡ true
  pub stop : run < n → test (get_or bs (at + run) 0) ≡ false
