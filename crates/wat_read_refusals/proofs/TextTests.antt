-- Whether bytes are a text.
use Rattle.std.proofs.Common.{◌≡◌, ℕ, List, [], Bool, true, false, refl, sym}
use Rattle.std.proofs.lemmas.Str.{IsUtf8-from_is_utf8, is_utf8-from_IsUtf8, IsUtf8-nil}
use Rattle.std.specs.Str.{IsUtf8, is_utf8}

as_false : (t : Bool) → (t ≡ true → ⊥) → false ≡ t
as_false true h = absurd (h refl)
as_false false h = refl

pub text : (b : List ℕ) → IsUtf8 b → true ≡ is_utf8 b
text b u = sym (is_utf8-from_IsUtf8 b u)

pub no_text : (b : List ℕ) → (IsUtf8 b → ⊥) → false ≡ is_utf8 b
no_text b h = as_false (is_utf8 b) (λ e. h (IsUtf8-from_is_utf8 b e))

pub no_bytes : true ≡ is_utf8 []
no_bytes = text [] IsUtf8-nil
