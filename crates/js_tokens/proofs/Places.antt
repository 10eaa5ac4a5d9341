-- The first place that passes, as loops find it.
use Rattle.std.proofs.Common.{◌≡◌, ℕ, ◌+◌, ◌<◌, Bool, false, List, ◌∷◌, length, get_or, drop, Option, Some, None, refl, sym, ap, ◌∙◌, arith}
use Rattle.std.proofs.lemmas.List.{at_drop_more}
use Rattle.asm_lang_tokens.specs.Text.{next_place, first_place}

abbrev pub added : ℕ → Option ℕ → Option ℕ
added n None = None
added n (Some k) = Some (n + k)

added-next : (n : ℕ) (o : Option ℕ) → added n (next_place o) ≡ added (n + 1) o
added-next n None = refl
added-next n (Some k) = ap Some (omega arith)

pub not_here : (test : List ℕ → Bool) (s : List ℕ) (n : ℕ) → n < length s → test (drop n s) ≡ false → added (n + 1) (first_place test (drop (n + 1) s)) ≡ added n (first_place test (drop n s))
not_here test s n lt h =
    let here : test (get_or s n 0 ∷ drop (n + 1) s) ≡ false = sym (at_drop_more test s n 0 lt) ∙ h in
    rw (at_drop_more (first_place test) s n 0 lt, here) (sym (added-next n (first_place test (drop (n + 1) s))))
