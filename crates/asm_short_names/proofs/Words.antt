-- The numbers of forbidden names.
use Rattle.std.proofs.Common.{◌≡◌, ℕ, ◌||◌, List, [], ◌∷◌, map, refl, sym, ap, ◌∙◌}
use Rattle.std.proofs.lemmas.Bool.Decides.{same_from_decides, Decides-eqb, Decides-like}
use Rattle.std.proofs.lemmas.Slice.Eq.{bytes_eq-Decides}
use Rattle.std.specs.List.{list_any}
use Rattle.std.specs.Prelude.{bytes_eq, ◌==◌}
use Rattle.asm_lang_valid.specs.Scope.{is_in}
use Rattle.asm_short_lang.specs.Sequence.{numbered, forbidden}
use Rattle.asm_short_names.specs.declared.forbidden.TheConstants.{FORBIDDEN}
use Rattle.asm_laws_sequence.proofs.Distinct.{distinct_names}

pub same_number : (m n : ℕ) → bytes_eq (numbered m) (numbered n) ≡ (m == n)
same_number m n = same_from_decides (bytes_eq (numbered m) (numbered n)) (m == n) (bytes_eq-Decides (numbered m) (numbered n)) (Decides-like (m == n) (λ e. ap numbered e) (distinct_names m n) (Decides-eqb m n))

among : (n : ℕ) (ms : List ℕ) → list_any (λ m. m == n) ms ≡ is_in (numbered n) (map numbered ms)
among n [] = refl
among n (m ∷ ms) = (λ i. sym (same_number m n) i || among n ms i)

spelled_so : map numbered FORBIDDEN ≡ forbidden
spelled_so = refl

pub forbidden_is : (n : ℕ) → list_any (λ m. m == n) FORBIDDEN ≡ is_in (numbered n) forbidden
forbidden_is n = among n FORBIDDEN ∙ ap (is_in (numbered n)) spelled_so
