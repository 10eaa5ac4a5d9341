-- Locals and globals among the words of variables: one of them, and one that is set.
use Rattle.std.proofs.Common.{◌≡◌, ℕ, zero, suc, ◌+◌, ◌<◌, false, List, [], ◌∷◌, Some, sym, ap, ◌∙◌, arith}
use Rattle.std.specs.Prelude.{slice_get, slice_set, ◌==◌}
use Rattle.std.proofs.lemmas.Bool.Decides.{nat_tests}
use Rattle.sem_words.specs.declared.word.Word.{Word}
use Rattle.wasm_lang.specs.declared.types.ValType.{ValType}
use Rattle.wasm2js_translation.specs.Pairs.{Pair}
use Rattle.wasm2js_laws_places.specs.Straight.{Words}
use Rattle.wasm2js_laws_places.specs.Places.{value_at}

pub differs : (x y : ℕ) → x < y → (x == y) ≡ false
differs x y h = grind (arith, nat_tests, h)

differs_above : (x y : ℕ) → y < x → (x == y) ≡ false
differs_above x y h = grind (arith, nat_tests, h)

pub from_zero : (x : ℕ) → x ≡ 0 + x
from_zero x = omega arith

-- values of these types from number y on, each of which stands in a pair
module _ (pair : ℕ → Pair) (all : ℕ → List ValType → Words → List Word) (none : (y : ℕ) (words : Words) → all y [] words ≡ [])
    (next : (y : ℕ) (t : ValType) (ts : List ValType) (words : Words) → all y (t ∷ ts) words ≡ value_at t (pair y) words ∷ all (suc y) ts words) where
  pub got : (y : ℕ) (ts : List ValType) (k : ℕ) (t : ValType) (words : Words) → slice_get ts k ≡ Some t → slice_get (all y ts words) k ≡ Some (value_at t (pair (y + k)) words)
  got y [] k t words e = absurd (cc e)
  got y (u ∷ ts) zero t words e =
      let same : u ≡ t = cc e in
      let at : y ≡ y + 0 = omega arith in
      ap (λ vs. slice_get vs 0) (next y u ts words) ∙ ap (λ t. Some (value_at t (pair y) words)) same ∙ ap (λ y. Some (value_at t (pair y) words)) at
  got y (u ∷ ts) (suc k) t words e =
      let at : suc y + k ≡ y + suc k = omega arith in
      ap (λ vs. slice_get vs (suc k)) (next y u ts words) ∙ got (suc y) ts k t words e ∙ ap (λ y. Some (value_at t (pair y) words)) at

  -- all but number x keep theirs
  module _ (x : ℕ) (words after : Words) (others : (y : ℕ) → (x == y) ≡ false → (t : ValType) → value_at t (pair y) words ≡ value_at t (pair y) after) where
    pub above : (y : ℕ) (ts : List ValType) → x < y → all y ts words ≡ all y ts after
    above y [] h = none y words ∙ sym (none y after)
    above y (t ∷ ts) h =
        next y t ts words ∙ ap (λ v. v ∷ all (suc y) ts words) (others y (differs x y h) t)
        ∙ ap (λ vs. value_at t (pair y) after ∷ vs) (above (suc y) ts (omega (arith, h))) ∙ sym (next y t ts after)

    pub is_set : (y : ℕ) (ts : List ValType) (k : ℕ) (t : ValType) → x ≡ y + k → slice_get ts k ≡ Some t → slice_set (all y ts words) k (value_at t (pair x) after) ≡ all y ts after
    is_set y [] k t at e = absurd (cc e)
    is_set y (u ∷ ts) zero t at e =
        let same : t ≡ u = cc e in
        let here : x ≡ y = omega (arith, at) in
        ap (λ vs. slice_set vs 0 (value_at t (pair x) after)) (next y u ts words) ∙ ap (λ t. value_at t (pair x) after ∷ all (suc y) ts words) same
        ∙ ap (λ n. value_at u (pair n) after ∷ all (suc y) ts words) here ∙ ap (λ vs. value_at u (pair y) after ∷ vs) (above (suc y) ts (omega (arith, here)))
        ∙ sym (next y u ts after)
    is_set y (u ∷ ts) (suc k) t at e =
        ap (λ vs. slice_set vs (suc k) (value_at t (pair x) after)) (next y u ts words)
        ∙ ap (λ v. v ∷ slice_set (all (suc y) ts words) k (value_at t (pair x) after)) (others y (differs_above x y (omega (arith, at))) u)
        ∙ ap (λ vs. value_at u (pair y) after ∷ vs) (is_set (suc y) ts k t (omega (arith, at)) e) ∙ sym (next y u ts after)
