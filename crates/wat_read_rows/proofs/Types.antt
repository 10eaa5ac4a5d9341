-- Lists of types, compared item by item.
use Rattle.std.proofs.Common.{◌≡◌, ℕ, suc, ◌+◌, ◌<◌, Bool, true, false, ◌&&◌, ◌↔◌, List, [], ◌∷◌, length, get_or, drop, refl, ap, ◌∙◌}
use Rattle.std.specs.Prelude.{IsTrue}
use Rattle.wasm_lang.specs.declared.types.ValType.{ValType}
use Rattle.wasm_lang.specs.declared.types.ValType.TheVariants.{I32, I64}
use Rattle.wat_lang.specs.Rows.{same_types}
use Rattle.wat_read_tokens.proofs.Steps.{front}

pub lengths_differ : (xs ys : List ValType) → (length xs ≡ length ys → ⊥) → false ≡ same_types xs ys
lengths_differ [] [] h = absurd (h refl)
lengths_differ [] (y ∷ ys) h = refl
lengths_differ (I32 ∷ xs) [] h = refl
lengths_differ (I64 ∷ xs) [] h = refl
lengths_differ (I32 ∷ xs) (I32 ∷ ys) h = lengths_differ xs ys (λ e. h (ap suc e))
lengths_differ (I32 ∷ xs) (I64 ∷ ys) h = refl
lengths_differ (I64 ∷ xs) (I32 ∷ ys) h = refl
lengths_differ (I64 ∷ xs) (I64 ∷ ys) h = lengths_differ xs ys (λ e. h (ap suc e))

types_front : (x y : ValType) (xs ys : List ValType) → same_types (x ∷ xs) (y ∷ ys) ≡ (same_types (x ∷ []) (y ∷ []) && same_types xs ys)
types_front I32 I32 xs ys = refl
types_front I32 I64 xs ys = refl
types_front I64 I32 xs ys = refl
types_front I64 I64 xs ys = refl

-- the first of those that are left, and the rest
pub types_at : (xs ys : List ValType) (i : ℕ) (x y : ValType) → i < length xs → i < length ys → x ≡ get_or xs i x → y ≡ get_or ys i y
    → same_types (drop i xs) (drop i ys) ≡ (same_types (x ∷ []) (y ∷ []) && same_types (drop (i + 1) xs) (drop (i + 1) ys))
types_at xs ys i x y lt lu is js =
    ap (λ (zs : List ValType). same_types zs (drop i ys)) (front xs i x lt is)
    ∙ ap (λ (zs : List ValType). same_types (x ∷ drop (i + 1) xs) zs) (front ys i y lu js)
    ∙ types_front x y (drop (i + 1) xs) (drop (i + 1) ys)

no_types : (xs : List ValType) → xs ≡ [] → same_types xs [] ≡ true
no_types xs e = ap (λ (zs : List ValType). same_types zs []) e

some_types : (xs : List ValType) → same_types xs [] ≡ true → xs ≡ []
some_types [] h = refl
some_types (I32 ∷ xs) h = absurd cc
some_types (I64 ∷ xs) h = absurd cc

by_test : (b c : Bool) (xs : List ValType) → IsTrue b ↔ (xs ≡ []) → same_types xs [] ≡ c → b ≡ c
by_test true true xs h e = refl
by_test true false xs h e = absurd (let f = no_types xs (h.0 refl) in cc)
by_test false true xs h e = absurd (let f = h.1 (some_types xs e) in cc)
by_test false false xs h e = refl

pub are_none : (b : Bool) (xs : List ValType) → IsTrue b ↔ (xs ≡ []) → b ≡ same_types xs []
are_none b xs h = by_test b (same_types xs []) xs h refl
