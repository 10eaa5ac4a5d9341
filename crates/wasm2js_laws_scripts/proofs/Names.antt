-- Names of a shaped module are bytes.
use Rattle.std.proofs.Common.{◌≡◌, ℕ, zero, suc, ◌+◌, ◌/◌, ◌<◌, inl, inr, Bool, true, false, cond, List, [], ◌∷◌, ◌++◌, refl, subst, arith}
use Rattle.std.specs.Prelude.{All}
use Rattle.std.specs.List.{AllByRecursion}
use Rattle.std.specs.Str.{IsUtf8}
use Rattle.std.proofs.lemmas.Bool.{and_parts, ltb-true}
use Rattle.std.proofs.Math.Dec.{ltb}
use Rattle.std.proofs.Math.Utf8.{encode, encodes, next, scalar, scalars, scalar_cases}
use Rattle.hex.specs.Hex.{IsBytes}
use Rattle.wasm_lang.specs.Modules.{Exported}
use Rattle.wasm2js_laws_scripts.specs.Laws.{ShapedExportsAreBytes}

all_of : {A : Type 0} → (P : A → Type 0) (xs : List A) → All P xs → AllByRecursion P xs
all_of P [] h = tt
all_of P (x ∷ xs) h = (h 0 x (omega arith), all_of P xs (λ k d low. h (suc k) d (omega (arith, low))))

mapped : {A : Type 0} → (P Q : A → Type 0) (xs : List A) → ((x : A) → P x → Q x) → AllByRecursion P xs → AllByRecursion Q xs
mapped P Q [] f h = tt
mapped P Q (x ∷ xs) f h = (f x h.0, mapped P Q xs f h.1)

abbrev AreLow : List ℕ → Type 0
AreLow xs = AllByRecursion (λ b. b < 256) xs

low_bytes : (xs : List ℕ) → AreLow xs → IsBytes xs
low_bytes [] h i = omega arith
low_bytes (x ∷ xs) h zero = h.0
low_bytes (x ∷ xs) h (suc i) = low_bytes xs h.1 i

both_low : (xs ys : List ℕ) → AreLow xs → AreLow ys → AreLow (xs ++ ys)
both_low [] ys p q = q
both_low (x ∷ xs) ys p q = (p.0, both_low xs ys p.1 q)

scalar_low : (c : ℕ) → scalar c ≡ true → c < 1114112
scalar_low c h = elim (scalar_cases c h) [ inl e ↦ omega (arith, e) | inr e ↦ e.1 ]

next_low : (n : ℕ) → next n < 256
next_low n = omega arith

encode_low : (c : ℕ) → scalar c ≡ true → AreLow (encode c)
unfolding encode
encode_low c h = by (ltb c 128) (ltb c 2048) (ltb c 65536) refl refl refl
  where
    small : ltb c 128 ≡ true → c < 256
    small e = let l = ltb-true c 128 e in omega (arith, l)

    two : ltb c 2048 ≡ true → 192 + c / 64 < 256
    two e = let l = ltb-true c 2048 e in omega (arith, l)

    three : ltb c 65536 ≡ true → 224 + c / 4096 < 256
    three e = let l = ltb-true c 65536 e in omega (arith, l)

    four : 240 + c / 262144 < 256
    four = let l = scalar_low c h in omega (arith, l)

    by : (x y z : Bool) → ltb c 128 ≡ x → ltb c 2048 ≡ y → ltb c 65536 ≡ z
        → AreLow (cond x (c ∷ []) (cond y ((192 + c / 64) ∷ next c ∷ []) (cond z ((224 + c / 4096) ∷ next (c / 64) ∷ next c ∷ []) ((240 + c / 262144) ∷ next (c / 4096) ∷ next (c / 64) ∷ next c ∷ []))))
    by true y z e f g = (small e, tt)
    by false true z e f g = (two f, (next_low c, tt))
    by false false true e f g = (three g, (next_low (c / 64), (next_low c, tt)))
    by false false false e f g = (four, (next_low (c / 4096), (next_low (c / 64), (next_low c, tt))))

encodes_low : (cs : List ℕ) → scalars cs ≡ true → AreLow (encodes cs)
encodes_low [] h = tt
encodes_low (c ∷ cs) h = let p = and_parts (scalar c) (scalars cs) h in both_low (encode c) (encodes cs) (encode_low c p.0) (encodes_low cs p.1)

pub utf8_bytes : (bs : List ℕ) → IsUtf8 bs → IsBytes bs
utf8_bytes bs h = low_bytes bs (subst AreLow h.1.1 (encodes_low h.0 h.1.0))

pub shaped_exports_are_bytes : ShapedExportsAreBytes
shaped_exports_are_bytes w shaped =
    mapped (λ (e : Exported). IsUtf8 e.name) (λ (e : Exported). IsBytes e.name) w.exports (λ e h. utf8_bytes e.name h) (all_of (λ (e : Exported). IsUtf8 e.name) w.exports shaped.export_names)
