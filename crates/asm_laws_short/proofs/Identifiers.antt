-- The names that are given are identifiers.
use Rattle.std.proofs.Common.{◌≡◌, ℕ, zero, suc, ◌-◌, ◌/◌, ◌%◌, ◌<◌, ◌≤◌, Bool, true, false, ◌&&◌, List, [], ◌∷◌, ◌++◌, refl, sym, ap, ◌∙◌, subst, ◌⊎◌, inl, inr, arith, eq-or-lt_of_le, div-le_self}
use Rattle.std.proofs.lemmas.Bool.{and_parts}
use Rattle.std.proofs.lemmas.Bool.Decides.{nat_tests}
use Rattle.std.specs.Prelude.{map, bytes_eq, codes, nat_lt}
use Rattle.std.specs.List.{list_all}
use Rattle.asm_lang_tokens.specs.Bytes.{begins_name, is_name_byte}
use Rattle.asm_lang_tokens.specs.Forms.{is_name, kind_of, name}
use Rattle.asm_lang.specs.Lexemes.{Class, identifier, Entry, class_in, class_of, reserved_words}
use Rattle.asm_laws_print.specs.Spelled.{HasClass}
use Rattle.asm_lang_valid.specs.Scope.{is_in}
use Rattle.asm_short_lang.specs.Sequence.{letter, numbered, forbidden, first_names}
use Rattle.asm_laws_sequence.proofs.Distinct.{short_name, longer_name}
use Rattle.asm_laws_short.proofs.Lists.{either_false, in_neither}
use Rattle.asm_laws_short.proofs.Fresh.{numbered_in}

-- ---- letters

abbrev all_below : ℕ → (ℕ → Bool) → Bool
all_below zero p = true
all_below (suc n) p = p n && all_below n p

below_holds : (n : ℕ) (p : ℕ → Bool) (k : ℕ) → all_below n p ≡ true → k < n → p k ≡ true
below_holds zero p k h l = absurd (omega arith)
below_holds (suc n) p k h l = let q = and_parts (p n) (all_below n p) h in by q.0 (eq-or-lt_of_le (let w : k ≤ n = omega arith in w)) (λ l. below_holds n p k q.1 l)
  where
    by : p n ≡ true → (k ≡ n) ⊎ (k < n) → (k < n → p k ≡ true) → p k ≡ true
    by e (inl f) rest = subst (λ j. p j ≡ true) (sym f) e
    by e (inr f) rest = rest f

letters_begin : all_below 54 (λ d. begins_name (letter d)) ≡ true
letters_begin = refl

letters_follow : all_below 64 (λ d. is_name_byte (letter d)) ≡ true
letters_follow = refl

-- ---- names

longer_is_name : (n : List ℕ) (b : ℕ) → is_name n ≡ true → is_name_byte b ≡ true → is_name (n ++ b ∷ []) ≡ true
longer_is_name [] b h k = absurd (cc h)
longer_is_name (a ∷ n) b h k = let p = and_parts (begins_name a) (list_all is_name_byte n) h in let e = p.0 in rw e (by n p.1)
  where
    by : (n : List ℕ) → list_all is_name_byte n ≡ true → list_all is_name_byte (n ++ b ∷ []) ≡ true
    by [] h = rw k refl
    by (c ∷ n) h = let q = and_parts (is_name_byte c) (list_all is_name_byte n) h in let e = q.0 in rw e (by n q.1)

numbered_is_name : (bound i : ℕ) → i ≤ bound → is_name (numbered i) ≡ true
numbered_is_name bound i l = by bound i l (nat_lt i 54) refl
  where
    one_letter : (i : ℕ) → i < 54 → is_name (numbered i) ≡ true
    one_letter i h = subst (λ n. is_name n ≡ true) (sym (short_name i h)) (let e = below_holds 54 (λ d. begins_name (letter d)) i letters_begin h in rw e refl)

    below : (i : ℕ) → nat_lt i 54 ≡ true → i < 54
    below i e = grind (arith, nat_tests)

    above : (i : ℕ) → nat_lt i 54 ≡ false → 54 ≤ i
    above i e = grind (arith, nat_tests)

    by : (bound i : ℕ) → i ≤ bound → (b : Bool) → nat_lt i 54 ≡ b → is_name (numbered i) ≡ true
    by zero i l b e = one_letter i (omega (arith, l))
    by (suc bound) i l true e = one_letter i (below i e)
    by (suc bound) i l false e =
        let h = above i e in
        let q = div-le_self (i - 54) 64 in
        let k : (i - 54) / 64 ≤ bound = omega arith in
        let m : (i - 54) % 64 < 64 = omega arith in
        subst (λ n. is_name n ≡ true) (sym (longer_name i h)) (longer_is_name (numbered ((i - 54) / 64)) (letter ((i - 54) % 64)) (by bound ((i - 54) / 64) k (nat_lt ((i - 54) / 64) 54) refl) (below_holds 64 (λ d. is_name_byte (letter d)) ((i - 54) % 64) letters_follow m))

not_reserved : (es : List Entry) (n : List ℕ) (last : Class) → is_in n (map (λ (e : Entry). e.spelling) es) ≡ false → class_in es n last ≡ last
not_reserved [] n last h = refl
not_reserved (e ∷ es) n last h = let p = either_false (bytes_eq e.spelling n) (is_in n (map (λ (e : Entry). e.spelling) es)) h in let g = p.0 in rw g (not_reserved es n last p.1)

pub free_is_identifier : (i : ℕ) (n : List ℕ) → numbered i ≡ n → is_in n forbidden ≡ false → HasClass identifier n
free_is_identifier i n e h =
    let f : is_name n ≡ true = subst (λ z. is_name z ≡ true) e (numbered_is_name i i (omega arith)) in
    let k : kind_of n ≡ name = rw f refl in
    ap (λ z. class_of z n) k ∙ not_reserved reserved_words n identifier (in_neither n (map (λ (e : Entry). e.spelling) reserved_words) (codes "arguments" ∷ codes "eval" ∷ codes "__proto__" ∷ []) h).0

pub first_are_identifiers : (excluded : List (List ℕ)) (count : ℕ) (n : List ℕ) → is_in n (first_names excluded count) ≡ true → HasClass identifier n
first_are_identifiers excluded count n h =
    let w = numbered_in (forbidden ++ excluded) count 0 n h in
    free_is_identifier w.number n w.is (in_neither n forbidden excluded w.free).0
