-- Names in order, and the number of each name.
use Rattle.std.proofs.Common.{◌≡◌, ℕ, zero, suc, ◌+◌, ◌-◌, ◌*◌, ◌/◌, ◌%◌, ◌<◌, ◌≤◌, ◌⊎◌, inl, inr, Bool, true, false, ◌&&◌, ◌||◌, List, [], ◌∷◌, ◌++◌, length, nat_lt, eqb, refl, sym, ap, ◌∙◌, append_assoc, append-nil, arith}
use Rattle.std.proofs.lemmas.Bool.{false≢true, cases_lt}
use Rattle.std.proofs.lemmas.Bool.Decides.{nat_tests}
use Rattle.std.proofs.lemmas.List.{length-append}
use Rattle.std.proofs.Math.Nat.{mod-add-div, div-le_self}
use Rattle.std.specs.Prelude.{◌==◌, if◌then◌else◌}
use Rattle.asm_short_lang.specs.Sequence.{letters, letter, numbered}
use Rattle.asm_laws_sequence.specs.Laws.{place, precedes, IsEarlier}
use Rattle.asm_laws_sequence.proofs.Distinct.{placed, short_name, longer_name}

-- ---- in order

same_letter : (a : ℕ) → (a == a) ≡ true
same_letter a = grind (arith, nat_tests)

precedes_longer : (m n : List ℕ) (a b : ℕ) → precedes m n ≡ true → precedes (m ++ a ∷ []) (n ++ b ∷ []) ≡ true
precedes_longer [] n a b h = absurd (false≢true h)
precedes_longer (x ∷ m) [] a b h = absurd (false≢true h)
precedes_longer (x ∷ m) (y ∷ n) a b h = elim (nat_lt (place x) (place y)) as (λ c. (c || ((x == y) && precedes m n)) ≡ true → (c || ((x == y) && precedes (m ++ a ∷ []) (n ++ b ∷ []))) ≡ true) [
  | true ↦ λ k. refl
  | false ↦ λ k. elim (x == y) as (λ c. (c && precedes m n) ≡ true → (c && precedes (m ++ a ∷ []) (n ++ b ∷ [])) ≡ true) [ true ↦ λ g. precedes_longer m n a b g | false ↦ λ g. absurd (false≢true g) ] k
] h

or_true : (a b : Bool) → b ≡ true → (a || b) ≡ true
or_true true b h = refl
or_true false b h = h

precedes_last : (m : List ℕ) (a b : ℕ) → nat_lt (place a) (place b) ≡ true → precedes (m ++ a ∷ []) (m ++ b ∷ []) ≡ true
precedes_last [] a b h = ap (λ c. c || ((a == b) && false)) h
precedes_last (x ∷ m) a b h = or_true (nat_lt (place x) (place x)) _ (ap (λ c. c && precedes (m ++ a ∷ []) (m ++ b ∷ [])) (same_letter x) ∙ precedes_last m a b h)

letters_apart : (i j : ℕ) → i < j → j < 64 → nat_lt (place (letter i)) (place (letter j)) ≡ true
letters_apart i j h k = (λ t. nat_lt (placed i (omega arith) t) (placed j k t)) ∙ (let less : nat_lt i j ≡ true = grind (arith, nat_tests) in less)

earlier_along : (m n x y : List ℕ) → m ≡ x → n ≡ y → IsEarlier x y → IsEarlier m n
earlier_along m n x y p q h = elim h [
  | inl short ↦ inl (let a = ap length p in let b = ap length q in omega arith)
  | inr same ↦ inr (ap length p ∙ same.0 ∙ sym (ap length q), (λ t. precedes (p t) (q t)) ∙ same.1)
]

one_longer : (m : List ℕ) (a : ℕ) → length (m ++ a ∷ []) ≡ length m + 1
one_longer m a = length-append m (a ∷ [])

pub in_order : (bound i j : ℕ) → j ≤ bound → i < j → IsEarlier (numbered i) (numbered j)
in_order zero i j h less = absurd (omega arith)
in_order (suc bound) i j h less = elim (cases_lt j 54) [
  | inl low ↦ earlier_along _ _ (letter i ∷ []) (letter j ∷ []) (short_name i (omega arith)) (short_name j low) (inr (refl, precedes_last [] (letter i) (letter j) (letters_apart i j less (omega arith))))
  | inr high ↦
      let q = (j - 54) / 64 in
      let r = (j - 54) % 64 in
      let whole : r + 64 * q ≡ j - 54 = mod-add-div (j - 54) 64 in
      let long = longer_name j high in
      elim (cases_lt i 54) [
        | inl low ↦ inl (let a = ap length (short_name i low) in let b = ap length long ∙ one_longer (numbered q) (letter r) in let c = named q in omega arith)
        | inr both ↦
            let p = (i - 54) / 64 in
            let s = (i - 54) % 64 in
            let other : s + 64 * p ≡ i - 54 = mod-add-div (i - 54) 64 in
            let less_r : r < 64 = omega arith in
            let less_s : s < 64 = omega arith in
            let longer = longer_name i both in
            elim (cases_lt p q) [
              | inl before ↦ earlier_along _ _ (numbered p ++ letter s ∷ []) (numbered q ++ letter r ∷ []) longer long (more (numbered p) (numbered q) (letter s) (letter r) (in_order bound p q (omega arith) before))
              | inr not_before ↦
                  let same : p ≡ q = omega arith in
                  let last : s < r = omega arith in
                  earlier_along _ _ (numbered q ++ letter s ∷ []) (numbered q ++ letter r ∷ []) (longer ∙ ap (λ k. numbered k ++ letter s ∷ []) same) long
                  (inr (one_longer (numbered q) (letter s) ∙ sym (one_longer (numbered q) (letter r)), precedes_last (numbered q) (letter s) (letter r) (letters_apart s r last less_r)))
            ]
      ]
]
  where
    named : (k : ℕ) → 0 < length (numbered k)
    named k = elim (cases_lt k 54) [ inl low ↦ (let a = ap length (short_name k low) in omega arith) | inr high ↦ (let a = ap length (longer_name k high) ∙ one_longer (numbered ((k - 54) / 64)) (letter ((k - 54) % 64)) in omega arith) ]

    more : (m n : List ℕ) (a b : ℕ) → IsEarlier m n → IsEarlier (m ++ a ∷ []) (n ++ b ∷ [])
    more m n a b h = elim h [
      | inl short ↦ inl (let x = one_longer m a in let y = one_longer n b in omega arith)
      | inr same ↦ inr (one_longer m a ∙ ap (λ k. k + 1) same.0 ∙ sym (one_longer n b), precedes_longer m n a b same.1)
    ]
