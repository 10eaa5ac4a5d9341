-- The number of a name, letter by letter: numbers that differ have names that differ.
use Rattle.std.proofs.Common.{◌≡◌, ℕ, zero, suc, ◌+◌, ◌-◌, ◌*◌, ◌/◌, ◌%◌, ◌<◌, ◌≤◌, Bool, true, false, ◌&&◌, List, [], ◌∷◌, ◌++◌, length, nat_lt, eqb, refl, sym, ap, ◌∙◌, arith}
use Rattle.std.proofs.lemmas.List.{length-append}
use Rattle.std.proofs.lemmas.Bool.Decides.{nat_tests}
use Rattle.std.proofs.Math.Nat.{mod-add-div, div-le_self}
use Rattle.std.specs.Prelude.{if◌then◌else◌, ◌==◌}
use Rattle.asm_short_lang.specs.Sequence.{letters, letter, spelled, numbered}
use Rattle.asm_laws_sequence.specs.Laws.{place}

-- ---- letters

-- what holds of all numbers below one
abbrev all_below : ℕ → (ℕ → Bool) → Bool
all_below zero p = true
all_below (suc n) p = p n && all_below n p

and_first : (a b : Bool) → (a && b) ≡ true → a ≡ true
and_first true b h = refl
and_first false b h = cc

and_second : (a b : Bool) → (a && b) ≡ true → b ≡ true
and_second true b h = h
and_second false b h = cc

below : (n : ℕ) (p : ℕ → Bool) → all_below n p ≡ true → (i : ℕ) → i < n → p i ≡ true
below zero p h i k = absurd (omega (arith, k))
below (suc n) p h i k = elim (eqb i n) as (λ b. eqb i n ≡ b → p i ≡ true) [
  | true ↦ λ e. let same : i ≡ n = grind (arith, nat_tests) in ap p same ∙ and_first (p n) (all_below n p) h
  | false ↦ λ e. below n p (and_second (p n) (all_below n p) h) i (let other : i ≡ n → ⊥ = λ s. grind (arith, nat_tests) in omega arith)
] refl

all_placed : all_below 64 (λ d. place (letter d) == d) ≡ true
all_placed = refl

pub placed : (d : ℕ) → d < 64 → place (letter d) ≡ d
placed d h = let k = below 64 (λ d. place (letter d) == d) all_placed d h in grind (arith, nat_tests)

-- ---- names

-- the number of a name that begins with one of number a
numbered_after : ℕ → List ℕ → ℕ
numbered_after a [] = a
numbered_after a (c ∷ cs) = numbered_after (54 + (64 * a + place c)) cs

number_of : List ℕ → ℕ
number_of [] = 0
number_of (c ∷ cs) = numbered_after (place c) cs

after_last : (a : ℕ) (cs : List ℕ) (c : ℕ) → numbered_after a (cs ++ c ∷ []) ≡ 54 + (64 * numbered_after a cs + place c)
unfolding numbered_after
after_last a [] c = refl
after_last a (x ∷ cs) c = after_last (54 + (64 * a + place x)) cs c

of_last : (cs : List ℕ) (c : ℕ) → 0 < length cs → number_of (cs ++ c ∷ []) ≡ 54 + (64 * number_of cs + place c)
unfolding number_of
of_last [] c h = absurd (omega arith)
of_last (x ∷ cs) c h = after_last (place x) cs c

-- a name has a letter
has_letters : (bound i : ℕ) → 0 < length (spelled bound i)
has_letters zero i = omega arith
has_letters (suc bound) i = elim (nat_lt i 54) as (λ b. 0 < length (if b then letter i ∷ [] else (spelled bound ((i - 54) / 64) ++ letter ((i - 54) % 64) ∷ []))) [
  | true ↦ omega arith
  | false ↦ omega (arith, length-append (spelled bound ((i - 54) / 64)) (letter ((i - 54) % 64) ∷ []))
]

first_of : (i : ℕ) → i < 64 → number_of (letter i ∷ []) ≡ i
unfolding number_of numbered_after
first_of i h = placed i h

number_is : (bound i : ℕ) → i ≤ bound → number_of (spelled bound i) ≡ i
number_is zero i h = first_of i (omega arith)
number_is (suc bound) i h = elim (nat_lt i 54) as (λ b. nat_lt i 54 ≡ b → number_of (if b then letter i ∷ [] else (spelled bound ((i - 54) / 64) ++ letter ((i - 54) % 64) ∷ [])) ≡ i) [
  | true ↦ λ e. first_of i (let low : i < 54 = grind (arith, nat_tests) in omega arith)
  | false ↦ λ e.
      let high : 54 ≤ i = grind (arith, nat_tests) in
      let q = (i - 54) / 64 in
      let r = (i - 54) % 64 in
      let whole : r + 64 * q ≡ i - 54 = mod-add-div (i - 54) 64 in
      let less : q ≤ i - 54 = div-le_self (i - 54) 64 in
      let rest : number_of (spelled bound q) ≡ q = number_is bound q (omega arith) in
      let low : r < 64 = omega arith in
      let last : place (letter r) ≡ r = placed r low in
      let all = of_last (spelled bound q) (letter r) (has_letters bound q) in
      all ∙ (λ k. 54 + (64 * rest k + last k)) ∙ (omega arith)
] refl

pub distinct_names : (i j : ℕ) → numbered i ≡ numbered j → i ≡ j
distinct_names i j e = sym (number_is i i (omega arith)) ∙ ap number_of e ∙ number_is j j (omega arith)

-- ---- names letter by letter

is_low : (i : ℕ) → i < 54 → nat_lt i 54 ≡ true
is_low i h = grind (arith, nat_tests)

-- a bound that is large enough says nothing of the name
same_spelled : (bound other i : ℕ) → i ≤ bound → i ≤ other → spelled bound i ≡ spelled other i
same_spelled zero zero i h k = refl
same_spelled zero (suc other) i h k = ap (λ b. if b then letter i ∷ [] else (spelled other ((i - 54) / 64) ++ letter ((i - 54) % 64) ∷ [])) (sym (is_low i (omega arith)))
same_spelled (suc bound) zero i h k = ap (λ b. if b then letter i ∷ [] else (spelled bound ((i - 54) / 64) ++ letter ((i - 54) % 64) ∷ [])) (is_low i (omega arith))
same_spelled (suc bound) (suc other) i h k = elim (nat_lt i 54) as (λ b. nat_lt i 54 ≡ b → (if b then letter i ∷ [] else (spelled bound ((i - 54) / 64) ++ letter ((i - 54) % 64) ∷ [])) ≡ (if b then letter i ∷ [] else (spelled other ((i - 54) / 64) ++ letter ((i - 54) % 64) ∷ []))) [
  | true ↦ λ e. refl
  | false ↦ λ e.
      let high : 54 ≤ i = grind (arith, nat_tests) in
      let less : (i - 54) / 64 ≤ i - 54 = div-le_self (i - 54) 64 in
      ap (λ n. n ++ letter ((i - 54) % 64) ∷ []) (same_spelled bound other ((i - 54) / 64) (omega arith) (omega arith))
] refl

-- one letter
pub short_name : (i : ℕ) → i < 54 → numbered i ≡ letter i ∷ []
short_name zero h = refl
short_name (suc i) h = ap (λ b. if b then letter (suc i) ∷ [] else (spelled i ((suc i - 54) / 64) ++ letter ((suc i - 54) % 64) ∷ [])) (is_low (suc i) h)

-- one letter more
pub longer_name : (i : ℕ) → 54 ≤ i → numbered i ≡ numbered ((i - 54) / 64) ++ letter ((i - 54) % 64) ∷ []
longer_name zero h = absurd (omega arith)
longer_name (suc i) h =
    let q = (suc i - 54) / 64 in
    let less : q ≤ suc i - 54 = div-le_self (suc i - 54) 64 in
    let test : nat_lt (suc i) 54 ≡ false = grind (arith, nat_tests) in
    ap (λ b. if b then letter (suc i) ∷ [] else (spelled i q ++ letter ((suc i - 54) % 64) ∷ [])) test
    ∙ ap (λ n. n ++ letter ((suc i - 54) % 64) ∷ []) (same_spelled i q q (omega arith) (omega arith))
