-- What is known of variables holds of terms: their bounds, and that they are multiples of four.
use Rattle.std.proofs.Common.{◌≡◌, ℕ, ◌+◌, ◌-◌, ◌*◌, ◌%◌, ◌^◌, ◌≤◌, Bool, true, false, ◌||◌, List, [], ◌∷◌, Option, Some, None, refl, ap, ◌∙◌, subst, arith}
use Rattle.std.proofs.Math.Nat.{mod-le, mul-mod_left, mul-le-mul}
use Rattle.std.proofs.Math.Pow.{mod-mod-pow}
use Rattle.std.proofs.lemmas.Nat.{and_le_l, and_le_r, and_comm, and_mod, or_mod, xor_mod, mul-mod, pow-add}
use Rattle.std.proofs.lemmas.Bool.{and_parts}
use Rattle.std.proofs.lemmas.Bool.Decides.{nat_tests, Decides-eqb}
use Rattle.std.specs.Prelude.{if◌then◌else◌, ◌==◌, nat_lt, nat_le, bit_and, bit_or, bit_xor}
use Rattle.sem_words.specs.Words.{word_of, rel_of}
use Rattle.wasm2js_translation.specs.Names.{Name, same_name}
use Rattle.wasm2js_translation.specs.Words.{conjunction, disjunction, exclusion, shift_left, Term, read, number, both, sum, product, compare, choose, Summands, no_more, further}
use Rattle.wasm2js_translation.specs.Known.{Known, nothing_known, fact_of, capped, lesser, greater_of, added_bounds, product_bound, shifted_bound, is_within, by_four, all_by_four, are_disjoint, bound, sum_bound, term_fact}
use Rattle.wasm2js_laws_places.specs.Straight.{Words, value, summed, added, relation_of, truth}
use Rattle.wasm2js_laws_places.specs.Knowing.{IsBound, IsFact, AreKnown, TermsAreBounded}
use Rattle.wasm2js_laws_places.proofs.SameNames.{same_is}

either_way : {P : Type 0} (x y : Bool) → (x || y) ≡ true → (x ≡ true → P) → (y ≡ true → P) → P
either_way true y e first second = first refl
either_way false y e first second = second e

-- ---- multiples of four

four_and : (a b : ℕ) → a % 4 ≡ 0 → bit_and a b % 4 ≡ 0
four_and a b h = and_mod a b 2 ∙ ap (λ x. bit_and x (b % 4)) h

and_four : (a b : ℕ) → b % 4 ≡ 0 → bit_and a b % 4 ≡ 0
and_four a b h = ap (λ x. x % 4) (and_comm a b) ∙ four_and b a h

four_or : (a b : ℕ) → a % 4 ≡ 0 → b % 4 ≡ 0 → bit_or a b % 4 ≡ 0
four_or a b h k = or_mod a b 2 ∙ ap (λ x. bit_or x (b % 4)) h ∙ k

four_xor : (a b : ℕ) → a % 4 ≡ 0 → b % 4 ≡ 0 → bit_xor a b % 4 ≡ 0
four_xor a b h k = xor_mod a b 2 ∙ ap (λ x. bit_xor x (b % 4)) h ∙ k

four_times : (a b : ℕ) → a % 4 ≡ 0 → a * b % 2 ^ 32 % 4 ≡ 0
four_times a b h = mod-mod-pow (a * b) 30 2 ∙ mul-mod a b 4 ∙ ap (λ x. x * (b % 4) % 4) h ∙ omega arith

times_four : (a b : ℕ) → b % 4 ≡ 0 → a * b % 2 ^ 32 % 4 ≡ 0
times_four a b h = mod-mod-pow (a * b) 30 2 ∙ mul-mod a b 4 ∙ ap (λ x. a % 4 * x % 4) h ∙ omega arith

four_power : (k : ℕ) → 2 ≤ k → 2 ^ k % 4 ≡ 0
four_power k h =
    let e : k ≡ (k - 2) + 2 = omega (arith, h) in
    ap (λ x. 2 ^ x % 4) e ∙ ap (λ x. x % 4) (pow-add 2 (k - 2) 2) ∙ mul-mod_left (2 ^ (k - 2)) 4

four_added : (minus : Bool) (a b : ℕ) → a % 4 ≡ 0 → b % 4 ≡ 0 → added minus a b % 4 ≡ 0
four_added true a b h k = omega arith
four_added false a b h k = omega arith

-- a multiple of four has no bit of a number below four
none_in_common : (a b : ℕ) → a % 4 ≡ 0 → b ≤ 3 → bit_and a b ≡ 0
none_in_common a b h k = let e = four_and a b h in let l = and_le_r a b in omega (arith, e, l, k)

-- ---- bounds

is_at_most : (m n : ℕ) → nat_le m n ≡ true → m ≤ n
is_at_most m n h = grind (arith, nat_tests)

isnt_at_most : (m n : ℕ) → nat_le m n ≡ false → n ≤ m
isnt_at_most m n h = grind (arith, nat_tests)

capped_bound : (m w : ℕ) → w ≤ m → IsBound (capped m) w
capped_bound m w h = by (nat_lt m (2 ^ 32))
  where
    by : (b : Bool) → IsBound (if b then Some m else None) w
    by true = h
    by false = tt

pub lesser_bound : (a b : Option ℕ) (w : ℕ) → IsBound a w → IsBound b w → IsBound (lesser a b) w
lesser_bound None b w h k = k
lesser_bound (Some m) None w h k = h
lesser_bound (Some m) (Some n) w h k = by (nat_le m n)
  where
    by : (b : Bool) → w ≤ (if b then m else n)
    by true = h
    by false = k

greater_of_first : (a b : Option ℕ) (w : ℕ) → IsBound a w → IsBound (greater_of a b) w
greater_of_first None b w h = tt
greater_of_first (Some m) None w h = tt
greater_of_first (Some m) (Some n) w h = by (nat_le m n) refl
  where
    by : (b : Bool) → nat_le m n ≡ b → w ≤ (if b then n else m)
    by true e = let l = is_at_most m n e in omega (arith, l, h)
    by false e = h

greater_of_second : (a b : Option ℕ) (w : ℕ) → IsBound b w → IsBound (greater_of a b) w
greater_of_second None b w h = tt
greater_of_second (Some m) None w h = tt
greater_of_second (Some m) (Some n) w h = by (nat_le m n) refl
  where
    by : (b : Bool) → nat_le m n ≡ b → w ≤ (if b then n else m)
    by true e = h
    by false e = let l = isnt_at_most m n e in omega (arith, l, h)

added_bound : (a b : Option ℕ) (v w : ℕ) → IsBound a v → IsBound b w → IsBound (added_bounds a b) (added false v w)
added_bound None b v w h k = tt
added_bound (Some m) None v w h k = tt
added_bound (Some m) (Some n) v w h k = let l = mod-le (v + w) (2 ^ 32) in capped_bound (m + n) (added false v w) (omega (arith, l, h, k))

times_bound : (m n v w : ℕ) → v ≤ m → w ≤ n → IsBound (capped (m * n)) (v * w % 2 ^ 32)
times_bound m n v w h k =
    let l = mod-le (v * w) (2 ^ 32) in
    let g : v * w ≤ m * n = mul-le-mul h k in
    capped_bound (m * n) (v * w % 2 ^ 32) (omega (arith, l, g))

multiplied_bound : (a b : Option ℕ) (v w : ℕ) → IsBound a v → IsBound b w → IsBound (product_bound a b) (v * w % 2 ^ 32)
multiplied_bound None b v w h k = tt
multiplied_bound (Some m) None v w h k = tt
multiplied_bound (Some m) (Some n) v w h k = times_bound m n v w h k

moved_bound : (a : Option ℕ) (count v : ℕ) → IsBound a v → IsBound (shifted_bound a count) (v * 2 ^ count % 2 ^ 32)
moved_bound None count v h = tt
moved_bound (Some m) count v h = times_bound m (2 ^ count) v (2 ^ count) h (omega arith)

within_bound : (a : Option ℕ) (most w : ℕ) → IsBound a w → is_within a most ≡ true → w ≤ most
within_bound None most w h e = absurd (cc e)
within_bound (Some m) most w h e = let l = is_at_most m most e in omega (arith, l, h)

truth_bound : (b : Bool) → truth b ≤ 1
truth_bound true = omega arith
truth_bound false = omega arith

-- ---- terms

nothing_holds : (w : ℕ) → IsFact nothing_known w
nothing_holds w = record { bound = tt; by_four = λ e. absurd (cc e) }

pub fact_holds : (ks : List Known) (words : Words) (n : Name) → AreKnown ks words → IsFact (fact_of ks n) (words n)
fact_holds [] words n h = nothing_holds (words n)
fact_holds (k ∷ ks) words n h = by (same_name k.name n) refl (fact_holds ks words n h.1)
  where
    by : (b : Bool) → same_name k.name n ≡ b → IsFact (fact_of ks n) (words n) → IsFact (if b then k.fact else fact_of ks n) (words n)
    by true e rest = subst (λ m. IsFact k.fact (words m)) (same_is k.name n e) h.0
    by false e rest = rest

module _ (ks : List Known) (words : Words) (heap : List ℕ) (h : AreKnown ks words) where
  abbrev word : Term → ℕ
  word t = value t words heap

  mutual
    by_four_holds : (t : Term) → by_four ks t ≡ true → word t % 4 ≡ 0
    by_four_holds (read n) e = (fact_holds ks words n h).by_four e
    by_four_holds (number z) e = (Decides-eqb (word_of 32 z % 4) 0).0 e
    by_four_holds (both conjunction a b) e =
        either_way (by_four ks a) (by_four ks b) e (λ f. four_and (word a) (word b) (by_four_holds a f)) (λ f. and_four (word a) (word b) (by_four_holds b f))
    by_four_holds (both disjunction a b) e =
        let k = and_parts (by_four ks a) (by_four ks b) e in four_or (word a) (word b) (by_four_holds a k.0) (by_four_holds b k.1)
    by_four_holds (both exclusion a b) e =
        let k = and_parts (by_four ks a) (by_four ks b) e in four_xor (word a) (word b) (by_four_holds a k.0) (by_four_holds b k.1)
    by_four_holds (both shift_left a (number z)) e =
        let count = word_of 32 z % 32 in
        either_way (by_four ks a) (nat_le 2 count) e (λ f. four_times (word a) (2 ^ count) (by_four_holds a f)) (λ f. times_four (word a) (2 ^ count) (four_power count (is_at_most 2 count f)))
    by_four_holds (sum a ts) e = let k = and_parts (by_four ks a) (all_by_four ks ts) e in all_hold ts (word a) (by_four_holds a k.0) k.1
    by_four_holds (product a b) e =
        either_way (by_four ks a) (by_four ks b) e (λ f. four_times (word a) (word b) (by_four_holds a f)) (λ f. times_four (word a) (word b) (by_four_holds b f))
    by_four_holds (choose t a b) e = let k = and_parts (by_four ks a) (by_four ks b) e in by (word t == 0) (by_four_holds a k.0) (by_four_holds b k.1)
      where
        by : (x : Bool) → word a % 4 ≡ 0 → word b % 4 ≡ 0 → (if x then word b else word a) % 4 ≡ 0
        by true f g = g
        by false f g = f
    by_four_holds t e = absurd (cc e)

    all_hold : (ts : Summands) (x : ℕ) → x % 4 ≡ 0 → all_by_four ks ts ≡ true → summed ts x words heap % 4 ≡ 0
    all_hold no_more x f e = f
    all_hold (further minus t ts) x f e =
        let k = and_parts (by_four ks t) (all_by_four ks ts) e in all_hold ts (added minus x (word t)) (four_added minus x (word t) f (by_four_holds t k.0)) k.1

  disjoint_hold : (a : Term) (most : Option ℕ) (w : ℕ) → IsBound most w → are_disjoint ks a most ≡ true → bit_and (word a) w ≡ 0
  disjoint_hold a most w f e = let k = and_parts (by_four ks a) (is_within most 3) e in none_in_common (word a) w (by_four_holds a k.0) (within_bound most 3 w f k.1)

  conjunction_bound : (a b : Term) → IsBound (bound ks a) (word a) → IsBound (bound ks b) (word b) → IsBound (bound ks (both conjunction a b)) (bit_and (word a) (word b))
  conjunction_bound a b f g = by (are_disjoint ks a (bound ks b) || are_disjoint ks b (bound ks a)) refl
    where
      none : bit_and (word a) (word b) ≡ 0 → bit_and (word a) (word b) ≤ 0
      none e = omega (arith, e)

      by : (x : Bool) → (are_disjoint ks a (bound ks b) || are_disjoint ks b (bound ks a)) ≡ x
          → IsBound (if x then Some 0 else lesser (bound ks a) (bound ks b)) (bit_and (word a) (word b))
      by true e =
          none
          (either_way (are_disjoint ks a (bound ks b)) (are_disjoint ks b (bound ks a)) e (λ k. disjoint_hold a (bound ks b) (word b) g k)
          (λ k. and_comm (word a) (word b) ∙ disjoint_hold b (bound ks a) (word a) f k))
      by false e = lesser_bound (bound ks a) (bound ks b) (bit_and (word a) (word b)) (of_first (bound ks a) f) (of_second (bound ks b) g)
        where
          of_first : (o : Option ℕ) → IsBound o (word a) → IsBound o (bit_and (word a) (word b))
          of_first None k = tt
          of_first (Some m) k = let l = and_le_l (word a) (word b) in omega (arith, l, k)

          of_second : (o : Option ℕ) → IsBound o (word b) → IsBound o (bit_and (word a) (word b))
          of_second None k = tt
          of_second (Some m) k = let l = and_le_r (word a) (word b) in omega (arith, l, k)

  mutual
    bound_holds : (t : Term) → IsBound (bound ks t) (word t)
    bound_holds (read n) = (fact_holds ks words n h).bound
    bound_holds (number z) = omega arith
    bound_holds (both conjunction a b) = conjunction_bound a b (bound_holds a) (bound_holds b)
    bound_holds (both shift_left a (number z)) = moved_bound (bound ks a) (word_of 32 z % 32) (word a) (bound_holds a)
    bound_holds (sum a ts) = sum_holds ts (bound ks a) (word a) (bound_holds a)
    bound_holds (product a b) = multiplied_bound (bound ks a) (bound ks b) (word a) (word b) (bound_holds a) (bound_holds b)
    bound_holds (compare signed r a b) = truth_bound (rel_of 32 (relation_of signed r) (word a) (word b))
    bound_holds (choose t a b) = by (word t == 0) (bound_holds a) (bound_holds b)
      where
        by : (x : Bool) → IsBound (bound ks a) (word a) → IsBound (bound ks b) (word b) → IsBound (greater_of (bound ks a) (bound ks b)) (if x then word b else word a)
        by true f g = greater_of_second (bound ks a) (bound ks b) (word b) g
        by false f g = greater_of_first (bound ks a) (bound ks b) (word a) f
    bound_holds t = tt

    sum_holds : (ts : Summands) (m : Option ℕ) (x : ℕ) → IsBound m x → IsBound (sum_bound ks m ts) (summed ts x words heap)
    sum_holds no_more m x f = f
    sum_holds (further false t ts) m x f = sum_holds ts (added_bounds m (bound ks t)) (added false x (word t)) (added_bound m (bound ks t) x (word t) f (bound_holds t))
    sum_holds (further true t ts) m x f = tt

  pub term_holds : (t : Term) → IsFact (term_fact ks t) (word t)
  term_holds t = record { bound = bound_holds t; by_four = by_four_holds t }

  -- a test that is bounded so passes
  pub tested_bound : (t : Term) (most : ℕ) → is_within (bound ks t) most ≡ true → word t ≤ most
  tested_bound t most e = within_bound (bound ks t) most (word t) (bound_holds t) e

pub bounded_terms : TermsAreBounded
bounded_terms ks t words heap h = let k = term_holds ks words heap h t in (k.bound, k.by_four)
