-- The names that are given: distinct, and none that is excluded.
use Rattle.std.proofs.Common.{◌≡◌, ℕ, zero, suc, ◌+◌, ◌<◌, ◌≤◌, Bool, true, false, ◌||◌, List, [], ◌∷◌, ◌++◌, length, Option, Some, None, refl, sym, ap, subst, ◌⊎◌, inl, inr, eq-or-lt_of_le, arith}
use Rattle.std.specs.Prelude.{if◌then◌else◌, bytes_eq}
use Rattle.asm_lang_valid.specs.Scope.{is_in, is_name}
use Rattle.asm_short_lang.specs.Sequence.{numbered, forbidden, free_from, names_from, first_names}
use Rattle.asm_short_lang.specs.Renaming.{excluded_name, given_names, in_place}
use Rattle.asm_laws_sequence.proofs.Distinct.{distinct_names}
use Rattle.asm_laws_sequence.proofs.Free.{AreTaken, few_taken, as_many}
use Rattle.asm_laws_short.proofs.Lists.{same_name, itself, or_true, or_left, or_right, not_in, either_false, in_neither, Distinct}

-- ---- numbers that are free

-- the number that is found is none before, and it is free or all that were tried are taken
record Tried (taken : List (List ℕ)) (turns i r : ℕ) : Type 0 where
  later : i ≤ r
  free : (is_in (numbered r) taken ≡ false) ⊎ ((r ≡ i + turns) × AreTaken taken turns i)

all_taken : (taken : List (List ℕ)) (turns i : ℕ) → is_in (numbered i) taken ≡ true → AreTaken taken turns (i + 1) → AreTaken taken (suc turns) i
all_taken taken turns i e h j l u = by (eq-or-lt_of_le l)
  where
    by : (i ≡ j) ⊎ (i < j) → is_in (numbered j) taken ≡ true
    by (inl f) = subst (λ k. is_in (numbered k) taken ≡ true) f e
    by (inr f) = h j (omega arith) (omega arith)

tried : (taken : List (List ℕ)) (turns i : ℕ) → Tried taken turns i (free_from taken turns i)
tried taken zero i = record { later = omega arith; free = inr (omega arith, λ j l u. absurd (omega arith)) }
tried taken (suc turns) i = by (is_in (numbered i) taken) refl (tried taken turns (i + 1))
  where
    go_on : (r : ℕ) → is_in (numbered i) taken ≡ true → (is_in (numbered r) taken ≡ false) ⊎ ((r ≡ (i + 1) + turns) × AreTaken taken turns (i + 1)) → (is_in (numbered r) taken ≡ false) ⊎ ((r ≡ i + suc turns) × AreTaken taken (suc turns) i)
    go_on r e (inl f) = inl f
    go_on r e (inr f) = let q : r ≡ (i + 1) + turns = f.0 in inr (omega arith, all_taken taken turns i e f.1)

    by : (b : Bool) → is_in (numbered i) taken ≡ b → Tried taken turns (i + 1) (free_from taken turns (i + 1)) → Tried taken (suc turns) i (if b then free_from taken turns (i + 1) else i)
    by true e r = record { later = omega (arith, r.later); free = go_on (free_from taken turns (i + 1)) e r.free }
    by false e r = record { later = omega arith; free = inl e }

one_more : (taken : List (List ℕ)) (turns i r : ℕ) → r ≡ i + turns → AreTaken taken turns i → is_in (numbered r) taken ≡ true → AreTaken taken (turns + 1) i
one_more taken turns i r e h k j l u = by (eq-or-lt_of_le (let w : j ≤ r = omega arith in w))
  where
    by : (j ≡ r) ⊎ (j < r) → is_in (numbered j) taken ≡ true
    by (inl f) = subst (λ n. is_in (numbered n) taken ≡ true) (sym f) k
    by (inr f) = h j l (omega arith)

pub found_free : (taken : List (List ℕ)) (i : ℕ) → (i ≤ free_from taken (length taken) i) × (is_in (numbered (free_from taken (length taken) i)) taken ≡ false)
found_free taken i = let t = tried taken (length taken) i in (t.later, not_in (numbered (free_from taken (length taken) i)) taken (λ e. by (free_from taken (length taken) i) e t.free))
  where
    by : (r : ℕ) → is_in (numbered r) taken ≡ true → (is_in (numbered r) taken ≡ false) ⊎ ((r ≡ i + length taken) × AreTaken taken (length taken) i) → ⊥
    by r e (inl f) = cc
    by r e (inr f) = let few = few_taken (length taken + 1) i taken (one_more taken (length taken) i r f.0 f.1 e) in omega arith

-- ---- the first names that aren't excluded

-- a name of a number from i on that isn't taken
pub record Numbered (taken : List (List ℕ)) (i : ℕ) (n : List ℕ) : Type 0 where
  pub number : ℕ
  pub later : i ≤ number
  pub is : numbered number ≡ n
  pub free : is_in n taken ≡ false

pub numbered_in : (taken : List (List ℕ)) (count i : ℕ) (n : List ℕ) → is_in n (names_from taken count i) ≡ true → Numbered taken i n
numbered_in taken zero i n h = absurd (cc h)
numbered_in taken (suc count) i n h = by (or_true (bytes_eq (numbered (free_from taken (length taken) i)) n) (is_in n (names_from taken count (free_from taken (length taken) i + 1))) h) (numbered_in taken count (free_from taken (length taken) i + 1) n)
  where
    by : (bytes_eq (numbered (free_from taken (length taken) i)) n ≡ true) ⊎ (is_in n (names_from taken count (free_from taken (length taken) i + 1)) ≡ true) → (is_in n (names_from taken count (free_from taken (length taken) i + 1)) ≡ true → Numbered taken (free_from taken (length taken) i + 1) n) → Numbered taken i n
    by (inl e) rest = let f = found_free taken i in let s = same_name (numbered (free_from taken (length taken) i)) n e in record { number = free_from taken (length taken) i; later = f.0; is = s; free = subst (λ z. is_in z taken ≡ false) s f.1 }
    by (inr e) rest = let r = rest e in let f = found_free taken i in let low = f.0 in record { number = r.number; later = omega (arith, r.later, low); is = r.is; free = r.free }

distinct_from : (taken : List (List ℕ)) (count i : ℕ) → Distinct (names_from taken count i)
distinct_from taken zero i = tt
distinct_from taken (suc count) i = (
  not_in (numbered (free_from taken (length taken) i)) (names_from taken count (free_from taken (length taken) i + 1)) (λ e.
      (let r = numbered_in taken count (free_from taken (length taken) i + 1) (numbered (free_from taken (length taken) i)) e in
      let s = distinct_names r.number (free_from taken (length taken) i) r.is in
      omega (arith, r.later, s))),
  distinct_from taken count (free_from taken (length taken) i + 1),
)

pub first_are_distinct : (excluded : List (List ℕ)) (count : ℕ) → Distinct (first_names excluded count)
first_are_distinct excluded count = distinct_from (forbidden ++ excluded) count 0

pub first_are_free : (excluded : List (List ℕ)) (count : ℕ) (n : List ℕ) → is_in n (first_names excluded count) ≡ true → (is_in n forbidden ≡ false) × (is_in n excluded ≡ false)
first_are_free excluded count n h = in_neither n forbidden excluded (numbered_in (forbidden ++ excluded) count 0 n h).free

pub first_are_as_many : (excluded : List (List ℕ)) (count : ℕ) → length (first_names excluded count) ≡ count
first_are_as_many excluded count = as_many (forbidden ++ excluded) count 0

-- ---- names of declarations

pub given_are_as_many : (kept : Option (List ℕ)) (olds fresh : List (List ℕ)) → length olds ≤ length fresh → length (given_names kept olds fresh) ≡ length olds
given_are_as_many kept [] fresh h = refl
given_are_as_many kept (o ∷ os) [] h = absurd (omega (arith, h))
given_are_as_many kept (o ∷ os) (w ∷ ws) h = by (is_name o kept) (given_are_as_many kept os (w ∷ ws) (omega (arith, h))) (given_are_as_many kept os ws (omega (arith, h)))
  where
    by : (b : Bool) → length (given_names kept os (w ∷ ws)) ≡ length os → length (given_names kept os ws) ≡ length os → length (if b then o ∷ given_names kept os (w ∷ ws) else w ∷ given_names kept os ws) ≡ suc (length os)
    by true e f = ap suc e
    by false e f = ap suc f

-- a given name is the kept one, at its place, or a fresh one
pub given_is : (kept : Option (List ℕ)) (olds fresh : List (List ℕ)) (n : List ℕ) → is_in n (given_names kept olds fresh) ≡ true → ((is_name n kept ≡ true) × (is_in n olds ≡ true)) ⊎ (is_in n fresh ≡ true)
given_is kept [] fresh n h = absurd (cc h)
given_is kept (o ∷ os) [] n h = absurd (cc h)
given_is kept (o ∷ os) (w ∷ ws) n h = by (is_name o kept) refl h (given_is kept os (w ∷ ws) n) (given_is kept os ws n)
  where
    here : ((is_name n kept ≡ true) × (is_in n os ≡ true)) ⊎ (is_in n (w ∷ ws) ≡ true) → ((is_name n kept ≡ true) × (is_in n (o ∷ os) ≡ true)) ⊎ (is_in n (w ∷ ws) ≡ true)
    here (inl e) = inl (e.0, or_right (bytes_eq o n) (is_in n os) e.1)
    here (inr e) = inr e

    there : ((is_name n kept ≡ true) × (is_in n os ≡ true)) ⊎ (is_in n ws ≡ true) → ((is_name n kept ≡ true) × (is_in n (o ∷ os) ≡ true)) ⊎ (is_in n (w ∷ ws) ≡ true)
    there (inl e) = inl (e.0, or_right (bytes_eq o n) (is_in n os) e.1)
    there (inr e) = inr (or_right (bytes_eq w n) (is_in n ws) e)

    first_kept : is_name o kept ≡ true → (bytes_eq o n ≡ true) ⊎ (is_in n (given_names kept os (w ∷ ws)) ≡ true) → (is_in n (given_names kept os (w ∷ ws)) ≡ true → ((is_name n kept ≡ true) × (is_in n os ≡ true)) ⊎ (is_in n (w ∷ ws) ≡ true)) → ((is_name n kept ≡ true) × (is_in n (o ∷ os) ≡ true)) ⊎ (is_in n (w ∷ ws) ≡ true)
    first_kept k (inl e) rest = inl (subst (λ z. is_name z kept ≡ true) (same_name o n e) k, or_left (bytes_eq o n) (is_in n os) e)
    first_kept k (inr e) rest = here (rest e)

    first_fresh : (bytes_eq w n ≡ true) ⊎ (is_in n (given_names kept os ws) ≡ true) → (is_in n (given_names kept os ws) ≡ true → ((is_name n kept ≡ true) × (is_in n os ≡ true)) ⊎ (is_in n ws ≡ true)) → ((is_name n kept ≡ true) × (is_in n (o ∷ os) ≡ true)) ⊎ (is_in n (w ∷ ws) ≡ true)
    first_fresh (inl e) rest = inr (or_left (bytes_eq w n) (is_in n ws) e)
    first_fresh (inr e) rest = there (rest e)

    by : (b : Bool) → is_name o kept ≡ b → is_in n (if b then o ∷ given_names kept os (w ∷ ws) else w ∷ given_names kept os ws) ≡ true
        → (is_in n (given_names kept os (w ∷ ws)) ≡ true → ((is_name n kept ≡ true) × (is_in n os ≡ true)) ⊎ (is_in n (w ∷ ws) ≡ true)) → (is_in n (given_names kept os ws) ≡ true → ((is_name n kept ≡ true) × (is_in n os ≡ true)) ⊎ (is_in n ws ≡ true))
        → ((is_name n kept ≡ true) × (is_in n (o ∷ os) ≡ true)) ⊎ (is_in n (w ∷ ws) ≡ true)
    by true k h more fewer = first_kept k (or_true (bytes_eq o n) (is_in n (given_names kept os (w ∷ ws))) h) more
    by false k h more fewer = first_fresh (or_true (bytes_eq w n) (is_in n (given_names kept os ws)) h) fewer

-- the kept name is none of these
abbrev pub NotAmong : Option (List ℕ) → List (List ℕ) → Type 0
NotAmong kept fresh = (n : List ℕ) → is_name n kept ≡ true → is_in n fresh ≡ false

given_are_distinct_from : (kept : Option (List ℕ)) (olds fresh : List (List ℕ)) → Distinct olds → Distinct fresh → NotAmong kept fresh → Distinct (given_names kept olds fresh)
given_are_distinct_from kept [] fresh h k a = tt
given_are_distinct_from kept (o ∷ os) [] h k a = tt
given_are_distinct_from kept (o ∷ os) (w ∷ ws) h k a =
    by (is_name o kept) refl (given_are_distinct_from kept os (w ∷ ws) h.1 k a) (given_are_distinct_from kept os ws h.1 k.1 (λ n e. (either_false (bytes_eq w n) (is_in n ws) (a n e)).1))
  where
    not_again : is_name o kept ≡ true → ((is_name o kept ≡ true) × (is_in o os ≡ true)) ⊎ (is_in o (w ∷ ws) ≡ true) → ⊥
    not_again e (inl f) = let g = f.1 in let i = h.0 in cc
    not_again e (inr f) = let g = a o e in cc

    not_kept : ((is_name w kept ≡ true) × (is_in w os ≡ true)) ⊎ (is_in w ws ≡ true) → ⊥
    not_kept (inl f) = let g = (either_false (bytes_eq w w) (is_in w ws) (a w f.0)).0 in let i = itself w in cc
    not_kept (inr f) = let g = k.0 in cc

    by : (b : Bool) → is_name o kept ≡ b → Distinct (given_names kept os (w ∷ ws)) → Distinct (given_names kept os ws) → Distinct (if b then o ∷ given_names kept os (w ∷ ws) else w ∷ given_names kept os ws)
    by true e d f = (not_in o (given_names kept os (w ∷ ws)) (λ i. not_again e (given_is kept os (w ∷ ws) o i)), d)
    by false e d f = (not_in w (given_names kept os ws) (λ i. not_kept (given_is kept os ws w i)), f)

pub kept_is_excluded : (kept : Option (List ℕ)) (count : ℕ) → NotAmong kept (first_names (excluded_name kept) count)
kept_is_excluded None count n e = absurd (cc e)
kept_is_excluded (Some p) count n e = not_in n (first_names (p ∷ []) count) (λ i. let f = (either_false (bytes_eq p n) false (first_are_free (p ∷ []) count n i).1).0 in cc)

pub given_are_distinct : (kept : Option (List ℕ)) (olds : List (List ℕ)) (count : ℕ) → Distinct olds → Distinct (given_names kept olds (first_names (excluded_name kept) count))
given_are_distinct kept olds count h = given_are_distinct_from kept olds (first_names (excluded_name kept) count) h (first_are_distinct (excluded_name kept) count) (kept_is_excluded kept count)

-- the kept name stays
pub kept_stays : (kept : Option (List ℕ)) (olds fresh : List (List ℕ)) (n : List ℕ) → length olds ≤ length fresh → is_name n kept ≡ true → is_in n olds ≡ true → in_place olds (given_names kept olds fresh) n ≡ Some n
kept_stays kept [] fresh n l k h = absurd (cc h)
kept_stays kept (o ∷ os) [] n l k h = absurd (omega (arith, l))
kept_stays kept (o ∷ os) (w ∷ ws) n l k h = by (bytes_eq o n) refl (is_name o kept) refl (kept_stays kept os (w ∷ ws) n (omega (arith, l)) k) (kept_stays kept os ws n (omega (arith, l)) k) h
  where
    by : (b : Bool) → bytes_eq o n ≡ b → (t : Bool) → is_name o kept ≡ t → (is_in n os ≡ true → in_place os (given_names kept os (w ∷ ws)) n ≡ Some n) → (is_in n os ≡ true → in_place os (given_names kept os ws) n ≡ Some n)
        → (b || is_in n os) ≡ true → in_place (o ∷ os) (if t then o ∷ given_names kept os (w ∷ ws) else w ∷ given_names kept os ws) n ≡ Some n
    by true e true f more fewer h = rw e (ap (λ z. Some z) (same_name o n e))
    by true e false f more fewer h = absurd (let g = subst (λ z. is_name z kept ≡ false) (same_name o n e) f in cc)
    by false e true f more fewer h = rw e (more h)
    by false e false f more fewer h = rw e (fewer h)
