-- What is known of a term, by what is known of its parts.
use Rattle.std.proofs.Common.{◌≡◌, Bool, true, false, ◌&&◌, refl, ap, ◌∙◌, sym}
use Rattle.std.specs.Prelude.{ℤ, List, Option, Some, None}
use Rattle.wasm2js_translation.specs.Words.{BitOp, conjunction, disjunction, exclusion, shift_left, shift_right_signed, shift_right, Term, read, number, both, flip, sum, product, zeros, compare, choose, byte, whole, no_more, further}
use Rattle.wasm2js_translation.specs.Delays.{Delayed, replaced, at_hand}
use Rattle.wasm2js_translation.specs.Known.{Fact, Known, bound, by_four, term_fact, added_bounds}
use Rattle.wasm2js_terms.specs.Waits.{if_atom}
use Rattle.wasm2js_terms.specs.Facts.{number_fact, shifted_fact, bits_fact, added_fact}

-- ---- operators on bits

shifted_by : (ks : List Known) (t u : Term) → shifted_fact (term_fact ks t) (Some u) ≡ term_fact ks (both shift_left t u)
shifted_by ks t (read n) = refl
shifted_by ks t (number z) = refl
shifted_by ks t (both op a b) = refl
shifted_by ks t (flip a) = refl
shifted_by ks t (sum a ts) = refl
shifted_by ks t (product a b) = refl
shifted_by ks t (zeros a) = refl
shifted_by ks t (compare signed r a b) = refl
shifted_by ks t (choose c a b) = refl
shifted_by ks t (byte signed at) = refl
shifted_by ks t (whole at) = refl

shifted_late : (ks : List Known) (ds : List Delayed) (t u : Term) → shifted_fact (term_fact ks t) (if_atom (replaced ds u) u) ≡ term_fact ks (both shift_left t (replaced ds u))
shifted_late ks ds t (read n) = shifted_by ks t (at_hand ds n)
shifted_late ks ds t (number z) = refl
shifted_late ks ds t (both op a b) = refl
shifted_late ks ds t (flip a) = refl
shifted_late ks ds t (sum a ts) = refl
shifted_late ks ds t (product a b) = refl
shifted_late ks ds t (zeros a) = refl
shifted_late ks ds t (compare signed r a b) = refl
shifted_late ks ds t (choose c a b) = refl
shifted_late ks ds t (byte signed at) = refl
shifted_late ks ds t (whole at) = refl

bits_late : (ks : List Known) (ds : List Delayed) (op : BitOp) (t u : Term) → bits_fact op (term_fact ks t) (term_fact ks (replaced ds u)) (if_atom (replaced ds u) u) ≡ term_fact ks (both op t (replaced ds u))
bits_late ks ds conjunction t u = refl
bits_late ks ds disjunction t u = refl
bits_late ks ds exclusion t u = refl
bits_late ks ds shift_left t u = shifted_late ks ds t u
bits_late ks ds shift_right_signed t u = refl
bits_late ks ds shift_right t u = refl

bits_atom : (ks : List Known) (op : BitOp) (t u : Term) → bits_fact op (term_fact ks t) (term_fact ks u) (Some u) ≡ term_fact ks (both op t u)
bits_atom ks conjunction t u = refl
bits_atom ks disjunction t u = refl
bits_atom ks exclusion t u = refl
bits_atom ks shift_left t u = shifted_by ks t u
bits_atom ks shift_right_signed t u = refl
bits_atom ks shift_right t u = refl

pub bits_are : (ks : List Known) (ds : List Delayed) (op : BitOp) (t u : Term) (f g r : Fact) (o : Option Term) → f ≡ term_fact ks t → g ≡ term_fact ks (replaced ds u) → o ≡ if_atom (replaced ds u) u → r ≡ bits_fact op f g o
    → r ≡ term_fact ks (both op t (replaced ds u))
bits_are ks ds op t u f g r o first second count made =
    made ∙ ap (λ (x : Fact). bits_fact op x g o) first ∙ ap (λ (x : Fact). bits_fact op (term_fact ks t) x o) second
    ∙ ap (λ (x : Option Term). bits_fact op (term_fact ks t) (term_fact ks (replaced ds u)) x) count ∙ bits_late ks ds op t u

pub bits_of_atoms : (ks : List Known) (op : BitOp) (t u : Term) (f g r : Fact) → f ≡ term_fact ks t → g ≡ term_fact ks u → r ≡ bits_fact op f g (Some u) → r ≡ term_fact ks (both op t u)
bits_of_atoms ks op t u f g r first second made =
    made ∙ ap (λ (x : Fact). bits_fact op x g (Some u)) first ∙ ap (λ (x : Fact). bits_fact op (term_fact ks t) x (Some u)) second ∙ bits_atom ks op t u

-- a literal `w`, which is `z` as the code reads it
pub bits_of_number : (ks : List Known) (op : BitOp) (t : Term) (z w : ℤ) (f r : Fact) → r ≡ bits_fact op f (number_fact w) (Some (number w)) → f ≡ term_fact ks t → w ≡ z → r ≡ term_fact ks (both op t (number z))
bits_of_number ks op t z w f r made first same =
    made ∙ ap (λ (x : Fact). bits_fact op x (number_fact w) (Some (number w))) first ∙ bits_atom ks op t (number w) ∙ ap (λ (y : ℤ). term_fact ks (both op t (number y))) same

pub late_number : (ks : List Known) (ds : List Delayed) (op : BitOp) (t u : Term) (z w : ℤ) (r : Fact) → r ≡ term_fact ks (both op (replaced ds t) (number w)) → u ≡ both op t (number z) → w ≡ z → r ≡ term_fact ks (replaced ds u)
late_number ks ds op t u z w r made is same =
    made ∙ ap (λ (y : ℤ). term_fact ks (both op (replaced ds t) (number y))) same ∙ ap (λ (x : Term). term_fact ks (replaced ds x)) (sym is)

-- ---- sums

and_true : (a : Bool) → a ≡ (a && true)
and_true true = refl
and_true false = refl

and_joined : (a b c : Bool) → ((a && b) && c) ≡ (a && (b && (c && true)))
and_joined true b c = ap (λ (x : Bool). b && x) (and_true c)
and_joined false b c = refl

and_joined_again : (a b c d : Bool) → (((a && b) && c) && d) ≡ (a && (b && (c && (d && true))))
and_joined_again true b c d = and_joined b c d
and_joined_again false b c d = refl

summed : (ks : List Known) (t : Term) (minus : Bool) (u : Term) → added_fact (term_fact ks t) minus (term_fact ks u) ≡ term_fact ks (sum t (further minus u no_more))
summed ks t true u = ap (λ (x : Bool). record { most = None; by_four = by_four ks t && x }) (and_true (by_four ks u))
summed ks t false u = ap (λ (x : Bool). record { most = added_bounds (bound ks t) (bound ks u); by_four = by_four ks t && x }) (and_true (by_four ks u))

summed_again : (ks : List Known) (t : Term) (m : Bool) (u : Term) (n : Bool) (v : Term)
    → added_fact (added_fact (term_fact ks t) m (term_fact ks u)) n (term_fact ks v) ≡ term_fact ks (sum t (further m u (further n v no_more)))
summed_again ks t true u true v = ap (λ (x : Bool). record { most = None; by_four = x }) (and_joined (by_four ks t) (by_four ks u) (by_four ks v))
summed_again ks t true u false v = ap (λ (x : Bool). record { most = None; by_four = x }) (and_joined (by_four ks t) (by_four ks u) (by_four ks v))
summed_again ks t false u true v = ap (λ (x : Bool). record { most = None; by_four = x }) (and_joined (by_four ks t) (by_four ks u) (by_four ks v))
summed_again ks t false u false v =
    ap (λ (x : Bool). record { most = added_bounds (added_bounds (bound ks t) (bound ks u)) (bound ks v); by_four = x }) (and_joined (by_four ks t) (by_four ks u) (by_four ks v))

summed_four : (ks : List Known) (t u v w : Term)
    → added_fact (added_fact (added_fact (term_fact ks t) false (term_fact ks u)) false (term_fact ks v)) false (term_fact ks w)
    ≡ term_fact ks (sum t (further false u (further false v (further false w no_more))))
summed_four ks t u v w =
    ap (λ (x : Bool). record { most = added_bounds (added_bounds (added_bounds (bound ks t) (bound ks u)) (bound ks v)) (bound ks w); by_four = x })
    (and_joined_again (by_four ks t) (by_four ks u) (by_four ks v) (by_four ks w))

pub two_are : (ks : List Known) (t : Term) (minus : Bool) (u : Term) (f g r : Fact) → f ≡ term_fact ks t → g ≡ term_fact ks u → r ≡ added_fact f minus g → r ≡ term_fact ks (sum t (further minus u no_more))
two_are ks t minus u f g r first second made =
    made ∙ ap (λ (x : Fact). added_fact x minus g) first ∙ ap (λ (x : Fact). added_fact (term_fact ks t) minus x) second ∙ summed ks t minus u

pub three_are : (ks : List Known) (t : Term) (m : Bool) (u : Term) (n : Bool) (v : Term) (f g h s r : Fact) → f ≡ term_fact ks t → g ≡ term_fact ks u → h ≡ term_fact ks v → s ≡ added_fact f m g → r ≡ added_fact s n h
    → r ≡ term_fact ks (sum t (further m u (further n v no_more)))
three_are ks t m u n v f g h s r first second third half made =
    made ∙ ap (λ (x : Fact). added_fact x n h) half ∙ ap (λ (x : Fact). added_fact (added_fact x m g) n h) first ∙ ap (λ (x : Fact). added_fact (added_fact (term_fact ks t) m x) n h) second
    ∙ ap (λ (x : Fact). added_fact (added_fact (term_fact ks t) m (term_fact ks u)) n x) third ∙ summed_again ks t m u n v

pub four_are : (ks : List Known) (t u v w : Term) (f g h i p q r : Fact) → f ≡ term_fact ks t → g ≡ term_fact ks u → h ≡ term_fact ks v → i ≡ term_fact ks w
    → p ≡ added_fact f false g → q ≡ added_fact p false h → r ≡ added_fact q false i
    → r ≡ term_fact ks (sum t (further false u (further false v (further false w no_more))))
four_are ks t u v w f g h i p q r first second third fourth part most made =
    made ∙ ap (λ (x : Fact). added_fact x false i) most ∙ ap (λ (x : Fact). added_fact (added_fact x false h) false i) part
    ∙ ap (λ (x : Fact). added_fact (added_fact (added_fact x false g) false h) false i) first
    ∙ ap (λ (x : Fact). added_fact (added_fact (added_fact (term_fact ks t) false x) false h) false i) second
    ∙ ap (λ (x : Fact). added_fact (added_fact (added_fact (term_fact ks t) false (term_fact ks u)) false x) false i) third
    ∙ ap (λ (x : Fact). added_fact (added_fact (added_fact (term_fact ks t) false (term_fact ks u)) false (term_fact ks v)) false x) fourth ∙ summed_four ks t u v w
