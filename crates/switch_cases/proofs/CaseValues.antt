-- The values of cases, one after another.
use Rattle.std.proofs.Common.{◌≡◌, ℕ, zero, suc, ◌+◌, ◌<◌, ◌≤◌, List, [], ◌∷◌, length, drop, get_or, Option, Some, None, refl, sym, ap, subst, ◌∙◌, arith}
use Rattle.std.proofs.lemmas.List.{at_drop_more}
use Rattle.std.proofs.lemmas.Int.{ints, clamps}
use Rattle.std.specs.Prelude.{ℤ, ◌≤ℤ◌, ◌-ℤ◌, unsigned_abs}
use Rattle.std.specs.Int.{int_min, int_max}
use Rattle.sem_words.specs.Lists.{list_items}
use Rattle.asm_lang.specs.Modules.{Stmts, Clauses, clauses}
use Rattle.asm_tree.specs.declared.tree.Clause.{Clause}
use Rattle.asm_tree.specs.Views.{ClauseView, stmts_view, clause_view, clauses_view}
use Rattle.asm_tree.proofs.Views.{clause_view-is}
use Rattle.asm_lang_valid.specs.Typing.{values}
use Rattle.asm2wasm_translation.specs.Bodies.{lesser, greater, least, greatest, low, span}
use Rattle.switch_cases.specs.declared.range.CaseRange.{CaseRange}
use Rattle.switch_cases.specs.Cases.{value_before, high, range_of, IsWithin}

-- ---- one clause and the others

pub clauses_put : (ks : List Clause) (i j : ℕ) (k : Clause) → j ≡ i + 1 → i < length ks → k ≡ get_or ks i k → clauses_view (drop i ks) ≡ clauses k.value (stmts_view (list_items k.body)) (clauses_view (drop j ks))
clauses_put ks i j k p h is =
    at_drop_more (λ l. clauses_view l) ks i k h
    ∙ ap (λ (x : Clause). clauses_view (x ∷ drop (i + 1) ks)) (sym is)
    ∙ ap (λ (v : ClauseView). clauses v.value v.body (clauses_view (drop (i + 1) ks))) (clause_view-is k)
    ∙ ap (λ n. clauses k.value (stmts_view (list_items k.body)) (clauses_view (drop n ks))) (sym p)

values_case : (o : Option ℤ) (b : Stmts) (cs : Clauses) → values (clauses o b cs) ≡ value_before o (values cs)
values_case None b cs = refl
values_case (Some v) b cs = refl

pub values_put : (ks : List Clause) (i j : ℕ) (k : Clause) → j ≡ i + 1 → i < length ks → k ≡ get_or ks i k → values (clauses_view (drop i ks)) ≡ value_before k.value (values (clauses_view (drop j ks)))
values_put ks i j k p h is = ap values (clauses_put ks i j k p h is) ∙ values_case k.value (stmts_view (list_items k.body)) (clauses_view (drop j ks))

-- ---- the least and the greatest

lesser_swap : (a b c : ℤ) → int_min a (int_min b c) ≡ int_min b (int_min a c)
lesser_swap a b c = omega (arith, ints, clamps)

lesser_turn : (a b : ℤ) → int_min a b ≡ int_min b a
lesser_turn a b = omega (arith, ints, clamps)

greater_swap : (a b c : ℤ) → int_max (int_max c b) a ≡ int_max (int_max c a) b
greater_swap a b c = omega (arith, ints, clamps)

greater_turn : (a b : ℤ) → int_max a b ≡ int_max b a
greater_turn a b = omega (arith, ints, clamps)

least_swap : (v w : ℤ) (us : List ℤ) → lesser w (least v us) ≡ lesser v (least w us)
least_swap v w [] = lesser_turn w v
least_swap v w (u ∷ us) = lesser_swap w u (least v us) ∙ ap (lesser u) (least_swap v w us) ∙ lesser_swap u v (least w us)

greatest_swap : (v w : ℤ) (us : List ℤ) → greater w (greatest v us) ≡ greater v (greatest w us)
greatest_swap v w [] = greater_turn v w
greatest_swap v w (u ∷ us) = greater_swap w u (greatest v us) ∙ ap (greater u) (greatest_swap v w us) ∙ greater_swap u v (greatest w us)

pub range_more : (r : CaseRange) (v : ℤ) (vs : List ℤ) → 0 < r.count → r ≡ range_of vs → record { count = r.count + 1; low = lesser v r.low; high = greater v r.high } ≡ range_of (v ∷ vs)
range_more r v [] h e =
    let none : r.count ≡ 0 = ap (λ (x : CaseRange). x.count) e in
    absurd (omega arith)
range_more r v (w ∷ ws) h e =
    let more : length (w ∷ ws) + 1 ≡ length (v ∷ w ∷ ws) = omega arith in
    let as_range = λ (n : ℕ) (l : ℤ) (g : ℤ). let x : CaseRange = record { count = n; low = l; high = g } in x in
    ap (λ (x : CaseRange). as_range (x.count + 1) (lesser v x.low) (greater v x.high)) e
    ∙ ap (λ n. as_range n (lesser v (least w ws)) (greater v (greatest w ws))) more
    ∙ ap (λ l. as_range (length (v ∷ w ∷ ws)) l (greater v (greatest w ws))) (sym (least_swap v w ws))
    ∙ ap (λ g. as_range (length (v ∷ w ∷ ws)) (lesser w (least v ws)) g) (sym (greatest_swap v w ws))

pub few_values : (ks : List Clause) → length (values (clauses_view ks)) ≤ length ks
few_values [] = omega arith
few_values (k ∷ ks) =
    let e = ap length (values_case (clause_view k).value (clause_view k).body (clauses_view ks)) in
    let m = one_value (clause_view k).value (values (clauses_view ks)) in
    let r = few_values ks in
    omega arith
  where
    one_value : (o : Option ℤ) (vs : List ℤ) → length (value_before o vs) ≤ length vs + 1
    one_value None vs = omega arith
    one_value (Some v) vs = omega arith

pub span_is : (vs : List ℤ) → unsigned_abs (high vs -ℤ low vs) ≡ span vs
span_is [] = refl
span_is (v ∷ vs) = refl

-- ---- the values lie between them

abbrev pub AreBetween : ℤ → ℤ → List ℤ → Type 0
AreBetween l g [] = Unit {0}
AreBetween l g (v ∷ vs) = (l ≤ℤ v) × (v ≤ℤ g) × AreBetween l g vs

wider : (l g l' g' : ℤ) (vs : List ℤ) → l' ≤ℤ l → g ≤ℤ g' → AreBetween l g vs → AreBetween l' g' vs
wider l g l' g' [] h k p = tt
wider l g l' g' (v ∷ vs) h k p =
    let a = p.0 in
    let b = p.1 in
    (omega (arith, ints), omega (arith, ints), wider l g l' g' vs h k p.2)

min_first : (a b : ℤ) → int_min a b ≤ℤ a
min_first a b = omega (arith, ints, clamps)

min_second : (a b : ℤ) → int_min a b ≤ℤ b
min_second a b = omega (arith, ints, clamps)

max_first : (a b : ℤ) → a ≤ℤ int_max a b
max_first a b = omega (arith, ints, clamps)

max_second : (a b : ℤ) → b ≤ℤ int_max a b
max_second a b = omega (arith, ints, clamps)

steps : (a b c : ℤ) → a ≤ℤ b → b ≤ℤ c → a ≤ℤ c
steps a b c h k = omega (arith, ints)

least_first : (z : ℤ) (vs : List ℤ) → least z vs ≤ℤ z
least_first z [] = omega (arith, ints)
least_first z (v ∷ vs) = steps (lesser v (least z vs)) (least z vs) z (min_second v (least z vs)) (least_first z vs)

greatest_first : (z : ℤ) (vs : List ℤ) → z ≤ℤ greatest z vs
greatest_first z [] = omega (arith, ints)
greatest_first z (v ∷ vs) = steps z (greatest z vs) (greater v (greatest z vs)) (greatest_first z vs) (max_first (greatest z vs) v)

all_between : (z : ℤ) (vs : List ℤ) → AreBetween (least z vs) (greatest z vs) vs
all_between z [] = tt
all_between z (v ∷ vs) = (
  min_first v (least z vs),
  max_second (greatest z vs) v,
  wider (least z vs) (greatest z vs) (lesser v (least z vs)) (greater v (greatest z vs)) vs (min_second v (least z vs)) (max_first (greatest z vs) v) (all_between z vs),
)

values_between : (vs : List ℤ) → AreBetween (low vs) (high vs) vs
values_between [] = tt
values_between (v ∷ vs) = (least_first v vs, greatest_first v vs, all_between v vs)

rest_between : (l g : ℤ) (o : Option ℤ) (vs : List ℤ) → AreBetween l g (value_before o vs) → AreBetween l g vs
rest_between l g None vs p = p
rest_between l g (Some v) vs p = p.2

drop_between : (l g : ℤ) (ks : List Clause) (i : ℕ) → AreBetween l g (values (clauses_view ks)) → AreBetween l g (values (clauses_view (drop i ks)))
drop_between l g ks zero p = p
drop_between l g [] (suc i) p = p
drop_between l g (k ∷ ks) (suc i) p =
    drop_between l g ks i (rest_between l g (clause_view k).value (values (clauses_view ks)) (subst (AreBetween l g) (values_case (clause_view k).value (clause_view k).body (clauses_view ks)) p))

near : (l g v : ℤ) → l ≤ℤ v → v ≤ℤ g → unsigned_abs (v -ℤ l) ≤ unsigned_abs (g -ℤ l)
near l g v h k = grind (arith, ints)

within_case : (l g : ℤ) (o : Option ℤ) (vs : List ℤ) (n : ℕ) → AreBetween l g (value_before o vs) → n ≡ suc (unsigned_abs (g -ℤ l)) → IsWithin o l n
within_case l g None vs n p e = tt
within_case l g (Some v) vs n p e =
    let h = near l g v p.0 p.1 in
    omega arith

pub value_within : (ks : List Clause) (i j : ℕ) (k : Clause) (n : ℕ) → j ≡ i + 1 → i < length ks → k ≡ get_or ks i k → n ≡ suc (span (values (clauses_view ks))) → IsWithin k.value (low (values (clauses_view ks))) n
value_within ks i j k n p h is e =
    let vs = values (clauses_view ks) in
    within_case (low vs) (high vs) k.value (values (clauses_view (drop j ks))) n
    (subst (AreBetween (low vs) (high vs)) (values_put ks i j k p h is) (drop_between (low vs) (high vs) ks i (values_between vs)))
    (e ∙ ap suc (sym (span_is vs)))

-- it isn't below the least
abbrev pub IsFrom : ℤ → Option ℤ → Type 0
IsFrom l None = Unit {0}
IsFrom l (Some v) = l ≤ℤ v

from_case : (l g : ℤ) (o : Option ℤ) (vs : List ℤ) → AreBetween l g (value_before o vs) → IsFrom l o
from_case l g None vs p = tt
from_case l g (Some v) vs p = p.0

pub value_from : (ks : List Clause) (i j : ℕ) (k : Clause) → j ≡ i + 1 → i < length ks → k ≡ get_or ks i k → IsFrom (low (values (clauses_view ks))) k.value
value_from ks i j k p h is =
    let vs = values (clauses_view ks) in
    from_case (low vs) (high vs) k.value (values (clauses_view (drop j ks)))
    (subst (AreBetween (low vs) (high vs)) (values_put ks i j k p h is) (drop_between (low vs) (high vs) ks i (values_between vs)))
