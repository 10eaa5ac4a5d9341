-- The values of cases, one after another.
use Rattle.std.proofs.Common.{◌≡◌, ℕ, zero, suc, ◌+◌, ◌-◌, ◌^◌, ◌<◌, Bool, true, false, not, ◌&&◌, ◌||◌, List, [], ◌∷◌, ◌++◌, length, drop, get_or, Option, Some, None, refl, sym, ap, ◌∙◌, arith}
use Rattle.std.proofs.lemmas.List.{at_drop_more}
use Rattle.std.proofs.lemmas.Bool.Decides.{nat_tests}
use Rattle.std.specs.Prelude.{ℤ, pos, negsuc, int_le, int_lt}
use Rattle.std.specs.List.{list_any}
use Rattle.std.specs.Ordering.{int_eq}
use Rattle.asm_lang.specs.Modules.{Stmts, Clauses, clauses}
use Rattle.asm_tree.specs.declared.tree.Clause.{Clause}
use Rattle.asm_tree.specs.Views.{ClauseView, clause_view, clauses_view}
use Rattle.asm_tree.proofs.Views.{clause_view-is}
use Rattle.asm_lang_valid.specs.Typing.{values, is_value, distinct, in_range}
use Rattle.asm_validate_labels.specs.Cases.{value_before}

values_case : (o : Option ℤ) (b : Stmts) (cs : Clauses) → values (clauses o b cs) ≡ value_before o (values cs)
values_case None b cs = refl
values_case (Some v) b cs = refl

pub values_rest : (ks : List Clause) (i : ℕ) (k : Clause) → i < length ks → k ≡ get_or ks i k → values (clauses_view (drop i ks)) ≡ value_before k.value (values (clauses_view (drop (i + 1) ks)))
values_rest ks i k h is =
    at_drop_more (λ l. values (clauses_view l)) ks i k h
    ∙ ap (λ (x : Clause). values (clauses_view (x ∷ drop (i + 1) ks))) (sym is)
    ∙ values_case (clause_view k).value (clause_view k).body (clauses_view (drop (i + 1) ks))
    ∙ ap (λ (v : ClauseView). value_before v.value (values (clauses_view (drop (i + 1) ks)))) (clause_view-is k)

-- ---- in range

and_case : (a b r : Bool) → (a && b && r) ≡ ((a && b && true) && r)
and_case true true r = refl
and_case true false r = refl
and_case false true r = refl
and_case false false r = refl

pub range_before : (o : Option ℤ) (vs : List ℤ) → in_range (value_before o vs) ≡ (in_range (value_before o []) && in_range vs)
range_before None vs = refl
range_before (Some v) vs = and_case (int_le (negsuc (2 ^ 31 - 1)) v) (int_lt v (pos (2 ^ 31))) (in_range vs)

pub range_step : (ks : List Clause) (i : ℕ) (k : Clause) (b : Bool) → i < length ks → k ≡ get_or ks i k → b ≡ in_range (value_before k.value []) → in_range (values (clauses_view (drop i ks))) ≡ (b && in_range (values (clauses_view (drop (i + 1) ks))))
range_step ks i k b h is fits =
    ap in_range (values_rest ks i k h is) ∙ range_before k.value (values (clauses_view (drop (i + 1) ks)))
    ∙ ap (λ c. c && in_range (values (clauses_view (drop (i + 1) ks)))) (sym fits)

-- ---- distinct

distinct_case : (o : Option ℤ) (vs : List ℤ) → distinct vs ≡ false → distinct (value_before o vs) ≡ false
distinct_case None vs h = h
distinct_case (Some v) vs h = ap (λ b. not (is_value v vs) && b) h ∙ false_last (not (is_value v vs))
  where
    false_last : (b : Bool) → (b && false) ≡ false
    false_last true = refl
    false_last false = refl

-- values that are not distinct aren't so with others before them
pub distinct_all : (ks : List Clause) (i : ℕ) → distinct (values (clauses_view (drop i ks))) ≡ false → distinct (values (clauses_view ks)) ≡ false
distinct_all ks zero h = h
distinct_all [] (suc i) h = h
distinct_all (k ∷ ks) (suc i) h = ap distinct (values_case (clause_view k).value (clause_view k).body (clauses_view ks)) ∙ distinct_case (clause_view k).value (values (clauses_view ks)) (distinct_all ks i h)

-- ---- from the last to the first

pub values_put : (ks : List Clause) (i j : ℕ) (k : Clause) → j ≡ i + 1 → i < length ks → k ≡ get_or ks i k → values (clauses_view (drop i ks)) ≡ value_before k.value (values (clauses_view (drop j ks)))
values_put ks i j k p h is = values_rest ks i k h is ∙ ap (λ j. value_before k.value (values (clauses_view (drop j ks)))) (sym p)

int_eq_is : (v u : ℤ) → int_eq v u ≡ (int_le u v && int_le v u)
int_eq_is (pos a) (pos b) = grind (arith, nat_tests)
int_eq_is (pos a) (negsuc b) = refl
int_eq_is (negsuc a) (pos b) = refl
int_eq_is (negsuc a) (negsuc b) = grind (arith, nat_tests)

any_last : (v u : ℤ) (ks : List ℤ) → list_any (λ x. int_eq v x) (ks ++ u ∷ []) ≡ (int_eq v u || list_any (λ x. int_eq v x) ks)
any_last v u [] = refl
any_last v u (k ∷ ks) = ap (λ b. int_eq v k || b) (any_last v u ks) ∙ swap (int_eq v k) (int_eq v u) (list_any (λ x. int_eq v x) ks)
  where
    swap : (a b r : Bool) → (a || (b || r)) ≡ (b || (a || r))
    swap true true r = refl
    swap true false r = refl
    swap false true r = refl
    swap false false r = refl

pub known_more : (keys : List ℤ) (value : ℤ) (vs : List ℤ) → ((v : ℤ) → list_any (λ u. int_eq v u) keys ≡ is_value v vs) → (v : ℤ) → list_any (λ u. int_eq v u) (keys ++ value ∷ []) ≡ is_value v (value ∷ vs)
known_more keys value vs h v =
    any_last v value keys ∙ ap (λ b. b || list_any (λ u. int_eq v u) keys) (int_eq_is v value)
    ∙ ap (λ b. (int_le value v && int_le v value) || b) (h v)
