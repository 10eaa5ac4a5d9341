-- Marked bound imports are those that come back; and where none does, each function stands for what many steps lead to.
use Rattle.std.proofs.lemmas.List.{length-replicate}
use Rattle.std.proofs.Common.{◌≡◌, ◌≢◌, ℕ, zero, suc, ◌+◌, ◌-◌, ◌<◌, ◌≤◌, Bool, true, false, List, [], ◌∷◌, ◌++◌, length, map, replicate, Option, Some, None, ◌⊎◌, inl, inr, refl, sym, ap, ◌∙◌, subst, arith, zero-add, add-zero, length-append, get_or}
use Rattle.std.specs.Prelude.{◌&&◌, slice_get, option_map, if◌then◌else◌}
use Rattle.std.specs.Option.{unwrap_or}
use Rattle.std.proofs.lemmas.List.{length-map}
use Rattle.std.proofs.lemmas.Option.{slice_get-map, slice_get_past, slice_get_cases}
use Rattle.std.proofs.lemmas.Bool.{cases_lt, false≢true}
use Rattle.wasm_lang.specs.declared.types.ImportKind.{ImportKind}
use Rattle.wasm_lang.specs.declared.types.ImportKind.TheVariants as imports
use Rattle.wasm_lang.specs.Modules.{Imported}
use Rattle.wasm_lang_valid.specs.Measures.{is_function_import}
use Rattle.wasm_lang_valid.specs.ModuleRules.{function_of, imported_functions, function_types}
use Rattle.wasm_link_lang.specs.Pairs.{Pair, past_first, bindings, first_bindings, second_bindings, function_imports, bound, next, import_count, end_of}
use Rattle.wasm_link_lang.specs.Refusal.{comes_back, cycle}
use Rattle.wasm_link_code.specs.Numbers.{places, counted, unbound_count, numbered, own_numbers, or_zero, at_place, number}
use Rattle.wasm_link_bind.specs.Chains.{again, at, Ends}
use Rattle.wasm_link_bind.specs.Marks.{has, is_bound, or_false, is_member}
use Rattle.wasm_link_bind.proofs.Following.{settled, ends_at}
use Rattle.wasm_link_bind.proofs.Places.{stands}
use Rattle.wasm_link_bind.proofs.Marked.{comes_to_ring, comes_from, has_at, at_has}

same_bool : (x y : Bool) → (x ≡ true → y ≡ true) → (y ≡ true → x ≡ true) → x ≡ y
same_bool true y to from = sym (to refl)
same_bool false true to from = from refl
same_bool false false to from = refl

both : (x y : Bool) → x && y ≡ true → (x ≡ true) × (y ≡ true)
both true y e = (refl, e)
both false y e = absurd (false≢true e)

bound_within : (bs : List (Option ℕ)) (a b : ℕ) → bound (slice_get bs a) ≡ Some b → a < length bs
bound_within [] a b e = cc
bound_within (x ∷ xs) zero b e = omega arith
bound_within (x ∷ xs) (suc a) b e = omega (arith, bound_within xs a b e)

bound_some : (o : Option ℕ) → is_bound o ≡ true → (b : ℕ) × (o ≡ Some b)
bound_some None e = absurd (false≢true e)
bound_some (Some b) e = (b, refl)

marked_some : (o : Option Bool) (t : Bool) → o ≡ Some t → or_false o ≡ true → t ≡ true
marked_some o t e h = sym (ap or_false e) ∙ h

-- what a table has within it
at_within : (ends : List ℕ) (a x : ℕ) → slice_get ends a ≡ Some x → at ends a ≡ x
unfolding at
at_within ends a x e = ap (λ o. unwrap_or o a) e

within_some : (ends : List ℕ) (a : ℕ) → a < length ends → slice_get ends a ≡ Some (at ends a)
unfolding at
within_some [] a h = absurd (omega arith)
within_some (x ∷ xs) a h = by (slice_get_cases (x ∷ xs) a).1
  where
    by : ((y : ℕ) × (a < length (x ∷ xs)) × (slice_get (x ∷ xs) a ≡ Some y) × (get_or (x ∷ xs) a y ≡ y)) ⊎ ((length (x ∷ xs) ≤ a) × (slice_get (x ∷ xs) a ≡ None)) → slice_get (x ∷ xs) a ≡ Some (unwrap_or (slice_get (x ∷ xs) a) a)
    by (inl (y, l, e, g)) = e ∙ ap (λ (k : ℕ). Some k) (sym (ap (λ o. unwrap_or o a) e))
    by (inr (l, e)) = absurd (omega arith)

past_itself : (ends : List ℕ) (a : ℕ) → length ends ≤ a → at ends a ≡ a
unfolding at
past_itself ends a h = ap (λ o. unwrap_or o a) (slice_get_past ends a h)

module _ (w : Pair) (ends : List ℕ) (e : Ends (bindings w) (import_count w) ends) where
  pub members_are : (marks : List Bool) → ((b : ℕ) → b < length ends → slice_get marks b ≡ Some (has ends b)) → (a : ℕ) → is_member (bindings w) marks a ≡ comes_back w a
  members_are marks m a = same_bool (is_member (bindings w) marks a) (comes_back w a) to from
    where
      within : (b : ℕ) → next w a ≡ Some b → a < length ends
      within b n = let h = bound_within (bindings w) a b n in let c = e.count in omega arith

      to : is_member (bindings w) marks a ≡ true → comes_back w a ≡ true
      to h =
          let parts = both (is_bound (next w a)) (or_false (slice_get marks a)) h in
          let some = bound_some (next w a) parts.0 in
          let marked = marked_some (slice_get marks a) (has ends a) (m a (within some.0 some.1)) parts.1 in
          let k = has_at ends a marked in
          let leads : again (bindings w) e.reach k.0 ≡ a = sym (e.leads k.0) ∙ at_within ends k.0 a k.1 in
          ap (comes_back w) (sym leads) ∙ comes_to_ring w k.0 e.reach some.0 e.enough (ap (next w) leads ∙ some.1)

      from : comes_back w a ≡ true → is_member (bindings w) marks a ≡ true
      from h =
          let r = comes_from w a e.reach h in
          let b = r.2.0 in
          let inside : r.0 < length ends = let k = bound_within (bindings w) r.0 b r.2.1 in let c = e.count in omega arith in
          let here : slice_get ends r.0 ≡ Some a = within_some ends r.0 inside ∙ ap (λ (k : ℕ). Some k) (e.leads r.0 ∙ r.1) in
          let marked = at_has ends r.0 a here in
          ap (λ o. is_bound o && or_false (slice_get marks a)) r.3.1 ∙ ap or_false (m a (within r.3.0 r.3.1)) ∙ marked

-- ---- no import comes back

cycle_none : (w : Pair) (n a : ℕ) (is : List Imported) → cycle w n a is ≡ None → (k : ℕ) → k < length (function_imports is) → comes_back w (a + k) ≡ false
cycle_none w n a [] e k h = absurd (omega arith)
cycle_none w n a (i ∷ is) e k h = by (is_function_import i.kind) refl (λ n a. cycle_none w n a is)
  where
    by : (t : Bool) → is_function_import i.kind ≡ t → ((n a : ℕ) → cycle w n a is ≡ None → (k : ℕ) → k < length (function_imports is) → comes_back w (a + k) ≡ false) → comes_back w (a + k) ≡ false
    by false f rest =
        rest (suc n) a (sym (ap (λ t. if t then (if comes_back w a then Some n else cycle w (suc n) (suc a) is) else cycle w (suc n) a is) f) ∙ e) k
        (subst (λ l. k < length l) (ap (λ t. if t then i ∷ function_imports is else function_imports is) f) h)
    by true f rest = here (comes_back w a) refl k (subst (λ l. k < length l) (ap (λ t. if t then i ∷ function_imports is else function_imports is) f) h)
      where
        found : (if comes_back w a then Some n else cycle w (suc n) (suc a) is) ≡ None
        found = sym (ap (λ t. if t then (if comes_back w a then Some n else cycle w (suc n) (suc a) is) else cycle w (suc n) a is) f) ∙ e

        here : (t : Bool) → comes_back w a ≡ t → (k : ℕ) → k < suc (length (function_imports is)) → comes_back w (a + k) ≡ false
        here true c k h = let both : Some n ≡ None = sym (ap (λ t. if t then Some n else cycle w (suc n) (suc a) is) c) ∙ found in absurd (cc)
        here false c zero h = ap (comes_back w) (add-zero a) ∙ c
        here false c (suc k) h =
            let sum : a + suc k ≡ suc a + k = omega arith in
            ap (comes_back w) sum ∙ rest (suc n) (suc a) (sym (ap (λ t. if t then Some n else cycle w (suc n) (suc a) is) c) ∙ found) k (omega (arith, h))

imports_count : (is : List Imported) → length (imported_functions is) ≡ length (function_imports is)
imports_count [] = refl
imports_count (i ∷ is) = by i.kind (imports_count is)
  where
    by : (kind : ImportKind) → length (imported_functions is) ≡ length (function_imports is) → length (function_of kind ++ imported_functions is) ≡ length (if is_function_import kind then i ∷ function_imports is else function_imports is)
    by (imports.Func t) rest = ap suc rest
    by (imports.Table l) rest = rest
    by (imports.Memory l) rest = rest
    by (imports.Global g) rest = rest

pub first_count : (w : Pair) → length (first_bindings w) ≡ length (function_imports w.first.imports)
first_count w = length-map (function_imports w.first.imports) _

pub second_count : (w : Pair) → length (second_bindings w) ≡ length (function_imports w.second.imports)
second_count w = length-map (function_imports w.second.imports) _

-- the second's addresses begin past the first's imports and own functions
pub past_count : (w : Pair) → (past_first w).functions ≡ length (first_bindings w) + length w.first.functions
past_count w = length-append (imported_functions w.first.imports) w.first.functions ∙ ap (λ k. k + length w.first.functions) (imports_count w.first.imports ∙ sym (first_count w))

module _ (w : Pair) (first : cycle w 0 0 w.first.imports ≡ None) (second : cycle w 0 (past_first w).functions w.second.imports ≡ None) where
  none_back : (a b : ℕ) → next w a ≡ Some b → comes_back w a ≡ false
  none_back a b e = by (stands (first_bindings w) (length w.first.functions) (second_bindings w) (length w.second.functions) a b e)
    where
      by : (a < length (first_bindings w)) ⊎ ((length (first_bindings w) + length w.first.functions ≤ a) × (a < length (first_bindings w) + length w.first.functions + length (second_bindings w))) → comes_back w a ≡ false
      by (inl h) = sym (ap (comes_back w) (zero-add a)) ∙ cycle_none w 0 0 w.first.imports first a (let c = first_count w in omega arith)
      by (inr h) =
          let k = a - (past_first w).functions in
          let past = past_count w in
          let count = second_count w in
          let low = h.0 in
          let high = h.1 in
          let sum : (past_first w).functions + k ≡ a = omega arith in
          sym (ap (comes_back w) sum) ∙ cycle_none w 0 (past_first w).functions w.second.imports second k (omega arith)

  -- each function stands for what as many steps lead to as there are imports, or more
  pub stands_at : (a reach : ℕ) → import_count w ≤ reach → end_of w a ≡ Some (again (bindings w) reach a)
  stands_at a reach le = by (next w (again (bindings w) (import_count w) a)) refl
    where
      by : (o : Option ℕ) → next w (again (bindings w) (import_count w) a) ≡ o → end_of w a ≡ Some (again (bindings w) reach a)
      by None none = ends_at w (import_count w) a none ∙ ap (λ (k : ℕ). Some k) (sym (settled (bindings w) (import_count w) reach a le none))
      by (Some b) some =
          let back = comes_to_ring w a (import_count w) b (omega arith) some in
          absurd (false≢true (sym (none_back (again (bindings w) (import_count w) a) b some) ∙ back))

-- ---- numbers

places_count : (n : ℕ) (bs : List (Option ℕ)) → length (places n bs) ≡ length bs
places_count n [] = refl
places_count n (None ∷ bs) = ap suc (places_count (suc n) bs)
places_count n (Some b ∷ bs) = ap suc (places_count n bs)

counted_count : (n count : ℕ) → length (counted n count) ≡ count
counted_count n zero = refl
counted_count n (suc count) = ap suc (counted_count (suc n) count)

abbrev nothing : Option ℕ
nothing = None

part_count : (n m own : ℕ) (bs : List (Option ℕ)) → length (places n bs ++ counted m own) ≡ length (bs ++ replicate own nothing)
part_count n m own bs =
    length-append (places n bs) (counted m own) ∙ ap (λ k. k + length (counted m own)) (places_count n bs) ∙ ap (λ k. length bs + k) (counted_count m own ∙ sym (length-replicate own nothing))
    ∙ sym (length-append bs (replicate own nothing))

numbers_count : (w : Pair) → length (own_numbers w) ≡ length (bindings w)
numbers_count w =
    let n = unbound_count (first_bindings w) + unbound_count (second_bindings w) in
    length-append (places 0 (first_bindings w) ++ counted n (length w.first.functions)) (places (unbound_count (first_bindings w)) (second_bindings w) ++ counted (n + length w.first.functions) (length w.second.functions))
    ∙ ap (λ k. k + length (places (unbound_count (first_bindings w)) (second_bindings w) ++ counted (n + length w.first.functions) (length w.second.functions))) (part_count 0 n (length w.first.functions) (first_bindings w))
    ∙ ap (λ k. length (first_bindings w ++ replicate (length w.first.functions) None) + k) (part_count (unbound_count (first_bindings w)) (n + length w.first.functions) (length w.second.functions) (second_bindings w))
    ∙ sym (length-append (first_bindings w ++ replicate (length w.first.functions) None) (second_bindings w ++ replicate (length w.second.functions) None))

pub numbers_are : (w : Pair) (ends own numbers : List ℕ) → Ends (bindings w) (import_count w) ends → cycle w 0 0 w.first.imports ≡ None → cycle w 0 (past_first w).functions w.second.imports ≡ None
    → own ≡ own_numbers w → numbers ≡ map (λ p. or_zero (slice_get own p)) ends → (a : ℕ) → or_zero (slice_get numbers a) ≡ number w a
unfolding number
numbers_are w ends own numbers e first second is made a =
    ap (λ ns. or_zero (slice_get ns a)) (made ∙ ap (λ l. map (λ p. or_zero (slice_get l p)) ends) is)
    ∙ ap or_zero (slice_get-map (λ p. or_zero (slice_get (own_numbers w) p)) ends a)
    ∙ by (cases_lt a (length ends))
    ∙ ap (at_place (own_numbers w)) (sym (stands_at w first second a e.reach e.enough))
  where
    by : (a < length ends) ⊎ (length ends ≤ a) → or_zero (option_map (λ p. or_zero (slice_get (own_numbers w) p)) (slice_get ends a)) ≡ or_zero (slice_get (own_numbers w) (again (bindings w) e.reach a))
    by (inl h) = ap (λ o. or_zero (option_map (λ p. or_zero (slice_get (own_numbers w) p)) o)) (within_some ends a h) ∙ ap (λ k. or_zero (slice_get (own_numbers w) k)) (e.leads a)
    by (inr h) =
        let count = numbers_count w in
        let same = e.count in
        ap (λ o. or_zero (option_map (λ p. or_zero (slice_get (own_numbers w) p)) o)) (slice_get_past ends a h)
        ∙ sym (ap or_zero (slice_get_past (own_numbers w) a (omega arith)))
        ∙ ap (λ k. or_zero (slice_get (own_numbers w) k)) (sym (past_itself ends a h) ∙ e.leads a)

pub second_past_count : (w : Pair) → length (function_types w.second) ≡ length (second_bindings w) + length w.second.functions
second_past_count w = length-append (imported_functions w.second.imports) w.second.functions ∙ ap (λ k. k + length w.second.functions) (imports_count w.second.imports ∙ sym (second_count w))
