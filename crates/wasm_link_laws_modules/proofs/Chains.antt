-- Where no bound import leads back to itself, each function stands for one that isn't bound.
use Rattle.std.proofs.Common.{◌≡◌, ◌⊎◌, inl, inr, ℕ, zero, suc, ◌+◌, ◌<◌, ◌≤◌, Bool, true, false, List, [], ◌∷◌, ◌++◌, length, replicate, Option, Some, None, refl, sym, ap, ◌∙◌, subst, arith, length-append}
use Rattle.std.specs.Prelude.{slice_get, nat_eq, if◌then◌else◌, ◌||◌, option_map}
use Rattle.std.proofs.lemmas.Bool.Decides.{nat_tests}
use Rattle.std.proofs.lemmas.List.{length-map, length-replicate}
use Rattle.std.proofs.lemmas.Option.{slice_get_within}
use Rattle.wasm_lang.specs.declared.types.ImportKind.{ImportKind}
use Rattle.wasm_lang.specs.declared.types.ImportKind.TheVariants as imports
use Rattle.wasm_lang.specs.Modules.{Imported}
use Rattle.wasm_lang_valid.specs.Measures.{is_function_import}
use Rattle.wasm_lang_valid.specs.ModuleRules.{function_of, imported_functions}
use Rattle.wasm_link_lang.specs.Pairs.{Pair, past_first, bound_to, function_imports, first_bindings, second_bindings, bindings, bound, next, bound_or_itself, stands_for, import_count}
use Rattle.wasm_link_lang.specs.Refusal.{leads_to, reaches, comes_back, cycle}
use Rattle.wasm_link_code.specs.Numbers.{counted}
use Rattle.wasm_link_laws_modules.proofs.Accepted.{MeetsNoRow}
use Rattle.wasm_link_laws_modules.proofs.Places.{Splits, splits, length-counted}

-- ---- numbers among others

abbrev Among : ℕ → List ℕ → Type 0
Among c [] = ⊥
Among c (x ∷ xs) = (c ≡ x) ⊎ Among c xs

abbrev without : ℕ → List ℕ → List ℕ
without a [] = []
without a (x ∷ xs) = if nat_eq a x then without a xs else x ∷ without a xs

no_longer : (a : ℕ) (xs : List ℕ) → length (without a xs) ≤ length xs
no_longer a [] = omega arith
no_longer a (x ∷ xs) = by (nat_eq a x) (no_longer a xs)
  where
    by : (b : Bool) → length (without a xs) ≤ length xs → length (if b then without a xs else x ∷ without a xs) ≤ suc (length xs)
    by true e = omega (arith, e)
    by false e = omega (arith, e)

equal_test : (a : ℕ) → nat_eq a a ≡ true
equal_test a = grind (arith, nat_tests)

equal_numbers : (a x : ℕ) → nat_eq a x ≡ true → a ≡ x
equal_numbers a x e = grind (arith, nat_tests)

shorter : (a : ℕ) (xs : List ℕ) → Among a xs → length (without a xs) < length xs
shorter a [] h = absurd h
shorter a (x ∷ xs) (inl e) = by (nat_eq a x) (ap (nat_eq a) (sym e) ∙ equal_test a)
  where
    by : (b : Bool) → b ≡ true → length (if b then without a xs else x ∷ without a xs) < suc (length xs)
    by true e = let f = no_longer a xs in omega (arith, f)
    by false e = absurd (cc e)
shorter a (x ∷ xs) (inr h) = by (nat_eq a x) (shorter a xs h)
  where
    by : (b : Bool) → length (without a xs) < length xs → length (if b then without a xs else x ∷ without a xs) < suc (length xs)
    by true e = omega (arith, e)
    by false e = omega (arith, e)

still_among : (a c : ℕ) (xs : List ℕ) → (a ≡ c → ⊥) → Among c xs → Among c (without a xs)
still_among a c [] other h = absurd h
still_among a c (x ∷ xs) other (inl e) = by (nat_eq a x) refl
  where
    by : (b : Bool) → nat_eq a x ≡ b → Among c (if b then without a xs else x ∷ without a xs)
    by true t = absurd (other (equal_numbers a x t ∙ sym e))
    by false t = inl e
still_among a c (x ∷ xs) other (inr h) = by (nat_eq a x) (still_among a c xs other h)
  where
    by : (b : Bool) → Among c (without a xs) → Among c (if b then without a xs else x ∷ without a xs)
    by true r = r
    by false r = inr r

among_counted : (n count i : ℕ) → i < count → Among (n + i) (counted n count)
among_counted n zero i h = absurd (omega (arith, h))
among_counted n (suc count) zero h = inl (omega arith)
among_counted n (suc count) (suc i) h =
    let e : suc n + i ≡ n + suc i = omega arith in inr (subst (λ c. Among c (counted (suc n) count)) e (among_counted (suc n) count i (omega (arith, h))))

among_first : (c : ℕ) (xs ys : List ℕ) → Among c xs → Among c (xs ++ ys)
among_first c [] ys h = absurd h
among_first c (x ∷ xs) ys (inl e) = inl e
among_first c (x ∷ xs) ys (inr h) = inr (among_first c xs ys h)

among_second : (c : ℕ) (xs ys : List ℕ) → Among c ys → Among c (xs ++ ys)
among_second c [] ys h = h
among_second c (x ∷ xs) ys h = inr (among_second c xs ys h)

-- ---- what is bound is an import

none_there : (n i d : ℕ) → slice_get (replicate n None) i ≡ Some (Some d) → ⊥
none_there zero i d h = cc h
none_there (suc n) zero d h = cc h
none_there (suc n) (suc i) d h = none_there n i d h

is_bound : (o : Option (Option ℕ)) (d : ℕ) → bound o ≡ Some d → o ≡ Some (Some d)
is_bound None d e = absurd (cc e)
is_bound (Some b) d e = ap Some e

pub as_many_functions : (is : List Imported) → length (function_imports is) ≡ length (imported_functions is)
as_many_functions [] = refl
as_many_functions (i ∷ is) = by i.kind (as_many_functions is)
  where
    by : (kind : ImportKind) → length (function_imports is) ≡ length (imported_functions is)
        → length (if is_function_import kind then i ∷ function_imports is else function_imports is) ≡ length (function_of kind ++ imported_functions is)
    by (imports.Func t) e = ap suc e
    by (imports.Table l) e = e
    by (imports.Memory l) e = e
    by (imports.Global g) e = e

module _ (w : Pair) where
  abbrev addresses : List ℕ
  addresses = counted 0 (length (first_bindings w)) ++ counted (past_first w).functions (length (second_bindings w))

  -- so many steps lead from the one to the other
  abbrev Leads : ℕ → ℕ → ℕ → Type 0
  Leads zero a c = a ≡ c
  Leads (suc k) a c = (b : ℕ) × (next w a ≡ Some b) × Leads k b c

  or_first : (x y : Bool) → x ≡ true → (x || y) ≡ true
  or_first true y e = refl
  or_first false y e = absurd (cc e)

  or_second : (x y : Bool) → y ≡ true → (x || y) ≡ true
  or_second true y e = refl
  or_second false y e = e

  reaches_it : (n k a b c : ℕ) → k < n → next w a ≡ Some b → Leads k b c → reaches n w a c ≡ true
  reaches_it zero k a b c h e l = absurd (omega (arith, h))
  reaches_it (suc n) zero a b c h e l =
      ap (λ o. leads_to o c (λ x. reaches n w x c)) e ∙ or_first (nat_eq b c) (reaches n w b c) (ap (nat_eq b) (sym l) ∙ equal_test b)
  reaches_it (suc n) (suc k) a b c h e l =
      ap (λ o. leads_to o c (λ x. reaches n w x c)) e ∙ or_second (nat_eq b c) (reaches n w b c) (reaches_it n k b l.0 c (omega (arith, h)) l.1 l.2)

  module _ (no_ring : (a b : ℕ) → next w a ≡ Some b → comes_back w a ≡ false) (P : ℕ → Type 0) (stays : (a b : ℕ) → next w a ≡ Some b → P a → P b) where
    pub record End (turns a : ℕ) : Type 0 where
      pub address : ℕ
      pub is_end : stands_for turns w a ≡ Some address
      pub unbound : next w address ≡ None
      pub has : P address

    abbrev AllAmong : ℕ → List ℕ → ℕ → Type 0
    AllAmong n left a = (k c d : ℕ) → k ≤ n → Leads k a c → next w c ≡ Some d → Among c left

    ends : (n : ℕ) (left : List ℕ) (a : ℕ) → length left ≤ n → n ≤ import_count w → AllAmong n left a → P a → End (suc n) a
    ends zero left a few within all pa = by (next w a) refl
      where
        by : (o : Option ℕ) → next w a ≡ o → End 1 a
        by None e = record { address = a; is_end = ap (λ o. bound_or_itself o a (stands_for 0 w)) e; unbound = e; has = pa }
        by (Some b) e = none left few (all 0 a b (omega arith) refl e)
          where
            none : (left : List ℕ) → length left ≤ 0 → Among a left → End 1 a
            none [] few h = absurd h
            none (x ∷ xs) few h = absurd (omega (arith, few))
    ends (suc n) left a few within all pa = by (next w a) refl (λ b left few all pb. ends n left b few (omega (arith, within)) all pb)
      where
        by : (o : Option ℕ) → next w a ≡ o → ((b : ℕ) (left : List ℕ) → length left ≤ n → AllAmong n left b → P b → End (suc n) b) → End (suc (suc n)) a
        by None e further = record { address = a; is_end = ap (λ o. bound_or_itself o a (stands_for (suc n) w)) e; unbound = e; has = pa }
        by (Some b) e further =
            let is_less = shorter a left (all 0 a b (omega arith) refl e) in
            let differs : (k c : ℕ) → k ≤ n → Leads k b c → a ≡ c → ⊥ =
            λ k c h l same.
            let back : comes_back w a ≡ true = reaches_it (import_count w) k a b a (omega (arith, h, within)) e (subst (Leads k b) (sym same) l) in
            let not_back = no_ring a b e in
            cc (back, not_back)
            in
            let it = further b (without a left) (omega (arith, is_less, few)) (λ k c d h l f. still_among a c left (differs k c h l) (all (suc k) c d (omega (arith, h)) (b, e, l) f)) (stays a b e pa) in
            record { address = it.address; is_end = ap (λ o. bound_or_itself o a (stands_for (suc n) w)) e ∙ it.is_end; unbound = it.unbound; has = it.has }

  -- ---- all that is bound is among the imports

  pub first_many : length (first_bindings w) ≡ length (imported_functions w.first.imports)
  first_many = length-map (function_imports w.first.imports) (λ i. option_map (λ f. (past_first w).functions + f) (bound_to w.second i)) ∙ as_many_functions w.first.imports

  pub second_many : length (second_bindings w) ≡ length (imported_functions w.second.imports)
  second_many = length-map (function_imports w.second.imports) (bound_to w.first) ∙ as_many_functions w.second.imports

  pub first_functions_many : length (first_bindings w ++ replicate (length w.first.functions) None) ≡ (past_first w).functions
  first_functions_many =
      let none : Option ℕ = None in
      let e = length-append (first_bindings w) (replicate (length w.first.functions) none) in
      let f = length-replicate (length w.first.functions) none in
      let g = length-append (imported_functions w.first.imports) w.first.functions in
      let h = first_many in
      omega (arith, e, f, g, h)

  -- a bound import is one of the first module's or of the second's
  pub data BoundAt (a b : ℕ) : Type 0 where
    of_first : slice_get (first_bindings w) a ≡ Some (Some b) → BoundAt a b
    of_second : (j : ℕ) → a ≡ (past_first w).functions + j → slice_get (second_bindings w) j ≡ Some (Some b) → BoundAt a b

  pub bound_at : (a b : ℕ) → next w a ≡ Some b → BoundAt a b
  bound_at a b e =
      by (splits (first_bindings w ++ replicate (length w.first.functions) None) (second_bindings w ++ replicate (length w.second.functions) None) a (Some b)
      (is_bound (slice_get (bindings w) a) b e))
    where
      first : Splits (first_bindings w) (replicate (length w.first.functions) None) a (Some b) → BoundAt a b
      first (inl p) = of_first p
      first (inr p) = absurd (none_there (length w.first.functions) p.0 b p.2)

      second : (j : ℕ) → a ≡ length (first_bindings w ++ replicate (length w.first.functions) None) + j
          → Splits (second_bindings w) (replicate (length w.second.functions) None) j (Some b) → BoundAt a b
      second j e (inl p) = of_second j (e ∙ ap (λ n. n + j) first_functions_many) p
      second j e (inr p) = absurd (none_there (length w.second.functions) p.0 b p.2)

      by : Splits (first_bindings w ++ replicate (length w.first.functions) None) (second_bindings w ++ replicate (length w.second.functions) None) a (Some b) → BoundAt a b
      by (inl p) = first (splits (first_bindings w) (replicate (length w.first.functions) None) a (Some b) p)
      by (inr p) = second p.0 p.1 (splits (second_bindings w) (replicate (length w.second.functions) None) p.0 (Some b) p.2)

  bound_among : (a b : ℕ) → BoundAt a b → Among a addresses
  bound_among a b (of_first p) =
      let e : 0 + a ≡ a = omega arith in
      among_first a (counted 0 (length (first_bindings w))) (counted (past_first w).functions (length (second_bindings w)))
      (subst (λ c. Among c (counted 0 (length (first_bindings w)))) e (among_counted 0 (length (first_bindings w)) a (slice_get_within (first_bindings w) a (Some b) p)))
  bound_among a b (of_second j e p) =
      among_second a (counted 0 (length (first_bindings w))) (counted (past_first w).functions (length (second_bindings w)))
      (subst (λ c. Among c (counted (past_first w).functions (length (second_bindings w)))) (sym e)
      (among_counted (past_first w).functions (length (second_bindings w)) j (slice_get_within (second_bindings w) j (Some b) p)))

  few_addresses : length addresses ≤ import_count w
  few_addresses =
      let e = length-append (counted 0 (length (first_bindings w))) (counted (past_first w).functions (length (second_bindings w))) in
      let f = length-counted 0 (length (first_bindings w)) in
      let g = length-counted (past_first w).functions (length (second_bindings w)) in
      let h = length-map (function_imports w.first.imports) (λ i. option_map (λ f. (past_first w).functions + f) (bound_to w.second i)) in
      let k = length-map (function_imports w.second.imports) (bound_to w.first) in
      omega (arith, e, f, g, h, k)

  -- ---- no import comes back

  cycle_free : (n a : ℕ) (is : List Imported) → cycle w n a is ≡ None → (i : ℕ) → i < length (function_imports is) → comes_back w (a + i) ≡ false
  cycle_free n a [] e i h = absurd (omega (arith, h))
  cycle_free n a (x ∷ is) e i h = by (is_function_import x.kind) (λ n a e i h. cycle_free n a is e i h) e h
    where
      back : (b : Bool) → comes_back w a ≡ b → ((n a : ℕ) → cycle w n a is ≡ None → (i : ℕ) → i < length (function_imports is) → comes_back w (a + i) ≡ false)
          → (if b then Some n else cycle w (suc n) (suc a) is) ≡ None → (i : ℕ) → i < suc (length (function_imports is)) → comes_back w (a + i) ≡ false
      back true is_back further e i h = absurd (cc e)
      back false is_back further e zero h = let same : a + 0 ≡ a = omega arith in ap (comes_back w) same ∙ is_back
      back false is_back further e (suc i) h = let same : a + suc i ≡ suc a + i = omega arith in ap (comes_back w) same ∙ further (suc n) (suc a) e i (omega (arith, h))

      by : (b : Bool) → ((n a : ℕ) → cycle w n a is ≡ None → (i : ℕ) → i < length (function_imports is) → comes_back w (a + i) ≡ false)
          → (if b then (if comes_back w a then Some n else cycle w (suc n) (suc a) is) else cycle w (suc n) a is) ≡ None
          → i < length (if b then x ∷ function_imports is else function_imports is) → comes_back w (a + i) ≡ false
      by true further e h = back (comes_back w a) refl further e i h
      by false further e h = further (suc n) a e i h

  module _ (rows : MeetsNoRow w) where
    pub no_ring : (a b : ℕ) → next w a ≡ Some b → comes_back w a ≡ false
    no_ring a b e = by (bound_at a b e)
      where
        by : BoundAt a b → comes_back w a ≡ false
        by (of_first p) =
            let within = slice_get_within (first_bindings w) a (Some b) p in
            let many = length-map (function_imports w.first.imports) (λ i. option_map (λ f. (past_first w).functions + f) (bound_to w.second i)) in
            let same : 0 + a ≡ a = omega arith in
            ap (comes_back w) (sym same) ∙ cycle_free 0 0 w.first.imports rows.first_cycle a (omega (arith, within, many))
        by (of_second j same p) =
            let within = slice_get_within (second_bindings w) j (Some b) p in
            let many = length-map (function_imports w.second.imports) (bound_to w.first) in
            ap (comes_back w) same ∙ cycle_free 0 (past_first w).functions w.second.imports rows.second_cycle j (omega (arith, within, many))

    -- what holds of a function, and of each that it is bound to, holds of what it stands for
    pub stands : (P : ℕ → Type 0) (stays : (a b : ℕ) → next w a ≡ Some b → P a → P b) (a : ℕ) → P a → End no_ring P stays (suc (import_count w)) a
    stands P stays a pa =
        ends no_ring P stays (import_count w) addresses a few_addresses (omega arith) (λ k c d h l e. bound_among c d (bound_at c d e)) pa
