-- No name is imported both as a function and as a global.
use Rattle.std.proofs.Common.{◌≡◌, ℕ, ◌+◌, Bool, true, false, cond, ◌&&◌, ◌||◌, List, [], ◌∷◌, ◌++◌, Option, Some, None, inl, inr, refl, sym, ap, ◌∙◌, subst}
use Rattle.std.specs.Prelude.{codes, nat_eq}
use Rattle.std.specs.Cmp.Lexicographic.{pointwise}
use Rattle.wasm_lang.specs.declared.types.ImportKind.{ImportKind}
use Rattle.wasm_lang.specs.declared.types.ImportKind.TheVariants as imports
use Rattle.wasm_lang.specs.Modules.{Imported}
use Rattle.wasm_lang_valid.specs.Measures.{same_import, is_function_import, is_global_import, is_imported_so, is_given, mixes, first_mixed}
use Rattle.wasm2js_laws_acceptance.proofs.ProvidedEntries.{In, in_left, in_right}
use Rattle.wasm2js_laws_acceptance.proofs.NamesKeys.{same_bytes}

or_true : (a : Bool) → (a || true) ≡ true
or_true true = refl
or_true false = refl

not_mixed : (b : Bool) (n : ℕ) (o : Option ℕ) → cond b (Some n) o ≡ None → (b ≡ false) × (o ≡ None)
not_mixed true n o h = cc h
not_mixed false n o h = (refl, h)

-- the two have the same names
pub record AreSame (i j : Imported) : Type 0 where
  pub modules : i.module_name ≡ j.module_name
  pub names : i.name ≡ j.name

is_same : (i j : Imported) → AreSame i j → same_import i j ≡ true
is_same i j h =
    let a : pointwise nat_eq i.module_name j.module_name ≡ true = subst (λ n. pointwise nat_eq i.module_name n ≡ true) h.modules (same_bytes i.module_name) in
    let b : pointwise nat_eq i.name j.name ≡ true = subst (λ n. pointwise nat_eq i.name n ≡ true) h.names (same_bytes i.name) in
    rw (a, b) refl

imported_before : (test : ImportKind → Bool) (i j : Imported) (before : List Imported) → In j before → test j.kind ≡ true → same_import i j ≡ true → is_imported_so test i before ≡ true
imported_before test i j [] h k s = absurd h
imported_before test i j (x ∷ before) (inl e) k s =
    let a : test x.kind ≡ true = ap (λ (x : Imported). test x.kind) e ∙ k in
    let b : same_import i x ≡ true = ap (same_import i) e ∙ s in
    rw (a, b) refl
imported_before test i j (x ∷ before) (inr h) k s = let e = imported_before test i j before h k s in rw e (or_true (test x.kind && same_import i x))

mixes_function : (before : List Imported) (i : Imported) → is_function_import i.kind ≡ true → is_imported_so is_global_import i before ≡ true → mixes before i ≡ true
mixes_function before i a b = rw (a, b) refl

mixes_global : (before : List Imported) (i : Imported) → is_global_import i.kind ≡ true → is_imported_so is_function_import i before ≡ true → mixes before i ≡ true
mixes_global before i a b = rw (a, b) (or_true (is_function_import i.kind && is_imported_so is_global_import i before))

mixes_given : (before : List Imported) (i : Imported) → is_global_import i.kind ≡ true → is_given i ≡ true → mixes before i ≡ true
mixes_given before i a b =
    let c : (is_imported_so is_function_import i before || is_given i) ≡ true = rw b (or_true (is_imported_so is_function_import i before)) in
    rw (a, c) (or_true (is_function_import i.kind && is_imported_so is_global_import i before))

clash : {b : Bool} → b ≡ true → b ≡ false → ⊥
clash t f = cc (t, f)

module _ (i j : Imported) (func : is_function_import i.kind ≡ true) (glob : is_global_import j.kind ≡ true) (same : AreSame i j) where
  other_way : AreSame j i
  other_way = record { modules = sym same.modules; names = sym same.names }

  global_later : (before : List Imported) (n : ℕ) (is : List Imported) → first_mixed before n is ≡ None → In i before → In j is → ⊥
  global_later before n [] h b k = k
  global_later before n (x ∷ is) h b (inl e) =
      let none = (not_mixed (mixes before x) n (first_mixed (before ++ x ∷ []) (n + 1) is) h).0 in
      clash (subst (λ j. mixes before j ≡ true) (sym e) (mixes_global before j glob (imported_before is_function_import j i before b func (is_same j i other_way)))) none
  global_later before n (x ∷ is) h b (inr k) =
      global_later (before ++ x ∷ []) (n + 1) is (not_mixed (mixes before x) n (first_mixed (before ++ x ∷ []) (n + 1) is) h).1 (in_left i before (x ∷ []) b) k

  function_later : (before : List Imported) (n : ℕ) (is : List Imported) → first_mixed before n is ≡ None → In j before → In i is → ⊥
  function_later before n [] h b k = k
  function_later before n (x ∷ is) h b (inl e) =
      let none = (not_mixed (mixes before x) n (first_mixed (before ++ x ∷ []) (n + 1) is) h).0 in
      clash (subst (λ i. mixes before i ≡ true) (sym e) (mixes_function before i func (imported_before is_global_import i j before b glob (is_same i j same)))) none
  function_later before n (x ∷ is) h b (inr k) =
      function_later (before ++ x ∷ []) (n + 1) is (not_mixed (mixes before x) n (first_mixed (before ++ x ∷ []) (n + 1) is) h).1 (in_left j before (x ∷ []) b) k

  two_kinds : (kind : ImportKind) → is_function_import kind ≡ true → is_global_import kind ≡ true → ⊥
  two_kinds (imports.Func t) a b = cc b
  two_kinds (imports.Table l) a b = cc a
  two_kinds (imports.Memory l) a b = cc a
  two_kinds (imports.Global g) a b = cc a

  pub none_mixed : (before : List Imported) (n : ℕ) (is : List Imported) → first_mixed before n is ≡ None → In i is → In j is → ⊥
  none_mixed before n [] h a b = a
  none_mixed before n (x ∷ is) h (inl e) (inl f) =
      two_kinds x.kind (ap (λ (x : Imported). is_function_import x.kind) e ∙ func) (ap (λ (x : Imported). is_global_import x.kind) f ∙ glob)
  none_mixed before n (x ∷ is) h (inl e) (inr b) =
      global_later (before ++ x ∷ []) (n + 1) is (not_mixed (mixes before x) n (first_mixed (before ++ x ∷ []) (n + 1) is) h).1 (in_right i before (x ∷ []) (inl e)) b
  none_mixed before n (x ∷ is) h (inr a) (inl f) =
      function_later (before ++ x ∷ []) (n + 1) is (not_mixed (mixes before x) n (first_mixed (before ++ x ∷ []) (n + 1) is) h).1 (in_right j before (x ∷ []) (inl f)) a
  none_mixed before n (x ∷ is) h (inr a) (inr b) = none_mixed (before ++ x ∷ []) (n + 1) is (not_mixed (mixes before x) n (first_mixed (before ++ x ∷ []) (n + 1) is) h).1 a b

-- a global isn't one of the two that every module has
pub none_given : (j : Imported) → is_global_import j.kind ≡ true → is_given j ≡ true → (before : List Imported) (n : ℕ) (is : List Imported) → first_mixed before n is ≡ None → In j is → ⊥
none_given j glob given before n [] h k = k
none_given j glob given before n (x ∷ is) h (inl e) =
    let none = (not_mixed (mixes before x) n (first_mixed (before ++ x ∷ []) (n + 1) is) h).0 in
    clash (subst (λ j. mixes before j ≡ true) (sym e) (mixes_given before j glob given)) none
none_given j glob given before n (x ∷ is) h (inr k) = none_given j glob given (before ++ x ∷ []) (n + 1) is (not_mixed (mixes before x) n (first_mixed (before ++ x ∷ []) (n + 1) is) h).1 k

pub trap_is_given : (j : Imported) → j.module_name ≡ codes "env" → j.name ≡ codes "$trap" → is_given j ≡ true
trap_is_given j a b = rw (a, b) refl

pub high_is_given : (j : Imported) → j.module_name ≡ codes "env" → j.name ≡ codes "$high" → is_given j ≡ true
high_is_given j a b = rw (a, b) refl
