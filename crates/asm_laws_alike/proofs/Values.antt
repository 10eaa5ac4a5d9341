-- Variables by the places of their names: what a name reads and writes.
use Rattle.std.proofs.Common.{◌≡◌, ℕ, zero, suc, Bool, true, false, List, [], ◌∷◌, ◌++◌, length, Option, Some, None, refl, sym, ap, ◌∙◌, arith}
use Rattle.std.specs.Prelude.{bytes_eq, option_map, slice_get, if◌then◌else◌, ◌||◌}
use Rattle.sem_words.specs.declared.js_value.JsValue.{JsValue}
use Rattle.asm_lang_valid.specs.Scope.{is_in}
use Rattle.asm_lang_exec.specs.Runs.{Binding, binding, value_in, with_value}
use Rattle.asm_laws_alike.specs.Places.{place_of}

abbrev pub names_of : List Binding → List (List ℕ)
names_of [] = []
names_of (b ∷ bs) = b.name ∷ names_of bs

abbrev pub values_of : List Binding → List JsValue
values_of [] = []
values_of (b ∷ bs) = b.value ∷ values_of bs

abbrev at_place : Option ℕ → List JsValue → Option JsValue
at_place None vs = None
at_place (Some i) vs = slice_get vs i

abbrev put : ℕ → JsValue → List JsValue → List JsValue
put i v [] = []
put zero v (x ∷ xs) = v ∷ xs
put (suc i) v (x ∷ xs) = x ∷ put i v xs

abbrev put_at : Option ℕ → JsValue → List JsValue → List JsValue
put_at None v vs = vs
put_at (Some i) v vs = put i v vs

-- ---- a name's value

one_later : (o : Option ℕ) (v : JsValue) (vs : List JsValue) → at_place (option_map (λ i. suc i) o) (v ∷ vs) ≡ at_place o vs
one_later None v vs = refl
one_later (Some i) v vs = refl

pub value_by_place : (bs : List Binding) (n : List ℕ) → value_in bs n ≡ at_place (place_of (names_of bs) n) (values_of bs)
value_by_place [] n = refl
value_by_place (b ∷ bs) n = by (bytes_eq b.name n) (value_by_place bs n)
  where
    by : (t : Bool) → value_in bs n ≡ at_place (place_of (names_of bs) n) (values_of bs)
        → (if t then Some b.value else value_in bs n) ≡ at_place (if t then Some 0 else option_map (λ i. suc i) (place_of (names_of bs) n)) (b.value ∷ values_of bs)
    by true e = refl
    by false e = e ∙ sym (one_later (place_of (names_of bs) n) b.value (values_of bs))

pub missing_place : (bs : List Binding) (n : List ℕ) → value_in bs n ≡ None → place_of (names_of bs) n ≡ None
missing_place [] n h = refl
missing_place (b ∷ bs) n h = by (bytes_eq b.name n) (missing_place bs n) h
  where
    by : (t : Bool) → (value_in bs n ≡ None → place_of (names_of bs) n ≡ None) → (if t then Some b.value else value_in bs n) ≡ None
        → (if t then Some 0 else option_map (λ i. suc i) (place_of (names_of bs) n)) ≡ None
    by true rest h = absurd (cc h)
    by false rest h = ap (option_map (λ i. suc i)) (rest h)

-- ---- a name's new value

pub names_stay : (n : List ℕ) (v : JsValue) (bs : List Binding) → names_of (with_value n v bs) ≡ names_of bs
names_stay n v [] = refl
names_stay n v (b ∷ bs) = by (bytes_eq b.name n) (names_stay n v bs)
  where
    by : (t : Bool) → names_of (with_value n v bs) ≡ names_of bs → names_of (if t then binding b.name v ∷ bs else b ∷ with_value n v bs) ≡ b.name ∷ names_of bs
    by true e = refl
    by false e = ap (λ ns. b.name ∷ ns) e

put_later : (o : Option ℕ) (v x : JsValue) (xs : List JsValue) → put_at (option_map (λ i. suc i) o) v (x ∷ xs) ≡ x ∷ put_at o v xs
put_later None v x xs = refl
put_later (Some i) v x xs = refl

pub values_by_place : (n : List ℕ) (v : JsValue) (bs : List Binding) → values_of (with_value n v bs) ≡ put_at (place_of (names_of bs) n) v (values_of bs)
values_by_place n v [] = refl
values_by_place n v (b ∷ bs) = by (bytes_eq b.name n) (values_by_place n v bs)
  where
    by : (t : Bool) → values_of (with_value n v bs) ≡ put_at (place_of (names_of bs) n) v (values_of bs)
        → values_of (if t then binding b.name v ∷ bs else b ∷ with_value n v bs) ≡ put_at (if t then Some 0 else option_map (λ i. suc i) (place_of (names_of bs) n)) v (b.value ∷ values_of bs)
    by true e = refl
    by false e = ap (λ vs. b.value ∷ vs) e ∙ sym (put_later (place_of (names_of bs) n) v b.value (values_of bs))

-- ---- variables on two sides

-- these names on either side, and the same values in order
pub record SameBindings (ns ns' : List (List ℕ)) (bs bs' : List Binding) : Type 0 where
  pub names : names_of bs ≡ ns
  pub names' : names_of bs' ≡ ns'
  pub values : values_of bs' ≡ values_of bs

pub same_value : (ns ns' : List (List ℕ)) (bs bs' : List Binding) (n n' : List ℕ) → SameBindings ns ns' bs bs' → place_of ns' n' ≡ place_of ns n → value_in bs' n' ≡ value_in bs n
same_value ns ns' bs bs' n n' h e =
    let a = value_by_place bs n in
    let a' = value_by_place bs' n' in
    let p : place_of (names_of bs') n' ≡ place_of (names_of bs) n = ap (λ l. place_of l n') h.names' ∙ (e ∙ sym (ap (λ l. place_of l n) h.names)) in
    let v = h.values in
    cc

pub same_written : (ns ns' : List (List ℕ)) (bs bs' : List Binding) (n n' : List ℕ) (v : JsValue) → SameBindings ns ns' bs bs' → place_of ns' n' ≡ place_of ns n → SameBindings ns ns' (with_value n v bs) (with_value n' v bs')
same_written ns ns' bs bs' n n' v h e =
    let a = values_by_place n v bs in
    let a' = values_by_place n' v bs' in
    let p : place_of (names_of bs') n' ≡ place_of (names_of bs) n = ap (λ l. place_of l n') h.names' ∙ (e ∙ sym (ap (λ l. place_of l n) h.names)) in
    let w = h.values in
    record { names = names_stay n v bs ∙ h.names; names' = names_stay n' v bs' ∙ h.names'; values = cc }

pub same_missing : (ns ns' : List (List ℕ)) (bs bs' : List Binding) (n : List ℕ) → SameBindings ns ns' bs bs' → value_in bs n ≡ None → place_of ns n ≡ None
same_missing ns ns' bs bs' n h e = ap (λ l. place_of l n) (sym h.names) ∙ missing_place bs n e

pub no_bindings : SameBindings [] [] [] []
no_bindings = record { names = refl; names' = refl; values = refl }

-- ---- places in a list that begins with another one

-- a name stands in the first part exactly where the other name does, and elsewhere at the same place of what follows
abbrev pub SameParts : (ns ns' os os' : List (List ℕ)) → (n n' : List ℕ) → Type 0
SameParts ns ns' os os' n n' = (is_in n' ns' ≡ is_in n ns) × (is_in n ns ≡ false → place_of os' n' ≡ place_of os n)

later_place : (a b : Option ℕ) → option_map (λ i. suc i) a ≡ option_map (λ i. suc i) b → a ≡ b
later_place None None e = refl
later_place None (Some i) e = absurd (cc e)
later_place (Some i) None e = absurd (cc e)
later_place (Some i) (Some j) e = cc e

not_first : (a : Option ℕ) → option_map (λ i. suc i) a ≡ Some 0 → ⊥
not_first None e = cc e
not_first (Some i) e = let s : suc i ≡ 0 = cc e in omega (arith, s)

pub same_parts : (ns ns' os os' : List (List ℕ)) (n n' : List ℕ) → length ns' ≡ length ns → place_of (ns' ++ os') n' ≡ place_of (ns ++ os) n → SameParts ns ns' os os' n n'
same_parts [] [] os os' n n' l e = (refl, λ _. e)
same_parts [] (y ∷ ys) os os' n n' l e = absurd (omega (arith, l))
same_parts (x ∷ xs) [] os os' n n' l e = absurd (omega (arith, l))
same_parts (x ∷ xs) (y ∷ ys) os os' n n' l e = by (bytes_eq x n) (bytes_eq y n') (same_parts xs ys os os' n n' (omega (arith, l))) e
  where
    by : (t t' : Bool) → (place_of (ys ++ os') n' ≡ place_of (xs ++ os) n → SameParts xs ys os os' n n')
        → (if t' then Some 0 else option_map (λ i. suc i) (place_of (ys ++ os') n')) ≡ (if t then Some 0 else option_map (λ i. suc i) (place_of (xs ++ os) n))
        → ((t' || is_in n' ys) ≡ (t || is_in n xs)) × ((t || is_in n xs) ≡ false → place_of os' n' ≡ place_of os n)
    by true true rest e = (refl, λ f. absurd (cc f))
    by true false rest e = absurd (not_first _ e)
    by false true rest e = absurd (not_first _ (sym e))
    by false false rest e = rest (later_place _ _ e)
