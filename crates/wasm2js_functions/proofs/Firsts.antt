-- The least numbers of forms, one type more at a time.
use Rattle.std.proofs.Common.{◌≡◌, inl, inr, ℕ, zero, suc, ◌+◌, ◌<◌, Bool, true, false, cond, nat_eq, List, [], ◌∷◌, ◌++◌, length, map, take, drop, get_or, Option, Some, None, refl, sym, ap, ◌∙◌, append_assoc, arith}
use Rattle.std.proofs.lemmas.List.{drop_more, map-append, length-map, length-take-le}
use Rattle.std.proofs.lemmas.Option.{slice_get-get_or}
use Rattle.std.proofs.lemmas.Cmp.{nat_list_eq_equiv}
use Rattle.std.specs.Global.{Vec}
use Rattle.std.specs.Prelude.{slice_get, option_map, unwrap_or, if◌then◌else◌}
use Rattle.std.specs.Map.{lookup}
use Rattle.std.specs.Cmp.Lexicographic.{pointwise}
use Rattle.wasm_lang.specs.Modules.{FunctionType}
use Rattle.wasm_tree.specs.declared.module.FuncType.{FuncType}
use Rattle.wasm_tree.specs.Views.{type_of}
use Rattle.wasm_lang_valid.proofs.Main.{one_longer}
use Rattle.wasm_lang_valid.specs.Measures.{same_type}
use Rattle.wasm_validate_bodies.specs.Calls.{form}
use Rattle.wasm_validate_bodies.proofs.Forms.{form_same, bool, type_is, type_self}
use Rattle.wasm2js_translation.specs.Bodies.{form_number}
use Rattle.wasm2js_operands.specs.Forms.{form_numbers}

-- ---- the map

-- what entries have for the form of a type
abbrev pub number_of : List (Vec ℕ × ℕ) → FunctionType → Option ℕ
number_of es t = lookup (λ k. pointwise nat_eq (form t) k.items) es

abbrev pub noted_number : FunctionType → (first : ℕ) → FunctionType → Option ℕ → Option ℕ
noted_number t first u other = if same_type t u then Some first else other

module _ (test : Vec ℕ → Bool) (k : Vec ℕ) (v : ℕ) where
  last_found : (es : List (Vec ℕ × ℕ)) → lookup test es ≡ None → test k ≡ true → lookup test (es ++ (k, v) ∷ []) ≡ Some v
  last_found [] none is = ap (λ b. cond b (Some v) None) is
  last_found (e ∷ es) none is = step (test e.0) none (last_found es)
    where
      step : (b : Bool) → cond b (Some e.1) (lookup test es) ≡ None → (lookup test es ≡ None → test k ≡ true → lookup test (es ++ (k, v) ∷ []) ≡ Some v)
          → cond b (Some e.1) (lookup test (es ++ (k, v) ∷ [])) ≡ Some v
      step true h more = cc h
      step false h more = more h is

  last_other : (es : List (Vec ℕ × ℕ)) → test k ≡ false → lookup test (es ++ (k, v) ∷ []) ≡ lookup test es
  last_other [] isnt = ap (λ b. cond b (Some v) None) isnt
  last_other (e ∷ es) isnt = ap (cond (test e.0) (Some e.1)) (last_other es isnt)

-- one that is there
pub noted_known : (es : List (Vec ℕ × ℕ)) (f : List ℕ) (t u : FunctionType) (first : ℕ) → f ≡ form t
    → Some first ≡ lookup (λ k. pointwise nat_eq f k.items) es → number_of es u ≡ noted_number t first u (number_of es u)
noted_known es f t u first is found = elim (bool (same_type t u)) [
  | inl e ↦
      ap (number_of es) (sym (type_is t u e)) ∙ ap (λ g. lookup (λ k. pointwise nat_eq g k.items) es) (sym is) ∙ sym found
      ∙ sym (ap (λ b. if b then Some first else number_of es u) e)
  | inr e ↦ sym (ap (λ b. if b then Some first else number_of es u) e)
]

-- one more
pub noted_new : (old new : List (Vec ℕ × ℕ)) (k : Vec ℕ) (t u : FunctionType) (v : ℕ) → k.items ≡ form t
    → None ≡ lookup (λ x. pointwise nat_eq k.items x.items) old → new ≡ old ++ (k, v) ∷ [] → number_of new u ≡ noted_number t v u (number_of old u)
noted_new old new k t u v is none more =
    let none_of : number_of old t ≡ None = sym (none ∙ ap (λ g. lookup (λ x. pointwise nat_eq g x.items) old) is) in
    let here : pointwise nat_eq (form u) k.items ≡ same_type t u = ap (pointwise nat_eq (form u)) is ∙ nat_list_eq_equiv.symm (form u) (form t) ∙ form_same t u in
    let test = λ (x : Vec ℕ). pointwise nat_eq (form u) x.items in
    ap (λ es. number_of es u) more
    ∙ elim (bool (same_type t u)) [
      | inl e ↦ last_found test k v old (ap (number_of old) (sym (type_is t u e)) ∙ none_of) (here ∙ e) ∙ sym (ap (λ b. if b then Some v else number_of old u) e)
      | inr e ↦ last_other test k v old (here ∙ e) ∙ sym (ap (λ b. if b then Some v else number_of old u) e)
    ]

-- ---- the first place

-- the place of the first type of this form
abbrev pub first_in : List FunctionType → FunctionType → Option ℕ
first_in [] t = None
first_in (u ∷ us) t = if same_type u t then Some 0 else option_map (λ n. suc n) (first_in us t)

placed : (a b : Bool) (f : Option ℕ) (n : ℕ)
    → (if a then Some 0 else option_map (λ k. suc k) (if b then Some (unwrap_or f n) else f)) ≡ (if b then Some (unwrap_or (if a then Some 0 else option_map (λ k. suc k) f) (suc n)) else (if a then Some 0 else option_map (λ k. suc k) f))
placed true true f n = refl
placed true false f n = refl
placed false true None n = refl
placed false true (Some k) n = refl
placed false false f n = refl

first_more : (us : List FunctionType) (x t : FunctionType) → first_in (us ++ x ∷ []) t ≡ (if same_type x t then Some (unwrap_or (first_in us t) (length us)) else first_in us t)
first_more [] x t = refl
first_more (u ∷ us) x t = ap (λ o. if same_type u t then Some 0 else option_map (λ n. suc n) o) (first_more us x t) ∙ placed (same_type u t) (same_type x t) (first_in us t) (length us)

first_noted : (us : List FunctionType) (t u : FunctionType) → noted_number t (unwrap_or (first_in us t) (length us)) u (first_in us u) ≡ first_in (us ++ t ∷ []) u
first_noted us t u = elim (bool (same_type t u)) [
  | inl e ↦
      ap (λ b. if b then Some (unwrap_or (first_in us t) (length us)) else first_in us u) e
      ∙ ap (λ w. Some (unwrap_or (first_in us w) (length us))) (type_is t u e)
      ∙ sym (first_more us t u ∙ ap (λ b. if b then Some (unwrap_or (first_in us u) (length us)) else first_in us u) e)
  | inr e ↦
      ap (λ b. if b then Some (unwrap_or (first_in us t) (length us)) else first_in us u) e
      ∙ sym (first_more us t u ∙ ap (λ b. if b then Some (unwrap_or (first_in us u) (length us)) else first_in us u) e)
]

-- the place of the first type of the form that the n-th has
first_is : (types : List FuncType) (n : ℕ) (at : FuncType) → slice_get types n ≡ Some at → unwrap_or (first_in (map type_of (take n types)) (type_of at)) n ≡ form_number (map type_of types) (type_of at)
first_is [] n at is = cc is
first_is (t ∷ types) zero at is =
    let same : t ≡ at = cc is in
    sym (ap (λ (x : FuncType). if same_type (type_of x) (type_of at) then 0 else suc (form_number (map type_of types) (type_of at))) same
    ∙ ap (λ b. if b then 0 else suc (form_number (map type_of types) (type_of at))) (type_self (type_of at)))
first_is (t ∷ types) (suc n) at is =
    step (same_type (type_of t) (type_of at)) (first_in (map type_of (take n types)) (type_of at)) ∙ ap (λ k. if same_type (type_of t) (type_of at) then 0 else suc k) (first_is types n at is)
  where
    step : (b : Bool) (f : Option ℕ) → unwrap_or (if b then Some 0 else option_map (λ k. suc k) f) (suc n) ≡ (if b then 0 else suc (unwrap_or f n))
    step true f = refl
    step false None = refl
    step false (Some k) = refl

-- ---- one type more

module _ (types : List FuncType) (n : ℕ) (at : FuncType) (is : at ≡ get_or types n at) (low : n < length types) where
  stands : slice_get types n ≡ Some at
  stands = slice_get-get_or types n at low ∙ ap Some (sym is)

  before : List FunctionType
  before = map type_of (take n types)

  counted : length before ≡ n
  unfolding before
  counted = length-map (take n types) type_of ∙ length-take-le n types (omega (arith, low))

  one_type : map type_of (take (n + 1) types) ≡ before ++ type_of at ∷ []
  unfolding before
  one_type = ap (map type_of) (one_longer types n at stands) ∙ map-append type_of (take n types) (at ∷ [])

  module _ (old new : FunctionType → Option ℕ) (first : ℕ)
      (known : (u : FunctionType) → old u ≡ first_in (map type_of (take n types)) u)
      (value : first ≡ unwrap_or (old (type_of at)) n) where
    pub all_noted : ((u : FunctionType) → new u ≡ noted_number (type_of at) first u (old u)) → (u : FunctionType) → new u ≡ first_in (map type_of (take (n + 1) types)) u
    unfolding before
    all_noted noted u =
        let t = type_of at in
        noted u
        ∙ ap (noted_number t first u) (known u)
        ∙ ap (λ k. noted_number t k u (first_in before u)) (value ∙ ap (λ o. unwrap_or o n) (known t) ∙ ap (unwrap_or (first_in before t)) (sym counted))
        ∙ first_noted before t u
        ∙ ap (λ l. first_in l u) (sym one_type)

    pub one_form : (forms : List ℕ) → form_numbers (map type_of types) ≡ forms ++ map (form_number (map type_of types)) (map type_of (drop n types))
        → form_numbers (map type_of types) ≡ (forms ++ first ∷ []) ++ map (form_number (map type_of types)) (map type_of (drop (n + 1) types))
    one_form forms all =
        let whole = map type_of types in
        let rest = map (form_number whole) (map type_of (drop (n + 1) types)) in
        let number : form_number whole (type_of at) ≡ first = sym (value ∙ ap (λ o. unwrap_or o n) (known (type_of at)) ∙ first_is types n at stands) in
        all
        ∙ ap (λ l. forms ++ map (form_number whole) (map type_of l)) (drop_more types n at low)
        ∙ ap (λ (x : FuncType). forms ++ form_number whole (type_of x) ∷ rest) (sym is)
        ∙ ap (λ k. forms ++ k ∷ rest) number
        ∙ sym (append_assoc forms (first ∷ []) rest)
