-- The forms of the types before, one type more, and which types have tables.
use Rattle.std.proofs.Common.{◌≡◌, ◌⊎◌, inl, inr, ℕ, zero, suc, ◌+◌, ◌<◌, ◌≤◌, ◌^◌, Bool, true, false, ◌&&◌, ◌||◌, not, nat_eq, List, [], ◌∷◌, ◌++◌, length, get_or, map, take, drop, Some, refl, sym, ap, ◌∙◌, arith, append_assoc}
use Rattle.std.specs.Global.{Vec}
use Rattle.std.specs.Prelude.{slice_get, if◌then◌else◌, Result, Ok, Err}
use Rattle.std.specs.Result.{is_err, OnOk}
use Rattle.std.specs.Cmp.Lexicographic.{pointwise}
use Rattle.std.proofs.lemmas.List.{drop_more, map-append}
use Rattle.std.proofs.lemmas.List.Folds.{list_any-append}
use Rattle.std.proofs.lemmas.Option.{slice_get-get_or}
use Rattle.wasm_lang.specs.Modules.{FunctionType, WasmModule}
use Rattle.wasm_tree.specs.declared.module.FuncType.{FuncType}
use Rattle.wasm_tree.specs.Views.{type_of}
use Rattle.wasm_lang_valid.proofs.Main.{one_longer}
use Rattle.wasm_lang_valid.specs.Measures.{called_types, is_among, same_type}
use Rattle.wasm_validate_bodies.specs.declared.called.Called.{Called}
use Rattle.wasm_validate_bodies.specs.Calls.{form, holds, IsNoted, known, fresh, IsCalled}
use Rattle.wasm_validate_bodies.proofs.Forms.{form_same, or_false, among_more, among_same, type_self}
use Rattle.wasm2js_lang.specs.Tables.{MaskedTable, masked_from}
use Rattle.wasm2js_tables.specs.declared.cells.MaskedTable.{MaskedTable as Coded}
use Rattle.wasm2js_tables.specs.Views.{masked_view}
use Rattle.wasm2js_tables.specs.Forms.{AreForms, IsWanted, table_of}

pub no_forms : AreForms [] []
no_forms t = refl

pub forms_more : (t : FunctionType) (types : List FunctionType) (keys new : List (Vec ℕ)) → IsNoted (form t) keys new → AreForms keys types → AreForms new (types ++ t ∷ [])
forms_more t types keys _ (known h) are u = are u ∙ sym (among_same u t types (sym (are t) ∙ h))
forms_more t types keys _ (fresh h k is) are u =
    list_any-append (λ x. pointwise nat_eq (form u) x.items) keys (k ∷ [])
    ∙ ap (λ b. b || (pointwise nat_eq (form u) k.items || false)) (are u)
    ∙ ap (λ b. is_among u types || b) (or_false _ ∙ ap (pointwise nat_eq (form u)) is ∙ form_same u t)
    ∙ sym (among_more u t types)

pub called_and_new : (c : Called) (keys : List (Vec ℕ)) (t : FunctionType) (f : List ℕ) (called new : Bool) → f ≡ form t
    → ((types named : List FunctionType) (u : FunctionType) → IsCalled c types named → f ≡ form u → called ≡ is_among u named)
    → new ≡ not (holds keys f) → IsWanted c keys t (called && new)
called_and_new c keys t f called new e has is_new types named others is are =
    ap (λ b. b && new) (has types named t is e) ∙ ap (λ b. is_among t named && b) (is_new ∙ ap (λ f. not (holds keys f)) e ∙ ap not (are t))

-- ---- a type whose form is called, and that no type before has, has a number of 32 bits

among_at : (types : List FunctionType) (k n : ℕ) (t : FunctionType) → slice_get types k ≡ Some t → k < n → is_among t (take n types) ≡ true
among_at [] k n t e h = cc e
among_at (u ∷ types) k zero t e h = absurd (omega (arith, h))
among_at (u ∷ types) zero (suc n) t e h = let same : u ≡ t = cc e in ap (λ u. same_type t u || is_among t (take n types)) same ∙ ap (λ b. b || is_among t (take n types)) (type_self t)
among_at (u ∷ types) (suc k) (suc n) t e h = ap (λ b. same_type t u || b) (among_at types k n t e (omega (arith, h))) ∙ or_true (same_type t u)
  where
    or_true : (a : Bool) → a || true ≡ true
    or_true true = refl
    or_true false = refl

both : (a b : Bool) → a && not b ≡ true → (a ≡ true) × (b ≡ false)
both true false e = (refl, refl)
both true true e = cc e
both false b e = cc e

split : (k n : ℕ) → (k < n) ⊎ (n ≤ k)
split zero zero = inr (omega arith)
split zero (suc n) = inl (omega arith)
split (suc k) zero = inr (omega arith)
split (suc k) (suc n) = elim (split k n) [ inl h ↦ inl (omega (arith, h)) | inr h ↦ inr (omega (arith, h)) ]

pub number_fits : (c : Called) (types named : List FunctionType) (n : ℕ) (t : FunctionType) → IsCalled c types named → is_among t named && not (is_among t (take n types)) ≡ true → n < 2 ^ 32
number_fits c types named n t is wanted =
    let w = both (is_among t named) (is_among t (take n types)) wanted in
    let k = is.named t w.0 in
    elim (split k.0 n) [ inl low ↦ absurd (clash (sym (among_at types k.0 n t k.2 low) ∙ w.1)) | inr high ↦ let small = k.1 in omega (arith, high, small) ]
  where
    clash : true ≡ false → ⊥
    clash q = cc q

take_map : (n : ℕ) (types : List FuncType) → take n (map type_of types) ≡ map type_of (take n types)
take_map zero [] = refl
take_map zero (t ∷ types) = refl
take_map (suc n) [] = refl
take_map (suc n) (t ∷ types) = ap (λ l. type_of t ∷ l) (take_map n types)

pub number_fits_at : (c : Called) (types : List FuncType) (named : List FunctionType) (n : ℕ) (t : FunctionType) → IsCalled c (map type_of types) named → is_among t named && not (is_among t (map type_of (take n types))) ≡ true → n < 2 ^ 32
number_fits_at c types named n t is wanted = number_fits c (map type_of types) named n t is (ap (λ l. is_among t named && not (is_among t l)) (take_map n types) ∙ wanted)

-- ---- the tables from a type on

types_from : (types : List FuncType) (n : ℕ) (at : FuncType) → at ≡ get_or types n at → n < length types → map type_of (drop n types) ≡ type_of at ∷ map type_of (drop (n + 1) types)
types_from types n at is h = ap (map type_of) (drop_more types n at h) ∙ ap (λ x. type_of x ∷ map type_of (drop (n + 1) types)) (sym is)

pub types_to : (types : List FuncType) (n : ℕ) (at : FuncType) → at ≡ get_or types n at → n < length types → map type_of (take (n + 1) types) ≡ map type_of (take n types) ++ type_of at ∷ []
types_to types n at is h = ap (map type_of) (one_longer types n at (slice_get-get_or types n at h ∙ ap Some (sym is))) ∙ map-append type_of (take n types) (at ∷ [])

abbrev pub tables_from : WasmModule → List FuncType → ℕ → List MaskedTable
tables_from w types n = masked_from w n (map type_of (take n types)) (map type_of (drop n types))

module _ (w : WasmModule) (types : List FuncType) (n : ℕ) (at : FuncType) (is : at ≡ get_or types n at) (low : n < length types) where
  asked : Bool
  asked = is_among (type_of at) (called_types w.types w.bodies) && not (is_among (type_of at) (map type_of (take n types)))

  step : tables_from w types n ≡ (if asked then table_of w n (type_of at) ∷ tables_from w types (n + 1) else tables_from w types (n + 1))
  unfolding asked
  step =
      let next : suc n ≡ n + 1 = omega arith in
      ap (masked_from w n (map type_of (take n types))) (types_from types n at is low)
      ∙ ap (λ before. if asked then table_of w n (type_of at) ∷ masked_from w (suc n) before (map type_of (drop (n + 1) types)) else masked_from w (suc n) before (map type_of (drop (n + 1) types))) (sym (types_to types n at is low))
      ∙ ap (λ k. if asked then table_of w n (type_of at) ∷ masked_from w k (map type_of (take (n + 1) types)) (map type_of (drop (n + 1) types)) else masked_from w k (map type_of (take (n + 1) types)) (map type_of (drop (n + 1) types))) next

  pub with_table : true ≡ (is_among (type_of at) (called_types w.types w.bodies) && not (is_among (type_of at) (map type_of (take n types)))) → tables_from w types n ≡ table_of w n (type_of at) ∷ tables_from w types (n + 1)
  unfolding asked
  with_table e = step ∙ ap (λ b. if b then table_of w n (type_of at) ∷ tables_from w types (n + 1) else tables_from w types (n + 1)) (sym e)

  pub without_table : false ≡ (is_among (type_of at) (called_types w.types w.bodies) && not (is_among (type_of at) (map type_of (take n types)))) → tables_from w types n ≡ tables_from w types (n + 1)
  unfolding asked
  without_table e = step ∙ ap (λ b. if b then table_of w n (type_of at) ∷ tables_from w types (n + 1) else tables_from w types (n + 1)) (sym e)

-- ---- one table more, or none

pub ok_of : {A E P : Type 0} (r : Result A E) → is_err r ≡ false → OnOk r P → P
ok_of (Ok x) e h = h
ok_of (Err x) e h = cc e

pub one_table : (whole : List MaskedTable) (old : List Coded) (table : Coded) (new : List Coded) (from rest : List MaskedTable) (t : MaskedTable)
    → whole ≡ map masked_view old ++ from → from ≡ t ∷ rest → masked_view table ≡ t → new ≡ old ++ table ∷ [] → whole ≡ map masked_view new ++ rest
one_table whole old table new from rest t e f v n =
    e ∙ ap (λ x. map masked_view old ++ x) f
    ∙ sym (append_assoc (map masked_view old) (t ∷ []) rest)
    ∙ ap (λ x. (map masked_view old ++ x ∷ []) ++ rest) (sym v)
    ∙ ap (λ l. l ++ rest) (sym (ap (map masked_view) n ∙ map-append masked_view old (table ∷ [])))

pub no_table : (whole : List MaskedTable) (old new : List Coded) (from rest : List MaskedTable)
    → whole ≡ map masked_view old ++ from → from ≡ rest → new ≡ old → whole ≡ map masked_view new ++ rest
no_table whole old new from rest e f n = e ∙ ap (λ x. map masked_view old ++ x) f ∙ ap (λ l. map masked_view l ++ rest) (sym n)
