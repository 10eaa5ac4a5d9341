-- Masked tables: where they stand, and what their cells are.
use Rattle.std.proofs.Common.{◌≡◌, ◌≢◌, ℕ, zero, suc, ◌+◌, ◌<◌, Bool, true, false, ◌&&◌, ◌||◌, not, List, [], ◌∷◌, ◌++◌, map, replicate, Some, refl, sym, ap, ◌∙◌, arith}
use Rattle.std.specs.Prelude.{slice_get, if◌then◌else◌}
use Rattle.std.specs.Cmp.Lexicographic.{pointwise}
use Rattle.std.proofs.lemmas.Bool.{and_parts, and_from}
use Rattle.wasm_lang.specs.declared.types.ValType.{ValType}
use Rattle.wasm_lang.specs.declared.types.ValType.TheVariants.{I32, I64}
use Rattle.wasm_lang.specs.Modules.{FunctionType, WasmModule}
use Rattle.wasm_lang_valid.specs.Typing.{same}
use Rattle.wasm_lang_valid.specs.Measures.{called_types, same_type, is_among}
use Rattle.wasm2js_lang.specs.Tables.{empty, MaskedTable, cell, entries_of, cells_of, masked_from}
use Rattle.wasm2js_lang.specs.Laws.{CalledTypesHaveTables, CellsAreOfEntries}

-- ---- types of one form are one type

same_is : (t u : ValType) → same t u ≡ true → t ≡ u
same_is I32 I32 h = refl
same_is I32 I64 h = cc h
same_is I64 I32 h = cc h
same_is I64 I64 h = refl

same_self : (t : ValType) → same t t ≡ true
same_self I32 = refl
same_self I64 = refl

all_same : (ts us : List ValType) → pointwise same ts us ≡ true → ts ≡ us
all_same [] [] h = refl
all_same [] (u ∷ us) h = cc h
all_same (t ∷ ts) [] h = cc h
all_same (t ∷ ts) (u ∷ us) h = let p = and_parts (same t u) (pointwise same ts us) h in let a = same_is t u p.0 in let b = all_same ts us p.1 in cc (a, b)

all_self : (ts : List ValType) → pointwise same ts ts ≡ true
all_self [] = refl
all_self (t ∷ ts) = and_from (same t t) (pointwise same ts ts) (same_self t) (all_self ts)

type_is : (t u : FunctionType) → same_type t u ≡ true → t ≡ u
type_is t u h =
    let p = and_parts (pointwise same t.params u.params) (pointwise same t.results u.results) h in
    ap (λ ps. record { params = ps; results = t.results }) (all_same t.params u.params p.0) ∙ ap (λ rs. record { params = u.params; results = rs }) (all_same t.results u.results p.1)

type_self : (t : FunctionType) → same_type t t ≡ true
type_self t = and_from (pointwise same t.params t.params) (pointwise same t.results t.results) (all_self t.params) (all_self t.results)

-- ---- the table of a type, among those from a place on

clash : {b : Bool} → b ≡ true → b ≡ false → ⊥
clash t f = cc (t, f)

among_joined : (t u : FunctionType) (ts : List FunctionType) → is_among t ts ≡ false → same_type t u ≡ false → is_among t (ts ++ u ∷ []) ≡ false
among_joined t u [] h k = ap (λ b. b || false) k
among_joined t u (x ∷ ts) h k = by (same_type t x) h (among_joined t u ts)
  where
    by : (b : Bool) → (b || is_among t ts) ≡ false → (is_among t ts ≡ false → same_type t u ≡ false → is_among t (ts ++ u ∷ []) ≡ false) → (b || is_among t (ts ++ u ∷ [])) ≡ false
    by true h more = h
    by false h more = more h k

abbrev table_of : WasmModule → ℕ → FunctionType → MaskedTable
table_of w n t = record { function_type = n; cells = cells_of w t }

record Found (w : WasmModule) (n : ℕ) (before types : List FunctionType) (t : FunctionType) : Type 0 where
  further : ℕ
  place : ℕ
  is_there : slice_get (masked_from w n before types) place ≡ Some (record { function_type = n + further; cells = cells_of w t })
  is_number : slice_get types further ≡ Some t
  is_least : (k : ℕ) → k < further → slice_get types k ≢ Some t

module _ (w : WasmModule) (t : FunctionType) (is_called : is_among t (called_types w.types w.bodies) ≡ true) where
  abbrev asked : FunctionType → List FunctionType → Bool
  asked u before = is_among u (called_types w.types w.bodies) && not (is_among u before)

  -- the first of the types
  at_first : (n : ℕ) (before types : List FunctionType) (u : FunctionType) → is_among t before ≡ false → u ≡ t → Found w n before (u ∷ types) t
  at_first n before types u new e =
      let is_new : not (is_among t before) ≡ true = ap not new in
      let wanted : asked u before ≡ true = ap (λ u. asked u before) e ∙ and_from (is_among t (called_types w.types w.bodies)) (not (is_among t before)) is_called is_new in
      let z : n ≡ n + 0 = omega arith in
      record {
        further = 0;
        place = 0;
        is_there =
            ap (λ b. slice_get (if b then table_of w n u ∷ masked_from w (suc n) (before ++ u ∷ []) types else masked_from w (suc n) (before ++ u ∷ []) types) 0) wanted
            ∙ ap (λ k. Some (table_of w k u)) z
            ∙ ap (λ u. Some (table_of w (n + 0) u)) e;
        is_number = ap (λ u. Some u) e;
        is_least = λ k low h. omega (arith, low);
      }

  -- further on
  after_first : (n : ℕ) (before types : List FunctionType) (u : FunctionType) → (u ≡ t → ⊥) → Found w (suc n) (before ++ u ∷ []) types t → Found w n before (u ∷ types) t
  after_first n before types u other f = by (asked u before) refl
    where
      table : MaskedTable
      table = record { function_type = n; cells = cells_of w u }

      rest : List MaskedTable
      rest = masked_from w (suc n) (before ++ u ∷ []) types

      number : suc n + f.further ≡ n + suc f.further
      number = omega arith

      there : slice_get rest f.place ≡ Some (record { function_type = n + suc f.further; cells = cells_of w t })
      there = f.is_there ∙ ap (λ k. Some (record { function_type = k; cells = cells_of w t })) number

      least : (k : ℕ) → k < suc f.further → slice_get (u ∷ types) k ≢ Some t
      least zero low h = other (some_same h)
        where
          some_same : {x y : FunctionType} → Some x ≡ Some y → x ≡ y
          some_same h = cc h
      least (suc k) low h = f.is_least k (omega (arith, low)) h

      by : (b : Bool) → asked u before ≡ b → Found w n before (u ∷ types) t
      by true e = record { further = suc f.further; place = suc f.place; is_there = ap (λ b. slice_get (if b then table ∷ rest else rest) (suc f.place)) e ∙ there; is_number = f.is_number; is_least = least }
      by false e = record { further = suc f.further; place = f.place; is_there = ap (λ b. slice_get (if b then table ∷ rest else rest) f.place) e ∙ there; is_number = f.is_number; is_least = least }

  found : (n k : ℕ) (before types : List FunctionType) → is_among t before ≡ false → slice_get types k ≡ Some t → Found w n before types t
  found n k before [] new h = cc h
  found n zero before (u ∷ types) new h = at_first n before types u new (some_same h)
    where
      some_same : {x y : FunctionType} → Some x ≡ Some y → x ≡ y
      some_same h = cc h
  found n (suc k) before (u ∷ types) new h = by (λ apart. found (suc n) k (before ++ u ∷ []) types (among_joined t u before new apart) h) (same_type t u) refl
    where
      by : (same_type t u ≡ false → Found w (suc n) (before ++ u ∷ []) types t) → (b : Bool) → same_type t u ≡ b → Found w n before (u ∷ types) t
      by more true e = at_first n before types u new (sym (type_is t u e))
      by more false e = after_first n before types u (λ same. clash (ap (same_type t) same ∙ type_self t) e) (more e)

pub called_types_have_tables : CalledTypesHaveTables
called_types_have_tables w k t h called =
    let f = found w t called 0 k [] w.types refl h in
    let e : 0 + f.further ≡ f.further = omega arith in
    record {
      number = f.further;
      place = f.place;
      is_there = f.is_there ∙ ap (λ n. Some (record { function_type = n; cells = cells_of w t })) e;
      is_number = f.is_number;
      is_least = f.is_least;
    }

-- ---- cells

at_front : {A B : Type 0} → (f : A → B) (xs : List A) (ys : List B) (i : ℕ) (x : A) → slice_get xs i ≡ Some x → slice_get (map f xs ++ ys) i ≡ Some (f x)
at_front f [] ys i x h = cc h
at_front f (y ∷ xs) ys zero x h = let e : y ≡ x = cc h in ap (λ y. Some (f y)) e
at_front f (y ∷ xs) ys (suc i) x h = at_front f xs ys i x h

pub cells_are_of_entries : CellsAreOfEntries
cells_are_of_entries w t i e h = at_front (cell w t) (entries_of w) (replicate _ empty) i e h
