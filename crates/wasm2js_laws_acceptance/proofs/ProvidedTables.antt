-- The tables of a module: what stands in them, and their signatures.
use Rattle.std.proofs.Common.{◌≡◌, ◌≢◌, ℕ, zero, suc, ◌+◌, ◌*◌, ◌<◌, ◌≤◌, Bool, true, false, ◌&&◌, ◌||◌, List, [], ◌∷◌, ◌++◌, map, replicate, length, Option, Some, None, ◌⊎◌, inl, inr, is_some, refl, sym, ap, ◌∙◌, subst, arith}
use Rattle.std.specs.Prelude.{◌-◌, slice_get, if◌then◌else◌, ◌==◌, ◌/◌, ◌%◌}
use Rattle.std.specs.List.{AllByRecursion, list_any, flat_map, range_with_len}
use Rattle.std.specs.Cmp.Lexicographic.{pointwise}
use Rattle.std.proofs.lemmas.Bool.{and_parts, and_from}
use Rattle.std.proofs.lemmas.Bool.Decides.{nat_tests}
use Rattle.std.proofs.lemmas.List.{length-map}
use Rattle.wasm_lang.specs.declared.types.ValType.{ValType}
use Rattle.wasm_lang.specs.declared.types.ValType.TheVariants.{I32, I64}
use Rattle.wasm_lang.specs.Instructions.{Instruction, call_indirect}
use Rattle.wasm_lang.specs.Modules.{FunctionType, FunctionBody, WasmModule}
use Rattle.wasm_lang.specs.Shape.{IsShaped}
use Rattle.wasm_lang_valid.specs.Measures.{called, called_in, called_types, same_type, is_among}
use Rattle.wasm_lang_valid.specs.ModuleRules.{type_of_function}
use Rattle.wasm_lang_valid.specs.Profile.{table_length, padded, IsInProfile}
use Rattle.wasm_lang_valid.specs.Typing.{same, result_of}
use Rattle.wasm_lang_exec.specs.Reductions.{callees}
use Rattle.asm_lang.specs.Modules.{returns, Function, Table}
use Rattle.asm_lang_valid.specs.Scope as scopes
use Rattle.asm_lang_valid.specs.Scope.{module_meaning, signature_of, function_signature, first_member, last_gives_value, Signature}
use Rattle.asm_lang_valid.specs.Typed.{scope_of}
use Rattle.wasm2js_translation.specs.Names as names
use Rattle.wasm2js_translation.specs.Names.{Name, Numbered, numbered, spelled}
use Rattle.wasm2js_translation.specs.Words.{natural, trap_call, stmts_in}
use Rattle.wasm2js_lang.specs.Tables.{Cell, a_function, empty, other, MaskedTable, entries_of, has_form, cell, cells_of, masked_from, masked}
use Rattle.wasm2js_lang.proofs.Masked.{called_types_have_tables}
use Rattle.wasm2js_lang.proofs.Padded.{cells_are_padded}
use Rattle.wasm2js_translation.specs.Bodies.{form_number}
use Rattle.wasm2js_translation.specs.Helpers.{argument, int_param, function_of}
use Rattle.wasm2js_translation.specs.Modules.{functions_from, init_function, high_function, helpers, functions_of, translated}
use Rattle.wasm2js_translation.specs.Tables.{cell_count, words_of, result_mark, stub_number, stub_of, cell_name, table_for, tables_for, stub_function, is_empty, is_other, is_needed, stubs_for, stubs}
use Rattle.wasm2js_laws_scopes.specs.Provided.{signature, signature_for, IsTable}
use Rattle.wasm2js_laws_acceptance.specs.ProvidedLaws.{TablesAreProvided, MembersAreAlike}
use Rattle.wasm2js_laws_acceptance.proofs.ProvidedEntries.{In, in_left, in_right, in_map}
use Rattle.wasm2js_laws_acceptance.proofs.ProvidedFound.{function_found, table_found, is_seen}
use Rattle.wasm2js_laws_acceptance.proofs.ProvidedWithin.{rows_are_within, few_params}
use Rattle.wasm2js_laws_acceptance.proofs.ProvidedSizes.{some_cells}
use Rattle.wasm2js_laws_acceptance.proofs.ProvidedFunctions.{function_declared}

-- ---- types of one form are one type

same_is : (t u : ValType) → same t u ≡ true → t ≡ u
same_is I32 I32 h = refl
same_is I32 I64 h = cc h
same_is I64 I32 h = cc h
same_is I64 I64 h = refl

same_self : (t : ValType) → same t t ≡ true
same_self I32 = refl
same_self I64 = refl

all_same : (ts us : List ValType) → pointwise same ts us ≡ true → ts ≡ us
all_same [] [] h = refl
all_same [] (u ∷ us) h = cc h
all_same (t ∷ ts) [] h = cc h
all_same (t ∷ ts) (u ∷ us) h = let p = and_parts (same t u) (pointwise same ts us) h in let a = same_is t u p.0 in let b = all_same ts us p.1 in cc (a, b)

all_self : (ts : List ValType) → pointwise same ts ts ≡ true
all_self [] = refl
all_self (t ∷ ts) = and_from (same t t) (pointwise same ts ts) (same_self t) (all_self ts)

pub type_is : (t u : FunctionType) → same_type t u ≡ true → t ≡ u
type_is t u h =
    let p = and_parts (pointwise same t.params u.params) (pointwise same t.results u.results) h in
    ap (λ ps. record { params = ps; results = t.results }) (all_same t.params u.params p.0) ∙ ap (λ rs. record { params = u.params; results = rs }) (all_same t.results u.results p.1)

type_self : (t : FunctionType) → same_type t t ≡ true
type_self t = and_from (pointwise same t.params t.params) (pointwise same t.results t.results) (all_self t.params) (all_self t.results)

-- the number of a form is the least one of its type
pub least_is : (types : List FunctionType) (t : FunctionType) (n : ℕ) → slice_get types n ≡ Some t → ((k : ℕ) → k < n → slice_get types k ≢ Some t) → form_number types t ≡ n
least_is [] t n e h = cc e
least_is (u ∷ us) t zero e h = let same : u ≡ t = cc e in let yes : same_type u t ≡ true = ap (λ u. same_type u t) same ∙ type_self t in ap (λ b. if b then 0 else suc (form_number us t)) yes
least_is (u ∷ us) t (suc n) e h = by (same_type u t) refl (least_is us t n e (λ k low. h (suc k) (omega (arith, low))))
  where
    by : (b : Bool) → same_type u t ≡ b → form_number us t ≡ n → form_number (u ∷ us) t ≡ suc n
    by true f rest = absurd (h 0 (omega arith) (ap Some (type_is u t f)))
    by false f rest = ap (λ b. if b then 0 else suc (form_number us t)) f ∙ ap suc rest

-- ---- a type that is called is one of the module's

record IsType (types : List FunctionType) (t : FunctionType) : Type 0 where
  number : ℕ
  is_number : slice_get types number ≡ Some t

among_either : (t : FunctionType) (xs ys : List FunctionType) → is_among t (xs ++ ys) ≡ true → (is_among t xs ≡ true) ⊎ (is_among t ys ≡ true)
among_either t [] ys h = inr h
among_either t (x ∷ xs) ys h = by (same_type t x) h (among_either t xs ys)
  where
    by : (b : Bool) → (b || is_among t (xs ++ ys)) ≡ true → (is_among t (xs ++ ys) ≡ true → (is_among t xs ≡ true) ⊎ (is_among t ys ≡ true)) → ((b || is_among t xs) ≡ true) ⊎ (is_among t ys ≡ true)
    by true h more = inl refl
    by false h more = more h

module _ (types : List FunctionType) (t : FunctionType) where
  called_is : (i : Instruction) → is_among t (called types i) ≡ true → IsType types t
  called_is (call_indirect n) h = by (slice_get types n) refl h
    where
      by : (o : Option FunctionType) → slice_get types n ≡ o → is_among t (called types (call_indirect n)) ≡ true → IsType types t
      by None e h = let none : is_among t (called types (call_indirect n)) ≡ false = rw e refl in cc (none, h)
      by (Some u) e h =
          let one : is_among t (called types (call_indirect n)) ≡ (same_type t u || false) = rw e refl in
          record { number = n; is_number = e ∙ ap Some (sym (type_is t u (either (same_type t u) (sym one ∙ h)))) }
        where
          either : (b : Bool) → (b || false) ≡ true → b ≡ true
          either true h = refl
          either false h = h
  called_is i h = absurd (cc h)

  code_called : (is : List Instruction) → is_among t (called_in types is) ≡ true → IsType types t
  code_called [] h = absurd (cc h)
  code_called (i ∷ is) h = by (among_either t (called types i) (called_in types is) h) (called_is i) (code_called is)
    where
      by : (is_among t (called types i) ≡ true) ⊎ (is_among t (called_in types is) ≡ true) → (is_among t (called types i) ≡ true → IsType types t) → (is_among t (called_in types is) ≡ true → IsType types t) → IsType types t
      by (inl e) f g = f e
      by (inr e) f g = g e

  bodies_called : (bs : List FunctionBody) → is_among t (called_types types bs) ≡ true → IsType types t
  bodies_called [] h = absurd (cc h)
  bodies_called (b ∷ bs) h = by (among_either t (called_in types b.code) (called_types types bs) h) (code_called b.code) (bodies_called bs)
    where
      by : (is_among t (called_in types b.code) ≡ true) ⊎ (is_among t (called_types types bs) ≡ true) → (is_among t (called_in types b.code) ≡ true → IsType types t) → (is_among t (called_types types bs) ≡ true → IsType types t) → IsType types t
      by (inl e) f g = f e
      by (inr e) f g = g e

-- ---- stubs

few_words : (ts : List ValType) → words_of ts ≤ 2 * length ts
few_words [] = omega arith
few_words (I32 ∷ ts) = let h = few_words ts in omega (arith, h)
few_words (I64 ∷ ts) = let h = few_words ts in omega (arith, h)

few_marks : (ts : List ValType) → result_mark ts ≤ 1
few_marks [] = omega arith
few_marks (t ∷ ts) = omega arith

range_long : (a n : ℕ) → length (range_with_len a n) ≡ n
range_long a zero = refl
range_long a (suc n) = ap suc (range_long (a + 1) n)

arguments_long : (n : ℕ) → length (map int_param (map argument (range_with_len 0 n))) ≡ n
arguments_long n = length-map (map argument (range_with_len 0 n)) int_param ∙ length-map (range_with_len 0 n) argument ∙ range_long 0 n

gives_stub : (kind : ℕ) (b : Bool) → last_gives_value (stmts_in (trap_call kind ∷ (if b then returns (Some (natural 0)) ∷ [] else []))) ≡ b
gives_stub kind true = refl
gives_stub kind false = refl

mark_read : (n : ℕ) (rs : List ValType) → ((2 * n + result_mark rs) % 2 == 1) ≡ is_some (result_of (record { params = []; results = rs }))
mark_read n [] = let e : (2 * n + 0) % 2 ≡ 0 = omega arith in ap (λ k. k == 1) e
mark_read n (t ∷ ts) = let e : (2 * n + 1) % 2 ≡ 1 = omega arith in ap (λ k. k == 1) e

both_parts : (m n : ℕ) (a b : Bool) → m ≡ n → a ≡ b → signature m a ≡ signature n b
both_parts m n a b h k = cc (h, k)

half_is : (n mark : ℕ) → mark ≤ 1 → (2 * n + mark) / 2 ≡ n
half_is n mark h = omega (arith, h)

pub stub_signed : (name : Numbered) (kind : ℕ) (t : FunctionType) → signature_of (stub_function name kind (stub_number (Some t))) ≡ signature_for t
stub_signed name kind t =
    both_parts _ _ _ _
    (arguments_long (stub_number (Some t) / 2) ∙ half_is (words_of t.params) (result_mark t.results) (few_marks t.results))
    (gives_stub kind (stub_number (Some t) % 2 == 1) ∙ mark_read (words_of t.params) t.results)

in_range : {A : Type 0} → (f : ℕ → List A) (x : A) (a count n : ℕ) → a ≤ n → n < a + count → In x (f n) → In x (flat_map f (range_with_len a count))
in_range f x a zero n low high h = absurd (omega (arith, low, high))
in_range f x a (suc count) n low high h = by (a == n) refl (λ e. in_range f x (a + 1) count n (later e) (omega (arith, high)) h)
  where
    alike : (a == n) ≡ true → a ≡ n
    alike e = grind (arith, nat_tests)

    later : (a == n) ≡ false → a + 1 ≤ n
    later e = grind (arith, nat_tests)

    by : (b : Bool) → (a == n) ≡ b → ((a == n) ≡ false → In x (flat_map f (range_with_len (a + 1) count))) → In x (flat_map f (range_with_len a (suc count)))
    by true e more = in_left x (f a) (flat_map f (range_with_len (a + 1) count)) (subst (λ k. In x (f k)) (sym (alike e)) h)
    by false e more = in_right x (f a) (flat_map f (range_with_len (a + 1) count)) (more e)

any_in : {A : Type 0} → (test : A → Bool) (x : A) (xs : List A) → In x xs → test x ≡ true → list_any test xs ≡ true
any_in test x [] h e = absurd h
any_in test x (y ∷ xs) (inl k) e = let f : test y ≡ true = ap test k ∙ e in rw f refl
any_in test x (y ∷ xs) (inr h) e = let k = any_in test x xs h e in rw k (either (test y))
  where
    either : (b : Bool) → (b || true) ≡ true
    either true = refl
    either false = refl

pub in_place : {A : Type 0} → (xs : List A) (i : ℕ) (x : A) → slice_get xs i ≡ Some x → In x xs
in_place [] i x h = cc h
in_place (y ∷ xs) zero x h = inl (cc h)
in_place (y ∷ xs) (suc i) x h = inr (in_place xs i x h)

-- ---- cells

record IsImage {A B : Type 0} (f : A → B) (xs : List A) (y : B) : Type 0 where
  item : A
  is_in : In item xs
  is_image : f item ≡ y

from_map : {A B : Type 0} → (f : A → B) (xs : List A) (y : B) → In y (map f xs) → IsImage f xs y
from_map f [] y h = absurd h
from_map f (x ∷ xs) y (inl e) = record { item = x; is_in = inl refl; is_image = e }
from_map f (x ∷ xs) y (inr h) = let it = from_map f xs y h in record { item = it.item; is_in = inr it.is_in; is_image = it.is_image }

from_either : {A : Type 0} → (x : A) (xs ys : List A) → In x (xs ++ ys) → In x xs ⊎ In x ys
from_either x [] ys h = inr h
from_either x (y ∷ xs) ys (inl e) = inl (inl e)
from_either x (y ∷ xs) ys (inr h) = by (from_either x xs ys h)
  where
    by : In x xs ⊎ In x ys → In x (y ∷ xs) ⊎ In x ys
    by (inl h) = inl (inr h)
    by (inr h) = inr h

all_copies : {A : Type 0} → (x y : A) (n : ℕ) → In x (replicate n y) → y ≡ x
all_copies x y zero h = absurd h
all_copies x y (suc n) (inl e) = e
all_copies x y (suc n) (inr h) = all_copies x y n h

module _ (w : WasmModule) (t : FunctionType) where
  cell_function : (e : Option ℕ) (f : ℕ) → cell w t e ≡ a_function f → type_of_function w f ≡ Some t
  cell_function None f h = cc h
  cell_function (Some g) f h = by (has_form t (type_of_function w g)) refl h
    where
      has : (o : Option FunctionType) → has_form t o ≡ true → o ≡ Some t
      has None h = cc h
      has (Some u) h = ap Some (sym (type_is t u h))

      by : (b : Bool) → has_form t (type_of_function w g) ≡ b → (if b then a_function g else other) ≡ a_function f → type_of_function w f ≡ Some t
      by true e h = let same : g ≡ f = cc h in subst (λ k. type_of_function w k ≡ Some t) same (has (type_of_function w g) e)
      by false e h = cc h

  pub function_cell : (f : ℕ) → In (a_function f) (cells_of w t) → type_of_function w f ≡ Some t
  function_cell f h = by (from_either (a_function f) (map (cell w t) (entries_of w)) (replicate (padded (table_length w) - length (entries_of w)) empty) h)
    where
      by : In (a_function f) (map (cell w t) (entries_of w)) ⊎ In (a_function f) (replicate (padded (table_length w) - length (entries_of w)) empty) → type_of_function w f ≡ Some t
      by (inl h) = let it = from_map (cell w t) (entries_of w) (a_function f) h in cell_function it.item f it.is_image
      by (inr h) = let e = all_copies (a_function f) empty (padded (table_length w) - length (entries_of w)) h in cc e

-- ---- a table

-- the table of a type, under a number of it
abbrev pub masked_as : WasmModule → ℕ → FunctionType → MaskedTable
masked_as w n t = record { function_type = n; cells = cells_of w t }

abbrev pub IsMember : WasmModule → FunctionType → List ℕ → Type 0
IsMember w t n = function_signature (module_meaning (translated w) n) ≡ Some (signature_for t)

module _ (w : WasmModule) (h : IsInProfile w) (shaped : IsShaped w) (number : ℕ) (t : FunctionType) (is_number : slice_get w.types number ≡ Some t) (there : In (masked_as w number t) (masked w)) where
  few : stub_number (Some t) < 4002
  few =
      let a = few_params w (rows_are_within w h.within) number t is_number in
      let b = few_words t.params in
      let c = few_marks t.results in
      omega (arith, a, b, c)

  pub stub_is : stub_of w (masked_as w number t) ≡ stub_number (Some t)
  stub_is = ap stub_number is_number

  needed : (test : Cell → Bool) (x : Cell) → In x (cells_of w t) → test x ≡ true → is_needed w (masked w) test (stub_number (Some t)) ≡ true
  needed test x k e =
      any_in (λ u. (stub_of w u == stub_number (Some t)) && list_any test u.cells) (masked_as w number t) (masked w) there
      (and_from (stub_of w (masked_as w number t) == stub_number (Some t)) (list_any test (cells_of w t)) (same_number (stub_of w (masked_as w number t)) (stub_number (Some t)) stub_is) (any_in test x (cells_of w t) k e))
    where
      same_number : (a b : ℕ) → a ≡ b → (a == b) ≡ true
      same_number a b e = grind (arith, nat_tests)

  stub_there : (f : Function) → In f (stubs_for w (masked w) (stub_number (Some t))) → In f (functions_of w)
  stub_there f k =
      in_left f ((helpers w ++ functions_from w 0 (callees w)) ++ stubs w) (init_function w ∷ high_function ∷ [])
      (in_right f (helpers w ++ functions_from w 0 (callees w)) (stubs w) (in_range (stubs_for w (masked w)) f 0 4002 (stub_number (Some t)) (omega arith) few k))

  only_one : (b : Bool) (f : Function) → b ≡ true → In f (if b then f ∷ [] else [])
  only_one true f e = inl refl
  only_one false f e = cc e

  pub empty_there : In empty (cells_of w t) → In (stub_function names.no_entry 5 (stub_number (Some t))) (functions_of w)
  empty_there k =
      let f = stub_function names.no_entry 5 (stub_number (Some t)) in
      stub_there f (in_left f (if is_needed w (masked w) is_empty (stub_number (Some t)) then f ∷ [] else []) _ (only_one (is_needed w (masked w) is_empty (stub_number (Some t))) f (needed is_empty empty k refl)))

  pub other_there : In other (cells_of w t) → In (stub_function names.other_entry 6 (stub_number (Some t))) (functions_of w)
  other_there k =
      let f = stub_function names.other_entry 6 (stub_number (Some t)) in
      stub_there f (in_right f _ (if is_needed w (masked w) is_other (stub_number (Some t)) then f ∷ [] else []) (only_one (is_needed w (masked w) is_other (stub_number (Some t))) f (needed is_other other k refl)))

  signed : (f : Function) (n : Name) → In f (functions_of w) → f.name ≡ spelled n → signature_of f ≡ signature_for t → IsMember w t (spelled n)
  signed f n k e s = ap function_signature (function_found w f n k e) ∙ ap Some s

  pub cell_signed : (x : Cell) → In x (cells_of w t) → IsMember w t (spelled (cell_name (stub_number (Some t)) x))
  cell_signed (a_function f) k =
      let it = function_declared w h shaped f t (function_cell w t f k) in
      ap function_signature it.meaning ∙ ap Some it.signed
  cell_signed empty k =
      signed (stub_function names.no_entry 5 (stub_number (Some t))) (numbered names.no_entry (stub_number (Some t))) (empty_there k) refl (stub_signed names.no_entry 5 t)
  cell_signed other k =
      signed (stub_function names.other_entry 6 (stub_number (Some t))) (numbered names.other_entry (stub_number (Some t))) (other_there k) refl (stub_signed names.other_entry 6 t)

  abbrev member_of : Cell → List ℕ
  member_of x = spelled (cell_name (stub_of w (masked_as w number t)) x)

  pub member_signed : (x : Cell) → In x (cells_of w t) → IsMember w t (member_of x)
  member_signed x k = subst (λ n. IsMember w t (spelled (cell_name n x))) (sym stub_is) (cell_signed x k)

  pub as_long : length (map member_of (cells_of w t)) ≡ cell_count w
  as_long = length-map (cells_of w t) member_of ∙ (cells_are_padded w t h).long

  first_signed : (cells : List Cell) → ((x : Cell) → In x cells → IsMember w t (member_of x)) → 0 < length cells → first_member (translated w) (map member_of cells) ≡ Some (signature_for t)
  first_signed [] each some = absurd (omega (arith, some))
  first_signed (x ∷ cells) each some = each x (inl refl)

  pub table_signed : first_member (translated w) (map member_of (cells_of w t)) ≡ Some (signature_for t)
  table_signed = first_signed (cells_of w t) member_signed (let a = (cells_are_padded w t h).long in let b = some_cells w in omega (arith, a, b))

  all_signed : (cells : List Cell) → ((x : Cell) → In x cells → IsMember w t (member_of x)) → AllByRecursion (IsMember w t) (map member_of cells)
  all_signed [] each = tt
  all_signed (x ∷ cells) each = (each x (inl refl), all_signed cells (λ y k. each y (inr k)))

  pub members_signed : AllByRecursion (IsMember w t) (map member_of (cells_of w t))
  members_signed = all_signed (cells_of w t) member_signed

-- ---- the tables of types that are called

pub tables_are_provided : TablesAreProvided
tables_are_provided w h shaped name ps ls ss p l t called =
    let type = bodies_called w.types t w.bodies called in
    let it = called_types_have_tables w type.number t type.is_number called in
    let there = in_place (masked w) it.place (masked_as w it.number t) it.is_there in
    let table = table_for w (masked_as w it.number t) in
    let least = least_is w.types t it.number it.is_number it.is_least in
    subst (λ n. IsTable (scope_of (translated w) (function_of name ps ls ss)) (numbered names.table n) (cell_count w) (signature_for t)) (sym least)
    (record {
      table = table;
      is_this =
          is_seen w name ps ls ss p l (numbered names.table it.number) (scopes.a_table table) refl
          (table_found w table (numbered names.table it.number) (in_map (table_for w) (masked_as w it.number t) (masked w) there) refl);
      long = as_long w h shaped it.number t it.is_number there;
      signature = table_signed w h shaped it.number t it.is_number there;
    })

-- ---- each table

record IsOfType (w : WasmModule) (n : ℕ) (types : List FunctionType) (m : MaskedTable) : Type 0 where
  place : ℕ
  type : FunctionType
  is_type : slice_get types place ≡ Some type
  is_this : m ≡ masked_as w (n + place) type

of_type : (w : WasmModule) (n : ℕ) (before types : List FunctionType) (m : MaskedTable) → In m (masked_from w n before types) → IsOfType w n types m
of_type w n before [] m h = absurd h
of_type w n before (t ∷ ts) m h = by _ h (of_type w (suc n) (before ++ t ∷ []) ts m)
  where
    rest : List MaskedTable
    rest = masked_from w (suc n) (before ++ t ∷ []) ts

    none : n ≡ n + 0
    none = omega arith

    later : IsOfType w (suc n) ts m → IsOfType w n (t ∷ ts) m
    later it =
        let next : suc n + it.place ≡ n + suc it.place = omega arith in
        record { place = suc it.place; type = it.type; is_type = it.is_type; is_this = it.is_this ∙ ap (λ k. masked_as w k it.type) next }

    by : (b : Bool) → In m (if b then masked_as w n t ∷ masked_from w (suc n) (before ++ t ∷ []) ts else masked_from w (suc n) (before ++ t ∷ []) ts)
        → (In m (masked_from w (suc n) (before ++ t ∷ []) ts) → IsOfType w (suc n) ts m) → IsOfType w n (t ∷ ts) m
    by true (inl e) more = record { place = 0; type = t; is_type = refl; is_this = sym e ∙ ap (λ k. masked_as w k t) none }
    by true (inr h) more = later (more h)
    by false h more = later (more h)

pub members_are_alike : MembersAreAlike
members_are_alike w h shaped i table e =
    let it = from_map (table_for w) (masked w) table (in_place (tables_for w) i table e) in
    let type = of_type w 0 [] w.types it.item it.is_in in
    let none : 0 + type.place ≡ type.place = omega arith in
    let this : it.item ≡ masked_as w type.place type.type = type.is_this ∙ ap (λ k. masked_as w k type.type) none in
    let there = subst (λ m. In m (masked w)) this it.is_in in
    let whole : table_for w (masked_as w type.place type.type) ≡ table = ap (table_for w) (sym this) ∙ it.is_image in
    subst (λ (table : Table). (length table.members ≡ cell_count w) × ((form : Signature) × AllByRecursion (λ n. function_signature (module_meaning (translated w) n) ≡ Some form) table.members)) whole
    (as_long w h shaped type.place type.type type.is_type there, (signature_for type.type, members_signed w h shaped type.place type.type type.is_type there))
