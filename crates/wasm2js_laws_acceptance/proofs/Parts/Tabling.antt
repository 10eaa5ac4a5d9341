-- The tables of a translated module.
use Rattle.std.proofs.Common.{◌≡◌, ℕ, zero, suc, ◌+◌, ◌-◌, Bool, true, false, ◌&&◌, cond, not, List, [], ◌∷◌, ◌++◌, map, replicate, length, Option, Some, None, inl, inr, refl, sym, ap, ◌∙◌, subst, length-append, arith}
use Rattle.std.specs.Prelude.{slice_get, take, filter, if◌then◌else◌}
use Rattle.std.specs.List.{range_with_len}
use Rattle.std.proofs.lemmas.List.{append_assoc}
use Rattle.wasm_lang.specs.Modules.{FunctionType, WasmModule}
use Rattle.wasm_lang.specs.Shape.{IsShaped}
use Rattle.wasm_lang_valid.specs.Measures.{called_types, is_among}
use Rattle.wasm_lang_valid.specs.Profile.{table_length, padded, IsInProfile}
use Rattle.wasm_laws_sound.proofs.Functions.{typed_functions}
use Rattle.wasm2js_translation.specs.Names as names
use Rattle.wasm2js_translation.specs.Names.{numbered, spelled}
use Rattle.wasm2js_translation.proofs.Spelling.{spellings_differ}
use Rattle.wasm2js_lang.specs.Tables.{Cell, a_function, empty, other, MaskedTable, entries_of, cell, cells_of, masked_from, masked}
use Rattle.wasm2js_translation.specs.Modules.{translated}
use Rattle.wasm2js_translation.specs.Tables.{stub_number, stub_of, cell_name, table_for, stub_function}
use Rattle.wasm2js_laws_acceptance.proofs.ProvidedEntries.{In}
use Rattle.wasm2js_laws_acceptance.proofs.ProvidedFound.{function_found}
use Rattle.wasm2js_laws_acceptance.proofs.ProvidedFunctions.{function_at, function_there, function_named}
use Rattle.wasm2js_laws_acceptance.proofs.ProvidedTables.{in_place, function_cell, masked_as, stub_is, empty_there, other_there, as_long}
use Rattle.wasm2js_lang.specs.Parts.Tables.{has_table, IsLeastPower, entry_in, found_at, IsMember, IsTableOf, AreTablesOf}
use Rattle.wasm2js_laws_acceptance.specs.PartsLaws.{TranslationsHaveTables}
use Rattle.wasm2js_laws_acceptance.proofs.Parts.Lists.{behind, mapped_from}
use Rattle.wasm2js_laws_acceptance.proofs.Parts.Powers.{padded_is_least}
use Rattle.wasm2js_laws_acceptance.proofs.Parts.Stand.{function_stands}
use Rattle.wasm2js_laws_acceptance.proofs.Parts.Stubs.{stub_traps}

-- ---- what a call finds is the cell of its index

all_copies : {A : Type 0} → (count i : ℕ) (x y : A) → slice_get (replicate count x) i ≡ Some y → x ≡ y
all_copies zero i x y h = cc h
all_copies (suc count) zero x y h = cc h
all_copies (suc count) (suc i) x y h = all_copies count i x y h

cell_there : (f : Option ℕ → Cell) (es : List (Option ℕ)) (count i : ℕ) (c : Cell) → slice_get (map f es ++ replicate count (f None)) i ≡ Some c → f (entry_in (slice_get es i)) ≡ c
cell_there f [] count i c h = all_copies count i (f None) c h
cell_there f (e ∷ es) count zero c h = cc h
cell_there f (e ∷ es) count (suc i) c h = cell_there f es count i c h

found_is : (w : WasmModule) (t : FunctionType) (i : ℕ) (c : Cell) → slice_get (cells_of w t) i ≡ Some c → found_at w t i ≡ c
found_is w t i c h = cell_there (cell w t) (entries_of w) (padded (table_length w) - length (entries_of w)) i c h

-- ---- names of cells

cell_is : (s : ℕ) (c d : Cell) → cell_name s c ≡ cell_name s d → c ≡ d
cell_is s (a_function f) (a_function g) h = let e : f ≡ g = cc h in ap a_function e
cell_is s (a_function f) empty h = cc h
cell_is s (a_function f) other h = cc h
cell_is s empty (a_function g) h = cc h
cell_is s empty empty h = refl
cell_is s empty other h = cc h
cell_is s other (a_function g) h = cc h
cell_is s other empty h = cc h
cell_is s other other h = refl

-- ---- the table of a type

module _ (w : WasmModule) (h : IsInProfile w) (shaped : IsShaped w) where
  module _ (number : ℕ) (t : FunctionType) (is_number : slice_get w.types number ≡ Some t) (there : In (masked_as w number t) (masked w)) where
    abbrev name_for : (stub : ℕ) → Cell → List ℕ
    name_for stub c = spelled (cell_name stub c)

    member : (c : Cell) → In c (cells_of w t) → IsMember w (translated w) c (name_for (stub_number (Some t)) c)
    member (a_function f) k =
        let it = (typed_functions w h.valid shaped.bodies_match).are_there f t (function_cell w t f k) in
        record {
          function = function_at w f it.0;
          is_named = function_found w (function_at w f it.0) (numbered names.function f) (function_there w f it.0 it.1) (function_named w f it.0);
          is_for = function_stands w h shaped f it.0 it.1;
        }
    member empty k =
        let stub = stub_number (Some t) in
        record {
          function = stub_function names.no_entry 5 stub;
          is_named = function_found w (stub_function names.no_entry 5 stub) (numbered names.no_entry stub) (empty_there w h shaped number t is_number there k) refl;
          is_for = stub_traps w names.no_entry 5 stub;
        }
    member other k =
        let stub = stub_number (Some t) in
        record {
          function = stub_function names.other_entry 6 stub;
          is_named = function_found w (stub_function names.other_entry 6 stub) (numbered names.other_entry stub) (other_there w h shaped number t is_number there k) refl;
          is_for = stub_traps w names.other_entry 6 stub;
        }

    table_is : IsTableOf w (translated w) number (table_for w (masked_as w number t))
    table_is =
        let stub = stub_of w (masked_as w number t) in
        record {
          type = t;
          is_type = is_number;
          long = subst (λ n. IsLeastPower n (table_length w)) (sym (as_long w h shaped number t is_number there)) (padded_is_least w h);
          members = λ i name e.
              let it = mapped_from (name_for stub) (cells_of w t) i name e in
              let this = member it.item (in_place (cells_of w t) i it.item it.is_there) in
              subst (λ n. IsMember w (translated w) (found_at w t i) n) (ap (λ s. name_for s it.item) (sym (stub_is w h shaped number t is_number there)) ∙ it.is_image)
              (subst (λ c. IsMember w (translated w) c (name_for (stub_number (Some t)) it.item)) (sym (found_is w t i it.item it.is_there)) this);
          alike = λ i j m n e k.
              let a = mapped_from (name_for stub) (cells_of w t) i m e in
              let b = mapped_from (name_for stub) (cells_of w t) j n k in
              let f = found_is w t i a.item a.is_there in
              let g = found_is w t j b.item b.is_there in (
                λ same. f ∙ cell_is stub a.item b.item (spellings_differ (cell_name stub a.item) (cell_name stub b.item) (a.is_image ∙ same ∙ sym b.is_image)) ∙ sym g,
                λ same. sym a.is_image ∙ ap (name_for stub) (sym f ∙ same ∙ g) ∙ b.is_image,
              );
        }

  -- ---- all tables, from a type on

  taken : (before ts : List FunctionType) → take (length before) (before ++ ts) ≡ before
  taken [] ts = refl
  taken (t ∷ before) ts = ap (λ xs. t ∷ xs) (taken before ts)

  abbrev test : ℕ → Bool
  test n = has_table w n (slice_get w.types n)

  abbrev wanted : List FunctionType → FunctionType → Bool
  wanted before t = is_among t (called_types w.types w.bodies) && not (is_among t before)

  all : (n : ℕ) (before ts : List FunctionType) → n ≡ length before → w.types ≡ before ++ ts → ((m : MaskedTable) → In m (masked_from w n before ts) → In m (masked w))
      → AreTablesOf w (translated w) (filter test (range_with_len n (length ts))) (map (table_for w) (masked_from w n before ts))
  all n before [] long is into = tt
  all n before (t ∷ ts) long is into =
      subst (λ b. AreTablesOf w (translated w) (cond b (n ∷ numbers) numbers) (map (table_for w) (masked_from w n before (t ∷ ts)))) (sym is_wanted)
      (by (wanted before t) into (λ more. subst (λ k. AreTablesOf w (translated w) (filter test (range_with_len k (length ts))) (map (table_for w) rest)) next
      (all (suc n) (before ++ t ∷ []) ts one_more (is ∙ sym (append_assoc before (t ∷ []) ts)) more)))
    where
      numbers : List ℕ
      numbers = filter test (range_with_len (n + 1) (length ts))

      rest : List MaskedTable
      rest = masked_from w (suc n) (before ++ t ∷ []) ts

      next : suc n ≡ n + 1
      next = omega arith

      one_more : suc n ≡ length (before ++ t ∷ [])
      one_more = let e = length-append before (t ∷ []) in omega (arith, e, long)

      is_number : slice_get w.types n ≡ Some t
      is_number = let none : n ≡ length before + 0 = omega (arith, long) in ap (λ ts. slice_get ts n) is ∙ ap (slice_get (before ++ t ∷ ts)) none ∙ behind before (t ∷ ts) 0

      before_it : take n w.types ≡ before
      before_it = ap (take n) is ∙ ap (λ n. take n (before ++ t ∷ ts)) long ∙ taken before (t ∷ ts)

      is_wanted : test n ≡ wanted before t
      is_wanted = ap (has_table w n) is_number ∙ ap (wanted_after) before_it
        where
          wanted_after : List FunctionType → Bool
          wanted_after before = wanted before t

      by : (b : Bool) → ((m : MaskedTable) → In m (if b then masked_as w n t ∷ rest else rest) → In m (masked w))
          → (((m : MaskedTable) → In m rest → In m (masked w)) → AreTablesOf w (translated w) numbers (map (table_for w) rest))
          → AreTablesOf w (translated w) (cond b (n ∷ numbers) numbers) (map (table_for w) (if b then masked_as w n t ∷ rest else rest))
      by true into more = (table_is n t is_number (into (masked_as w n t) (inl refl)), more (λ m k. into m (inr k)))
      by false into more = more into

pub translations_have_tables : TranslationsHaveTables
translations_have_tables w h shaped = all w h shaped 0 [] w.types refl refl (λ m k. k)
