-- What the rows of the profile say of a module, one by one.
use Rattle.std.proofs.Common.{◌≡◌, ℕ, zero, suc, subst, ◌*◌, ◌≤◌, Bool, true, false, cond, List, [], ◌∷◌, length, Option, Some, None, refl, arith}
use Rattle.std.specs.Prelude.{◌^◌, nat_lt, slice_get}
use Rattle.std.proofs.lemmas.Bool.Decides.{nat_tests}
use Rattle.wasm_lang.specs.Modules.{FunctionType, WasmModule}
use Rattle.wasm_lang_valid.specs.declared.profile.Beyond.{Beyond}
use Rattle.wasm_lang_valid.specs.declared.profile.Beyond.TheVariants.{ImportedTable, MutableImport, MixedImport, WideImport, OffsetFromImport, SegmentOutside, MemoryLarge, Levels, Size}
use Rattle.wasm_lang_valid.specs.declared.profile.Outside.{Outside}
use Rattle.wasm_lang_valid.specs.Measures.{measures_of}
use Rattle.wasm_lang_valid.specs.ModuleRules.{is_table, function_types, global_types}
use Rattle.wasm_lang_valid.specs.Runnable.{is_mutable, first_import, above, most_pages_to_run, pages, row_or}
use Rattle.wasm_lang_valid.specs.Profile.{where_so, or_zero, wide_import, offset_from_import, segment_outside, table_length, memory_bytes, most_levels, most_params, too_many, params_past, names_past, size_past, most_functions, most_globals, most_slots, most_entries, most_cells, padded, outside_profile}

row_none : (a : Beyond) (p : Option ℕ) (rest : Option Outside) → row_or a p rest ≡ None → (p ≡ None) × (rest ≡ None)
row_none a None rest h = (refl, h)
row_none a (Some n) rest h = cc h

pub record AreWithin (w : WasmModule) : Type 0 where
  pub mixed : (measures_of w).mixed ≡ None
  pub wide : wide_import w 0 w.imports ≡ None
  pub pages_few : above most_pages_to_run (pages w) ≡ None
  pub sizes : size_past w ≡ None

pub rows_are_within : (w : WasmModule) → outside_profile w ≡ None → AreWithin w
rows_are_within w h =
    let a = (row_none ImportedTable (first_import is_table 0 w.imports) _ h).1 in
    let b = (row_none MutableImport (first_import is_mutable 0 w.imports) _ a).1 in
    let c = row_none MixedImport (measures_of w).mixed _ b in
    let d = row_none WideImport (wide_import w 0 w.imports) _ c.1 in
    let e = (row_none OffsetFromImport (offset_from_import 0 w.elements w.segments) _ d.1).1 in
    let f = (row_none SegmentOutside (segment_outside (table_length w) (memory_bytes w) 0 w.elements w.segments) _ e).1 in
    let g = row_none MemoryLarge (above most_pages_to_run (pages w)) _ f in
    let i = (row_none Levels (above most_levels (Some (measures_of w).levels)) _ g.1).1 in
    let j = row_none Size (size_past w) _ i in
    record { mixed = c.0; wide = d.0; pages_few = g.0; sizes = j.0 }

few_pages : (o : Option ℕ) → above most_pages_to_run o ≡ None → or_zero o * 65536 ≤ 2 ^ 28
few_pages None h = omega arith
few_pages (Some n) h = by (nat_lt most_pages_to_run n) refl h
  where
    at_most : (n : ℕ) → nat_lt 4096 n ≡ false → n ≤ 4096
    at_most n h = grind (arith, nat_tests)

    by : (b : Bool) → nat_lt most_pages_to_run n ≡ b → cond b (Some n) None ≡ None → n * 65536 ≤ 2 ^ 28
    by true e h = cc h
    by false e h = let l = at_most n e in omega (arith, l)

pub few_bytes : (w : WasmModule) → AreWithin w → memory_bytes w ≤ 2 ^ 28
few_bytes w h = few_pages (pages w) h.pages_few

-- ---- types have few parameters

where_none : (b : Bool) (n : ℕ) (o : Option ℕ) → where_so b n o ≡ None → (b ≡ false) × (o ≡ None)
where_none true n o h = cc h
where_none false n o h = (refl, h)

params_few : (ts : List FunctionType) (o : Option ℕ) → params_past ts o ≡ None → (k : ℕ) (t : FunctionType) → slice_get ts k ≡ Some t → length t.params ≤ 1000
params_few [] o h k t e = cc e
params_few (u ∷ ts) o h zero t e =
    let same : u ≡ t = cc e in
    let low = (where_none (nat_lt most_params (length u.params)) (length u.params) (params_past ts o) h).0 in
    subst (λ u. length u.params ≤ 1000) same (at_most (length u.params) low)
  where
    at_most : (n : ℕ) → nat_lt 1000 n ≡ false → n ≤ 1000
    at_most n h = grind (arith, nat_tests)
params_few (u ∷ ts) o h (suc k) t e = params_few ts o (where_none (nat_lt most_params (length u.params)) (length u.params) (params_past ts o) h).1 k t e

pub few_params : (w : WasmModule) → AreWithin w → (k : ℕ) (t : FunctionType) → slice_get w.types k ≡ Some t → length t.params ≤ 1000
few_params w h k t e =
    let rest = too_many most_globals (length (global_types w)) (too_many most_slots (measures_of w).slots (too_many most_entries (table_length w) (too_many most_cells ((measures_of w).call_types * padded (table_length w)) (names_past w.imports)))) in
    params_few w.types rest (where_none (nat_lt most_functions (length (function_types w))) (length (function_types w)) (params_past w.types rest) h.sizes).1 k t e
