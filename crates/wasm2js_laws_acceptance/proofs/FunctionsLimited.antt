-- What the profile says of a module, as inequalities.
use Rattle.std.proofs.Common.{◌≡◌, ℕ, zero, suc, ◌*◌, ◌≤◌, Bool, true, false, cond, List, [], ◌∷◌, length, Option, Some, None, refl, subst, arith}
use Rattle.std.specs.Prelude.{slice_get, nat_lt}
use Rattle.std.proofs.lemmas.Bool.Decides.{nat_tests}
use Rattle.wasm_lang.specs.Modules.{FunctionType, WasmModule}
use Rattle.wasm_lang_valid.specs.declared.profile.Beyond.{Beyond}
use Rattle.wasm_lang_valid.specs.declared.profile.Beyond.TheVariants.{ImportedTable, MutableImport, MixedImport, WideImport, OffsetFromImport, SegmentOutside, MemoryLarge, Levels, Size, WideMulDiv}
use Rattle.wasm_lang_valid.specs.declared.profile.Outside.{Outside}
use Rattle.wasm_lang_valid.specs.Measures.{measures_of}
use Rattle.wasm_lang_valid.specs.ModuleRules.{is_table, function_types, global_types}
use Rattle.wasm_lang_valid.specs.Runnable.{is_mutable, first_import, above, most_pages_to_run, pages, row_or}
use Rattle.wasm_lang_valid.specs.Profile.{where_so, wide_import, offset_from_import, segment_outside, table_length, memory_bytes, most_levels, most_params, too_many, params_past, names_past, size_past, most_functions, most_globals, most_slots, most_entries, most_cells, padded, outside_profile}

-- ---- rows

pub record AreNone (offsets outside large levels size : Option ℕ) (rest : Option Outside) : Type 0 where
  pub constant : offsets ≡ None
  pub inside : outside ≡ None
  pub small : large ≡ None
  pub shallow : levels ≡ None
  pub few : size ≡ None
  pub others : rest ≡ None

rows_are_none : (a b c d e f g h i : Beyond) (p q r s t u v w x : Option ℕ) (rest : Option Outside)
    → row_or a p (row_or b q (row_or c r (row_or d s (row_or e t (row_or f u (row_or g v (row_or h w (row_or i x rest)))))))) ≡ None → AreNone t u v w x rest
rows_are_none a b c d e f g h i None None None None None None None None None rest is = record { constant = refl; inside = refl; small = refl; shallow = refl; few = refl; others = is }
rows_are_none a b c d e f g h i None None None None None None None None (Some n) rest is = cc is
rows_are_none a b c d e f g h i None None None None None None None (Some n) x rest is = cc is
rows_are_none a b c d e f g h i None None None None None None (Some n) w x rest is = cc is
rows_are_none a b c d e f g h i None None None None None (Some n) v w x rest is = cc is
rows_are_none a b c d e f g h i None None None None (Some n) u v w x rest is = cc is
rows_are_none a b c d e f g h i None None None (Some n) t u v w x rest is = cc is
rows_are_none a b c d e f g h i None None (Some n) s t u v w x rest is = cc is
rows_are_none a b c d e f g h i None (Some n) r s t u v w x rest is = cc is
rows_are_none a b c d e f g h i (Some n) q r s t u v w x rest is = cc is

only_row : (a : Beyond) (p : Option ℕ) → row_or a p None ≡ None → p ≡ None
only_row a None h = refl
only_row a (Some n) h = cc h

pub where_none : (b : Bool) (n : ℕ) (o : Option ℕ) → where_so b n o ≡ None → (b ≡ false) × (o ≡ None)
where_none true n o h = cc h
where_none false n o h = (refl, h)

pub at_most : (a b : ℕ) → nat_lt a b ≡ false → b ≤ a
at_most a b h = grind (arith, nat_tests)

none_above : (limit n : ℕ) → above limit (Some n) ≡ None → n ≤ limit
none_above limit n h = at_most limit n (by (nat_lt limit n) h)
  where
    by : (b : Bool) → cond b (Some n) None ≡ None → b ≡ false
    by true h = cc h
    by false h = refl

-- ---- sizes

params_few : (ts : List FunctionType) (o : Option ℕ) → params_past ts o ≡ None → ((n : ℕ) (t : FunctionType) → slice_get ts n ≡ Some t → length t.params ≤ most_params) × (o ≡ None)
params_few [] o h = ((λ n t e. cc e), h)
params_few (x ∷ ts) o h =
    let f = where_none (nat_lt most_params (length x.params)) (length x.params) (params_past ts o) h in
    let g = params_few ts o f.1 in
    (few (at_most most_params (length x.params) f.0) g.0, g.1)
  where
    few : length x.params ≤ most_params → ((n : ℕ) (t : FunctionType) → slice_get ts n ≡ Some t → length t.params ≤ most_params) → (n : ℕ) (t : FunctionType) → slice_get (x ∷ ts) n ≡ Some t → length t.params ≤ most_params
    few le more zero t e = let same : x ≡ t = cc e in subst (λ t. length t.params ≤ most_params) same le
    few le more (suc n) t e = more n t e

pub record IsLimited (w : WasmModule) : Type 0 where
  pub functions : length (function_types w) ≤ most_functions
  pub params : (n : ℕ) (t : FunctionType) → slice_get w.types n ≡ Some t → length t.params ≤ most_params
  pub globals : length (global_types w) ≤ most_globals
  pub slots : (measures_of w).slots ≤ most_slots
  pub entries : table_length w ≤ most_entries
  pub cells : (measures_of w).call_types * padded (table_length w) ≤ most_cells
  pub names : names_past w.imports ≡ None
  pub levels : (measures_of w).levels ≤ most_levels
  pub products : (measures_of w).mul_div ≡ None
  pub pages : above most_pages_to_run (pages w) ≡ None
  pub constant : offset_from_import 0 w.elements w.segments ≡ None
  pub inside : segment_outside (table_length w) (memory_bytes w) 0 w.elements w.segments ≡ None

pub limited : (w : WasmModule) → outside_profile w ≡ None → IsLimited w
limited w h =
    let rows = rows_are_none ImportedTable MutableImport MixedImport WideImport OffsetFromImport SegmentOutside MemoryLarge Levels Size
    (first_import is_table 0 w.imports) (first_import is_mutable 0 w.imports) (measures_of w).mixed (wide_import w 0 w.imports)
    (offset_from_import 0 w.elements w.segments) (segment_outside (table_length w) (memory_bytes w) 0 w.elements w.segments)
    (above most_pages_to_run (pages w)) (above most_levels (Some (measures_of w).levels)) (size_past w) (row_or WideMulDiv (measures_of w).mul_div None) h in
    let cells = too_many most_cells ((measures_of w).call_types * padded (table_length w)) (names_past w.imports) in
    let entries = too_many most_entries (table_length w) cells in
    let slots = too_many most_slots (measures_of w).slots entries in
    let globals = too_many most_globals (length (global_types w)) slots in
    let a = where_none (nat_lt most_functions (length (function_types w))) (length (function_types w)) (params_past w.types globals) rows.few in
    let b = params_few w.types globals a.1 in
    let c = where_none (nat_lt most_globals (length (global_types w))) (length (global_types w)) slots b.1 in
    let d = where_none (nat_lt most_slots (measures_of w).slots) (measures_of w).slots entries c.1 in
    let e = where_none (nat_lt most_entries (table_length w)) (table_length w) cells d.1 in
    let f = where_none (nat_lt most_cells ((measures_of w).call_types * padded (table_length w))) ((measures_of w).call_types * padded (table_length w)) (names_past w.imports) e.1 in
    record {
      functions = at_most most_functions (length (function_types w)) a.0;
      params = b.0;
      globals = at_most most_globals (length (global_types w)) c.0;
      slots = at_most most_slots (measures_of w).slots d.0;
      entries = at_most most_entries (table_length w) e.0;
      cells = at_most most_cells ((measures_of w).call_types * padded (table_length w)) f.0;
      names = f.1;
      levels = none_above most_levels (measures_of w).levels rows.shallow;
      products = only_row WideMulDiv (measures_of w).mul_div rows.others;
      pages = rows.small;
      constant = rows.constant;
      inside = rows.inside;
    }
