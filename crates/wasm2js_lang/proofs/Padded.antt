-- How many entries and cells a masked table has.
use Rattle.std.proofs.Common.{◌≡◌, ℕ, zero, suc, ◌+◌, ◌-◌, ◌*◌, ◌<◌, ◌≤◌, Bool, true, false, cond, List, [], ◌∷◌, ◌++◌, length, map, replicate, Option, Some, None, refl, sym, ap, ◌∙◌, arith, length-append, length-drop}
use Rattle.std.specs.Prelude.{slice_get, nat_lt, nat_le}
use Rattle.std.proofs.lemmas.Bool.Decides.{nat_tests}
use Rattle.std.proofs.lemmas.List.{length-map, length-replicate, length-take}
use Rattle.wasm_lang.specs.declared.types.ValType.TheVariants.{I32}
use Rattle.wasm_lang.specs.Instructions as code
use Rattle.wasm_lang.specs.Instructions.{Instruction, plain}
use Rattle.wasm_lang.specs.Modules.{FunctionType, ElementSegment, DataSegment, WasmModule}
use Rattle.wasm_lang_valid.specs.declared.profile.Beyond.{Beyond}
use Rattle.wasm_lang_valid.specs.declared.profile.Beyond.TheVariants.{ImportedTable, MutableImport, MixedImport, WideImport, OffsetFromImport, SegmentOutside, MemoryLarge, Levels, Size, WideMulDiv}
use Rattle.wasm_lang_valid.specs.declared.profile.Outside.{Outside}
use Rattle.wasm_lang_valid.specs.declared.rule.Rule.{Rule}
use Rattle.wasm_lang_valid.specs.declared.rule.Rule.TheVariants.{Initializer}
use Rattle.wasm_lang_valid.specs.declared.section.Section.TheVariants as sections
use Rattle.wasm_lang_valid.specs.Measures.{measures_of}
use Rattle.wasm_lang_valid.specs.ModuleRules.{meets, at, is_table, function_types, global_types, init_rule, element_rule, are_functions, is_end}
use Rattle.wasm_lang_valid.specs.Runnable.{is_mutable, first_import, above, most_pages_to_run, pages, row_or}
use Rattle.wasm_lang_valid.specs.Profile.{where_so, or_zero, wide_import, is_global_offset, constant_offset, passes, offset_from_import, segment_outside, table_length, memory_bytes, most_levels, too_many, params_past, names_past, size_past, most_functions, most_globals, most_slots, most_entries, most_cells, doubled, padded, outside_profile}
use Rattle.wasm_lang_valid.specs.Validity.{IsValidModule}
use Rattle.wasm_lang_exec.specs.Session.{replaced}
use Rattle.wasm2js_lang.specs.Tables.{empty, cell, with_elements, entries_of}
use Rattle.wasm2js_lang.specs.Laws.{CellsArePadded}

-- ---- rows of the profile

pub record AreNone (table imported outside size : Option ℕ) : Type 0 where
  pub no_table : table ≡ None
  pub no_import : imported ≡ None
  pub all_inside : outside ≡ None
  pub small : size ≡ None

rows_are_none : (a b c d e f g h i : Beyond) (p q r s t u v w x : Option ℕ) (rest : Option Outside)
    → row_or a p (row_or b q (row_or c r (row_or d s (row_or e t (row_or f u (row_or g v (row_or h w (row_or i x rest)))))))) ≡ None → AreNone p t u x
rows_are_none a b c d e f g h i None None None None None None None None None rest is = record { no_table = refl; no_import = refl; all_inside = refl; small = refl }
rows_are_none a b c d e f g h i None None None None None None None None (Some n) rest is = cc is
rows_are_none a b c d e f g h i None None None None None None None (Some n) x rest is = cc is
rows_are_none a b c d e f g h i None None None None None None (Some n) w x rest is = cc is
rows_are_none a b c d e f g h i None None None None None (Some n) v w x rest is = cc is
rows_are_none a b c d e f g h i None None None None (Some n) u v w x rest is = cc is
rows_are_none a b c d e f g h i None None None (Some n) t u v w x rest is = cc is
rows_are_none a b c d e f g h i None None (Some n) s t u v w x rest is = cc is
rows_are_none a b c d e f g h i None (Some n) r s t u v w x rest is = cc is
rows_are_none a b c d e f g h i (Some n) q r s t u v w x rest is = cc is

module _ (w : WasmModule) where
  pub within_rows : outside_profile w ≡ None → AreNone (first_import is_table 0 w.imports) (offset_from_import 0 w.elements w.segments) (segment_outside (table_length w) (memory_bytes w) 0 w.elements w.segments) (size_past w)
  within_rows h =
      rows_are_none ImportedTable MutableImport MixedImport WideImport OffsetFromImport SegmentOutside MemoryLarge Levels Size
      (first_import is_table 0 w.imports) (first_import is_mutable 0 w.imports) (measures_of w).mixed (wide_import w 0 w.imports)
      (offset_from_import 0 w.elements w.segments) (segment_outside (table_length w) (memory_bytes w) 0 w.elements w.segments)
      (above most_pages_to_run (pages w)) (above most_levels (Some (measures_of w).levels)) (size_past w) (row_or WideMulDiv (measures_of w).mul_div None) h

-- ---- sizes

pub where_none : (b : Bool) (n : ℕ) (o : Option ℕ) → where_so b n o ≡ None → (b ≡ false) × (o ≡ None)
where_none true n o h = cc h
where_none false n o h = (refl, h)

params_none : (ts : List FunctionType) (o : Option ℕ) → params_past ts o ≡ None → o ≡ None
params_none [] o h = h
params_none (t ∷ ts) o h = params_none ts o (where_none _ _ (params_past ts o) h).1

pub few_entries : (w : WasmModule) → size_past w ≡ None → table_length w ≤ most_entries
few_entries w h =
    let cells = too_many most_cells ((measures_of w).call_types * padded (table_length w)) (names_past w.imports) in
    let entries = too_many most_entries (table_length w) cells in
    let slots = too_many most_slots (measures_of w).slots entries in
    let globals = too_many most_globals (length (global_types w)) slots in
    let a = (where_none (nat_lt most_functions (length (function_types w))) (length (function_types w)) (params_past w.types globals) h).1 in
    let b = params_none w.types globals a in
    let c = (where_none (nat_lt most_globals (length (global_types w))) (length (global_types w)) slots b).1 in
    let d = (where_none (nat_lt most_slots (measures_of w).slots) (measures_of w).slots entries c).1 in
    at_most most_entries (table_length w) (where_none (nat_lt most_entries (table_length w)) (table_length w) cells d).0
  where
    at_most : (a b : ℕ) → nat_lt a b ≡ false → b ≤ a
    at_most a b h = grind (arith, nat_tests)

-- a power that is doubled so often
top : ℕ → ℕ → ℕ
top zero power = power
top (suc turns) power = top turns (power * 2)

long_enough : (turns power n : ℕ) → n ≤ top turns power → n ≤ doubled turns power n
unfolding top
long_enough zero power n h = h
long_enough (suc turns) power n h = by (nat_le n power) refl (long_enough turns (power * 2) n h)
  where
    less : (a b : ℕ) → nat_le a b ≡ true → a ≤ b
    less a b h = grind (arith, nat_tests)

    by : (b : Bool) → nat_le n power ≡ b → n ≤ doubled turns (power * 2) n → n ≤ cond b power (doubled turns (power * 2) n)
    by true e more = less n power e
    by false e more = more

pub is_padded : (n : ℕ) → n ≤ most_entries → n ≤ padded n
unfolding top
is_padded n h = long_enough 32 1 n (omega (arith, h))

-- ---- entries

pub kept : {A : Type 0} → (at : ℕ) (new old : List A) → at + length new ≤ length old → length (replaced at new old) ≡ length old
kept at new old h = simp (length-append, length-take, length-drop) (omega (arith, h))

never : (b : Bool) → meets b Initializer (Some Initializer) ≡ None → ⊥
never true h = cc h
never false h = cc h

pub is_constant : (m : WasmModule) (is : List Instruction) → init_rule m I32 is ≡ None → is_global_offset is ≡ false → (n : ℕ) × (constant_offset is ≡ Some n)
is_constant m [] h g = cc h
is_constant m (i ∷ []) h g = cc h
is_constant m (i ∷ j ∷ k ∷ is) h g = cc h
is_constant m (plain (code.const32 n) ∷ j ∷ []) h g = (n, refl)
is_constant m (plain (code.global_get x) ∷ j ∷ []) h g = cc g
is_constant m (plain p ∷ j ∷ []) h g = absurd (never (is_end j) h)
is_constant m (i ∷ j ∷ []) h g = absurd (never (is_end j) h)

pub meets_last : (b : Bool) (r : Rule) (o : Option Rule) → meets b r o ≡ None → o ≡ None
meets_last true r o h = h
meets_last false r o h = cc h

inside : (o : Option ℕ) (n size room : ℕ) → o ≡ Some n → passes o size room ≡ false → or_zero o + size ≤ room
inside None n size room e h = cc e
inside (Some k) n size room e h = at_most room (k + size) h
  where
    at_most : (a b : ℕ) → nat_lt a b ≡ false → b ≤ a
    at_most a b h = grind (arith, nat_tests)

module _ (w : WasmModule) (bytes : ℕ) (segments : List DataSegment) where
  entries_kept : (es : List ElementSegment) (room n : ℕ) (entries : List (Option ℕ)) → length entries ≡ room
      → ((i : ℕ) (e : ElementSegment) → slice_get es i ≡ Some e → element_rule w e ≡ None)
      → offset_from_import n es segments ≡ None → segment_outside room bytes n es segments ≡ None → length (with_elements es entries) ≡ room
  entries_kept [] room n entries e fine constant inside_all = e
  entries_kept (s ∷ es) room n entries e fine constant inside_all =
      let g = where_none (is_global_offset s.offset) n (offset_from_import (n + 1) es segments) constant in
      let o = where_none (passes (constant_offset s.offset) (length s.functions) room) n (segment_outside room bytes (n + 1) es segments) inside_all in
      let rule = fine 0 s refl in
      let init = meets_last _ _ (init_rule w I32 s.offset) (meets_last (are_functions w s.functions) _ _ rule) in
      let c = is_constant w s.offset init g.0 in
      let fits = inside (constant_offset s.offset) c.0 (length s.functions) room c.1 o.0 in
      let many = length-map s.functions Some in
      let same = kept (or_zero (constant_offset s.offset)) (map Some s.functions) entries (holds (or_zero (constant_offset s.offset)) (length s.functions) (length (map Some s.functions)) room (length entries) fits many e) in
      entries_kept es room (n + 1) (replaced (or_zero (constant_offset s.offset)) (map Some s.functions) entries) (same ∙ e) (λ i e h. fine (suc i) e h) g.1 o.1
    where
      holds : (at size mapped room long : ℕ) → at + size ≤ room → mapped ≡ size → long ≡ room → at + mapped ≤ long
      holds at size mapped room long p q r = omega (arith, p, q, r)

-- ---- cells

past_front : {A : Type 0} → (xs ys : List A) (i : ℕ) → length xs ≤ i → slice_get (xs ++ ys) i ≡ slice_get ys (i - length xs)
past_front [] ys i h = let e : i ≡ i - 0 = omega arith in ap (slice_get ys) e
past_front (x ∷ xs) ys zero h = absurd (omega (arith, h))
past_front (x ∷ xs) ys (suc i) h =
    let e : i - length xs ≡ suc i - suc (length xs) = omega arith in
    past_front xs ys i (omega (arith, h)) ∙ ap (slice_get ys) e

all_alike : {A : Type 0} → (n i : ℕ) (x : A) → i < n → slice_get (replicate n x) i ≡ Some x
all_alike zero i x h = absurd (omega (arith, h))
all_alike (suc n) zero x h = refl
all_alike (suc n) (suc i) x h = all_alike n i x (omega (arith, h))

pub fine : (w : WasmModule) → IsValidModule w → (i : ℕ) (e : ElementSegment) → slice_get w.elements i ≡ Some e → element_rule w e ≡ None
fine w valid i e h = ap (λ o. at o (element_rule w)) (sym h) ∙ valid sections.Elements i (within w.elements i e h)
  where
    within : {A : Type 0} → (xs : List A) (i : ℕ) (x : A) → slice_get xs i ≡ Some x → i < length xs
    within [] i x h = cc h
    within (y ∷ xs) zero x h = omega arith
    within (y ∷ xs) (suc i) x h = let m = within xs i x h in omega (arith, m)

pub cells_are_padded : CellsArePadded
cells_are_padded w t profile =
    let rows = within_rows w profile.within in
    let room = table_length w in
    let entries = entries_kept w (memory_bytes w) w.segments w.elements room 0 (replicate room None) (length-replicate room None) (fine w profile.valid) rows.no_import rows.all_inside in
    let front = length-map (entries_of w) (cell w t) ∙ entries in
    let enough = is_padded room (few_entries w rows.small) in
    record {
      entries = entries;
      long = length-append (map (cell w t) (entries_of w)) (replicate (padded room - length (entries_of w)) empty)
          ∙ total (length (map (cell w t) (entries_of w))) (length (replicate (padded room - length (entries_of w)) empty)) (length (entries_of w)) room (padded room) front (length-replicate (padded room - length (entries_of w)) empty) entries enough;
      past = λ i low high.
          past_front (map (cell w t) (entries_of w)) (replicate (padded room - length (entries_of w)) empty) i (reaches (length (map (cell w t) (entries_of w))) room i front low)
          ∙ all_alike (padded room - length (entries_of w)) (i - length (map (cell w t) (entries_of w))) empty (left (length (map (cell w t) (entries_of w))) (length (entries_of w)) room (padded room) i front entries low high);
    }
  where
    total : (cells more entries room padded : ℕ) → cells ≡ room → more ≡ padded - entries → entries ≡ room → room ≤ padded → cells + more ≡ padded
    total cells more entries room padded p q r h = omega (arith, p, q, r, h)

    reaches : (cells room i : ℕ) → cells ≡ room → room ≤ i → cells ≤ i
    reaches cells room i p h = omega (arith, p, h)

    left : (cells entries room padded i : ℕ) → cells ≡ room → entries ≡ room → room ≤ i → i < padded → i - cells < padded - entries
    left cells entries room padded i p q h k = omega (arith, p, q, h, k)
