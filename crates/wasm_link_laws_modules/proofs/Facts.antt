-- What validity and the rows say of each of the two modules.
use Rattle.std.proofs.Common.{◌≡◌, inl, inr, ℕ, zero, suc, ◌+◌, ◌<◌, ◌≤◌, Bool, true, false, cond, List, [], ◌∷◌, ◌++◌, map, take, Option, Some, None, refl, sym, ap, ◌∙◌, subst, arith}
use Rattle.std.specs.Prelude.{slice_get, ◌||◌, option_map, nat_lt, nat_le}
use Rattle.std.proofs.lemmas.Bool.Decides.{nat_tests}
use Rattle.std.proofs.lemmas.Option.{slice_get_within}
use Rattle.wasm_lang.specs.declared.types.Limits.{Limits}
use Rattle.wasm_lang.specs.Modules.{Imported, Exported, GlobalEntry, ElementSegment, DataSegment, FunctionBody, WasmModule}
use Rattle.wasm_lang_valid.specs.declared.profile.Beyond.{Beyond}
use Rattle.wasm_lang_valid.specs.declared.profile.Beyond.TheVariants.{ImportedTable, MutableImport, OffsetFromImport, SegmentOutside, MemoryLarge}
use Rattle.wasm_lang_valid.specs.declared.profile.Outside.{Outside}
use Rattle.wasm_lang_valid.specs.declared.rule.Rule.{Rule}
use Rattle.wasm_lang_valid.specs.declared.rule.Rule.TheVariants.{NoType}
use Rattle.wasm_lang_valid.specs.declared.section.Section.TheVariants as sections
use Rattle.wasm_lang_valid.specs.ModuleRules.{at, meets, is_table, imports_table, type_rule, is_type, import_rule, init_rule, export_rule, start_rule, element_rule, segment_rule}
use Rattle.wasm_lang_valid.specs.Profile.{where_so, is_global_offset, global_segment, offset_from_import, segment_outside, table_length, memory_bytes}
use Rattle.wasm_lang_valid.specs.Rows.{beyond_number}
use Rattle.wasm_lang_valid.specs.Runnable.{is_mutable, first_import, above, row_or, pages, most_pages_to_run, or_else, own_pages}
use Rattle.wasm_lang_valid.specs.Validity.{start_count, IsValidModule, IsValidBody}
use Rattle.wasm_link_lang.specs.Refusal.{outside_of, profile_row, imported_stray, stray_memory}
use Rattle.wasm_link_laws_modules.proofs.Places.{Splits, splits}

-- ---- what holds of each element

abbrev pub Every : {A : Type 0} → (A → Type 0) → List A → Type 0
Every {A = A} P xs = (i : ℕ) (x : A) → slice_get xs i ≡ Some x → P x

pub every_both : {A : Type 0} → (P : A → Type 0) (xs ys : List A) → Every P xs → Every P ys → Every P (xs ++ ys)
every_both P xs ys f g i x h = by (splits xs ys i x h)
  where
    by : Splits xs ys i x → P x
    by (inl p) = f i x p
    by (inr p) = g p.0 x p.2

pub every_mapped : {A B : Type 0} → (P : B → Type 0) (f : A → B) (xs : List A) → Every (λ x. P (f x)) xs → Every P (map f xs)
every_mapped P f [] e i x h = absurd (cc h)
every_mapped P f (y ∷ xs) e zero x h = let same : f y ≡ x = cc h in subst P same (e 0 y refl)
every_mapped P f (y ∷ xs) e (suc i) x h = every_mapped P f xs (λ j z h. e (suc j) z h) i x h

pub every_less : {A : Type 0} → (P : A → Type 0) (x : A) (xs : List A) → Every P (x ∷ xs) → Every P xs
every_less P x xs e i y h = e (suc i) y h

-- a rule that each element keeps, at each place
pub at_each : {A : Type 0} → (rule : A → Option Rule) (xs : List A) → Every (λ x. rule x ≡ None) xs → (i : ℕ) → at (slice_get xs i) rule ≡ None
at_each {A = A} rule xs e i = by (slice_get xs i) refl
  where
    by : (o : Option A) → slice_get xs i ≡ o → at o rule ≡ None
    by None h = refl
    by (Some x) h = e i x h

at_some : {A : Type 0} → (o : Option A) (rule : A → Option Rule) (x : A) → o ≡ Some x → at o rule ≡ None → rule x ≡ None
at_some None rule x e r = absurd (cc e)
at_some (Some y) rule x e r = let same : y ≡ x = cc e in ap rule (sym same) ∙ r

-- ---- tests of numbers

pub lt_test : (a b : ℕ) → a < b → nat_lt a b ≡ true
lt_test a b h = grind (arith, nat_tests)

pub lt_true : (a b : ℕ) → nat_lt a b ≡ true → a < b
lt_true a b h = grind (arith, nat_tests)

pub lt_false : (a b : ℕ) → nat_lt a b ≡ false → b ≤ a
lt_false a b h = grind (arith, nat_tests)

pub not_lt_test : (a b : ℕ) → b ≤ a → nat_lt a b ≡ false
not_lt_test a b h = grind (arith, nat_tests)

pub le_test : (a b : ℕ) → a ≤ b → nat_le a b ≡ true
le_test a b h = grind (arith, nat_tests)

pub le_true : (a b : ℕ) → nat_le a b ≡ true → a ≤ b
le_true a b h = grind (arith, nat_tests)

-- ---- rules that are kept

pub meets_test : (b : Bool) (rule : Rule) (others : Option Rule) → meets b rule others ≡ None → b ≡ true
meets_test true rule others e = refl
meets_test false rule others e = cc e

pub meets_rest : (b : Bool) (rule : Rule) (others : Option Rule) → meets b rule others ≡ None → others ≡ None
meets_rest true rule others e = e
meets_rest false rule others e = cc e

pub meets_both : (b : Bool) (rule : Rule) (others : Option Rule) → b ≡ true → others ≡ None → meets b rule others ≡ None
meets_both true rule others e f = f
meets_both false rule others e f = absurd (cc e)

-- ---- a valid module

module _ (m : WasmModule) (valid : IsValidModule m) where
  pub types_kept : Every (λ t. type_rule t ≡ None) m.types
  types_kept i x h = at_some (slice_get m.types i) type_rule x h (valid sections.Types i (slice_get_within m.types i x h))

  pub imports_kept : (i : ℕ) (x : Imported) → slice_get m.imports i ≡ Some x → import_rule m (take i m.imports) x.kind ≡ None
  imports_kept i x h = at_some (slice_get m.imports i) (λ x. import_rule m (take i m.imports) x.kind) x h (valid sections.Imports i (slice_get_within m.imports i x h))

  pub functions_kept : Every (λ t. is_type m t ≡ true) m.functions
  functions_kept i x h =
      let e = at_some (slice_get m.functions i) (λ t. meets (is_type m t) NoType None) x h (valid sections.Functions i (slice_get_within m.functions i x h)) in
      meets_test (is_type m x) NoType None e

  pub globals_kept : Every (λ (g : GlobalEntry). init_rule m g.kind.kind g.init ≡ None) m.globals
  globals_kept i x h = at_some (slice_get m.globals i) (λ g. init_rule m g.kind.kind g.init) x h (valid sections.Globals i (slice_get_within m.globals i x h))

  pub exports_kept : (i : ℕ) (x : Exported) → slice_get m.exports i ≡ Some x → export_rule m (take i m.exports) x ≡ None
  exports_kept i x h = at_some (slice_get m.exports i) (export_rule m (take i m.exports)) x h (valid sections.Exports i (slice_get_within m.exports i x h))

  pub start_kept : (f : ℕ) → m.start ≡ Some f → start_rule m f ≡ None
  start_kept f h = at_some m.start (start_rule m) f h (by m.start h (valid sections.Start 0))
    where
      by : (o : Option ℕ) → o ≡ Some f → (0 < start_count o → at m.start (start_rule m) ≡ None) → at m.start (start_rule m) ≡ None
      by None e g = absurd (cc e)
      by (Some x) e g = g (omega arith)

  pub elements_kept : Every (λ e. element_rule m e ≡ None) m.elements
  elements_kept i x h = at_some (slice_get m.elements i) (element_rule m) x h (valid sections.Elements i (slice_get_within m.elements i x h))

  pub segments_kept : Every (λ d. segment_rule m d ≡ None) m.segments
  segments_kept i x h = at_some (slice_get m.segments i) (segment_rule m) x h (valid sections.Data i (slice_get_within m.segments i x h))

  pub bodies_kept : (i : ℕ) (b : FunctionBody) → slice_get m.bodies i ≡ Some b → IsValidBody m i (Some b)
  bodies_kept i b h = subst (IsValidBody m i) h (valid sections.Code i (slice_get_within m.bodies i b h))

-- ---- the rows

row_is : (row : Beyond) (o : Option ℕ) (other : Option Outside) → row_or row o other ≡ None → (o ≡ None) × (other ≡ None)
row_is row None other e = (refl, e)
row_is row (Some v) other e = absurd (cc e)

pub record InItself (m : WasmModule) : Type 0 where
  pub no_table : first_import is_table 0 m.imports ≡ None
  pub no_mutable : first_import is_mutable 0 m.imports ≡ None
  pub constant : offset_from_import 0 m.elements m.segments ≡ None
  pub within : segment_outside (table_length m) (memory_bytes m) 0 m.elements m.segments ≡ None
  pub small : above most_pages_to_run (pages m) ≡ None

pub in_itself : (m : WasmModule) → profile_row m ≡ None → InItself m
in_itself m e =
    let small = row_or MemoryLarge (above most_pages_to_run (pages m)) None in
    let within = row_or SegmentOutside (segment_outside (table_length m) (memory_bytes m) 0 m.elements m.segments) small in
    let constant = row_or OffsetFromImport (offset_from_import 0 m.elements m.segments) within in
    let mutable = row_or MutableImport (first_import is_mutable 0 m.imports) constant in
    let e0 = none (outside_of m) e in
    let e1 = row_is ImportedTable (first_import is_table 0 m.imports) mutable e0 in
    let e2 = row_is MutableImport (first_import is_mutable 0 m.imports) constant e1.1 in
    let e3 = row_is OffsetFromImport (offset_from_import 0 m.elements m.segments) within e2.1 in
    let e4 = row_is SegmentOutside (segment_outside (table_length m) (memory_bytes m) 0 m.elements m.segments) small e3.1 in
    let e5 = row_is MemoryLarge (above most_pages_to_run (pages m)) None e4.1 in
    record { no_table = e1.0; no_mutable = e2.0; constant = e3.0; within = e4.0; small = e5.0 }
  where
    none : (o : Option Outside) → option_map (λ (o : Outside). beyond_number o.row) o ≡ None → o ≡ None
    none None e = refl
    none (Some x) e = absurd (cc e)

pub no_imported_table : (n : ℕ) (is : List Imported) → first_import is_table n is ≡ None → imports_table is ≡ false
no_imported_table n [] e = refl
no_imported_table n (i ∷ is) e = by (is_table i.kind) e (no_imported_table (n + 1) is)
  where
    by : (b : Bool) → cond b (Some n) (first_import is_table (n + 1) is) ≡ None → (first_import is_table (n + 1) is ≡ None → imports_table is ≡ false) → (b || imports_table is) ≡ false
    by true e further = absurd (cc e)
    by false e further = further e

is_not_so : (b : Bool) (n : ℕ) (o : Option ℕ) → where_so b n o ≡ None → (b ≡ false) × (o ≡ None)
is_not_so true n o e = absurd (cc e)
is_not_so false n o e = (refl, e)

constant_segments : (n : ℕ) (ds : List DataSegment) → global_segment n ds ≡ None → Every (λ (d : DataSegment). is_global_offset d.offset ≡ false) ds
constant_segments n [] e i x h = absurd (cc h)
constant_segments n (d ∷ ds) e zero x h =
    let s = is_not_so (is_global_offset d.offset) n (global_segment (n + 1) ds) e in
    let same : d ≡ x = cc h in ap (λ (d : DataSegment). is_global_offset d.offset) (sym same) ∙ s.0
constant_segments n (d ∷ ds) e (suc i) x h = let s = is_not_so (is_global_offset d.offset) n (global_segment (n + 1) ds) e in constant_segments (n + 1) ds s.1 i x h

pub record ConstantOffsets (es : List ElementSegment) (ds : List DataSegment) : Type 0 where
  pub elements : Every (λ (e : ElementSegment). is_global_offset e.offset ≡ false) es
  pub segments : Every (λ (d : DataSegment). is_global_offset d.offset ≡ false) ds

pub constant_offsets : (n : ℕ) (es : List ElementSegment) (ds : List DataSegment) → offset_from_import n es ds ≡ None → ConstantOffsets es ds
constant_offsets n [] ds e = record { elements = λ i x h. absurd (cc h); segments = constant_segments n ds e }
constant_offsets n (x ∷ es) ds e =
    let s = is_not_so (is_global_offset x.offset) n (offset_from_import (n + 1) es ds) e in
    let further = constant_offsets (n + 1) es ds s.1 in
    record { elements = first s.0 further.elements; segments = further.segments }
  where
    first : is_global_offset x.offset ≡ false → Every (λ (e : ElementSegment). is_global_offset e.offset ≡ false) es → Every (λ (e : ElementSegment). is_global_offset e.offset ≡ false) (x ∷ es)
    first f g zero y h = let same : x ≡ y = cc h in ap (λ (e : ElementSegment). is_global_offset e.offset) (sym same) ∙ f
    first f g (suc i) y h = g i y h

-- ---- memories

either_none : (o p : Option ℕ) → or_else o p ≡ None → (o ≡ None) × (p ≡ None)
either_none None p e = (refl, e)
either_none (Some n) p e = absurd (cc e)

pub no_own_memory : (m : WasmModule) → stray_memory m ≡ None → m.memories ≡ []
no_own_memory m e = by m.memories (either_none (imported_stray m.imports) (own_pages m.memories) e).1
  where
    by : (ls : List Limits) → own_pages ls ≡ None → ls ≡ []
    by [] e = refl
    by (l ∷ ls) e = absurd (cc e)
