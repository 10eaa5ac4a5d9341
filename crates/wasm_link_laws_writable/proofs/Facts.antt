-- What validity says of the sections of each of two modules that can be linked.
use Rattle.std.proofs.Common.{◌≡◌, ℕ, ◌+◌, ◌<◌, ◌≤◌, Bool, true, false, List, [], ◌∷◌, length, take, Option, Some, None, refl, sym, ap, ◌∙◌, arith}
use Rattle.std.specs.List.{AllByRecursion}
use Rattle.std.specs.Prelude.{slice_get, nat_lt, cond}
use Rattle.std.proofs.lemmas.Bool.Decides.{nat_tests}
use Rattle.std.proofs.lemmas.Option.{slice_get_within}
use Rattle.wasm_lang.specs.declared.types.ImportKind.{ImportKind}
use Rattle.wasm_lang.specs.declared.types.ImportKind.TheVariants as imports
use Rattle.wasm_lang.specs.declared.types.Limits.{Limits}
use Rattle.wasm_lang.specs.declared.types.ValType.TheVariants.{I32}
use Rattle.wasm_lang.specs.Modules.{Imported, GlobalEntry, ElementSegment, DataSegment, WasmModule}
use Rattle.wasm_lang_valid.specs.declared.rule.Rule.TheVariants.{NoType, NoFunction, NoTable, NoMemory}
use Rattle.wasm_lang_valid.specs.declared.section.Section.TheVariants as sections
use Rattle.wasm_lang_valid.specs.ModuleRules.{at, import_rule, is_type, init_rule, meets, element_rule, segment_rule, are_functions, is_table, is_table_number, is_memory_number}
use Rattle.wasm_lang_valid.specs.Profile.{is_global_offset, constant_offset, passes, where_so, global_segment, offset_from_import, segment_outside, table_length, imported_entries, own_entries, table_min, or_zero}
use Rattle.wasm_lang_valid.specs.Runnable.{first_import, or_else}
use Rattle.wasm_lang_valid.specs.Validity.{IsValidModule}
use Rattle.wasm_lang_exec.specs.Session.{table_length as own_length}
use Rattle.wasm_link_lang.specs.Reductions.{entries}
use Rattle.wasm_link_laws_modules.proofs.Facts.{InItself}
use Rattle.wasm_link_laws_writable.proofs.Each.{each}
use Rattle.wasm_link_laws_writable.proofs.Values.{kept}

below : (m : WasmModule) (t : ℕ) → meets (is_type m t) NoType None ≡ None → t < length m.types
below m t e = let k = (kept (is_type m t) NoType None e).0 in grind (arith, nat_tests)

-- ---- imports

unfoldable pub TypeIsThere : WasmModule → ImportKind → Type 0
TypeIsThere m (imports.Func t) = t < length m.types
TypeIsThere m kind = Unit {0}

kind_typed : (m : WasmModule) (before : List Imported) (kind : ImportKind) → import_rule m before kind ≡ None → TypeIsThere m kind
unfolding TypeIsThere
kind_typed m before (imports.Func t) e = below m t e
kind_typed m before (imports.Table l) e = tt
kind_typed m before (imports.Memory l) e = tt
kind_typed m before (imports.Global g) e = tt

pub imports_typed : (m : WasmModule) → IsValidModule m → AllByRecursion (λ (i : Imported). TypeIsThere m i.kind) m.imports
imports_typed m valid = each (λ (i : Imported). TypeIsThere m i.kind) m.imports (λ k x e. kind_typed m (take k m.imports) x.kind (sym (ap (λ o. at o (λ x. import_rule m (take k m.imports) x.kind)) e) ∙ valid sections.Imports k (slice_get_within m.imports k x e)))

-- ---- the functions' types

pub functions_typed : (m : WasmModule) → IsValidModule m → AllByRecursion (λ (t : ℕ). t < length m.types) m.functions
functions_typed m valid = each (λ (t : ℕ). t < length m.types) m.functions (λ k t e. below m t (sym (ap (λ o. at o (λ t. meets (is_type m t) NoType None)) e) ∙ valid sections.Functions k (slice_get_within m.functions k t e)))

-- ---- globals

pub globals_fine : (m : WasmModule) → IsValidModule m → AllByRecursion (λ (g : GlobalEntry). init_rule m g.kind.kind g.init ≡ None) m.globals
globals_fine m valid = each (λ (g : GlobalEntry). init_rule m g.kind.kind g.init ≡ None) m.globals (λ k g e. sym (ap (λ o. at o (λ (g : GlobalEntry). init_rule m g.kind.kind g.init)) e) ∙ valid sections.Globals k (slice_get_within m.globals k g e))

-- ---- segments

none_so : (b : Bool) (n : ℕ) (more : Option ℕ) → where_so b n more ≡ None → (b ≡ false) × (more ≡ None)
none_so true n more e = absurd (cc)
none_so false n more e = (refl, e)

data_constant : (n : ℕ) (ds : List DataSegment) → global_segment n ds ≡ None → AllByRecursion (λ (d : DataSegment). is_global_offset d.offset ≡ false) ds
data_constant n [] e = tt
data_constant n (d ∷ ds) e = let k = none_so (is_global_offset d.offset) n (global_segment (n + 1) ds) e in (k.0, data_constant (n + 1) ds k.1)

pub all_constant : (n : ℕ) (es : List ElementSegment) (ds : List DataSegment) → offset_from_import n es ds ≡ None → AllByRecursion (λ (e : ElementSegment). is_global_offset e.offset ≡ false) es × AllByRecursion (λ (d : DataSegment). is_global_offset d.offset ≡ false) ds
all_constant n [] ds e = (tt, data_constant n ds e)
all_constant n (x ∷ es) ds e =
    let k = none_so (is_global_offset x.offset) n (offset_from_import (n + 1) es ds) e in
    let r = all_constant (n + 1) es ds k.1 in
    ((k.0, r.0), r.1)

pub all_inside : (entries bytes n : ℕ) (es : List ElementSegment) (ds : List DataSegment) → segment_outside entries bytes n es ds ≡ None → AllByRecursion (λ (e : ElementSegment). passes (constant_offset e.offset) (length e.functions) entries ≡ false) es
all_inside entries bytes n [] ds e = tt
all_inside entries bytes n (x ∷ es) ds e =
    let k = none_so (passes (constant_offset x.offset) (length x.functions) entries) n (segment_outside entries bytes (n + 1) es ds) e in
    (k.0, all_inside entries bytes (n + 1) es ds k.1)

element_value : (m : WasmModule) (x : ElementSegment) → element_rule m x ≡ None → init_rule m I32 x.offset ≡ None
element_value m x e = (kept (is_table_number m x.table) NoTable (init_rule m I32 x.offset) ((kept (are_functions m x.functions) NoFunction _ e).1)).1

segment_value : (m : WasmModule) (d : DataSegment) → segment_rule m d ≡ None → init_rule m I32 d.offset ≡ None
segment_value m d e = (kept (is_memory_number m d.memory) NoMemory (init_rule m I32 d.offset) e).1

pub elements_fine : (m : WasmModule) → IsValidModule m → AllByRecursion (λ (x : ElementSegment). init_rule m I32 x.offset ≡ None) m.elements
elements_fine m valid = each (λ (x : ElementSegment). init_rule m I32 x.offset ≡ None) m.elements (λ k x e. element_value m x (sym (ap (λ o. at o (element_rule m)) e) ∙ valid sections.Elements k (slice_get_within m.elements k x e)))

pub segments_fine : (m : WasmModule) → IsValidModule m → AllByRecursion (λ (d : DataSegment). init_rule m I32 d.offset ≡ None) m.segments
segments_fine m valid = each (λ (d : DataSegment). init_rule m I32 d.offset ≡ None) m.segments (λ k d e. segment_value m d (sym (ap (λ o. at o (segment_rule m)) e) ∙ valid sections.Data k (slice_get_within m.segments k d e)))

-- ---- the table is the module's own

no_table : (n : ℕ) (is : List Imported) → first_import is_table n is ≡ None → imported_entries is ≡ None
no_table n [] e = refl
no_table n (i ∷ is) e = by (no_table (n + 1) is) i.kind e
  where
    by : (first_import is_table (n + 1) is ≡ None → imported_entries is ≡ None) → (kind : ImportKind) → cond (is_table kind) (Some n) (first_import is_table (n + 1) is) ≡ None → or_else (table_min kind) (imported_entries is) ≡ None
    by rest (imports.Func t) e = rest e
    by rest (imports.Table l) e = absurd (cc)
    by rest (imports.Memory l) e = rest e
    by rest (imports.Global g) e = rest e

own_are : (ls : List Limits) → or_zero (own_entries ls) ≡ own_length ls
own_are [] = refl
own_are (l ∷ ls) = refl

pub own_entries_are : (m : WasmModule) → InItself m → table_length m ≡ entries m
own_entries_are m p = ap (λ o. or_zero (or_else o (own_entries m.tables))) (no_table 0 m.imports p.no_table) ∙ own_are m.tables
