-- The module of marks without some that say nothing.
use Rattle.std.proofs.Common.{◌≡◌, ℕ, Bool, false, ◌&&◌, not, List, [], ◌∷◌, ◌++◌, map, get_or, slice_get, Option, Some, None, refl, ap, ◌∙◌}
use Rattle.std.specs.Prelude.{option_map, option_and_then, unwrap_or}
use Rattle.wasm_lang.specs.declared.types.MemOp.{MemOp}
use Rattle.wasm_lang.specs.declared.types.Limits.{Limits}
use Rattle.wasm_lang.specs.Instructions.{Plain, local_get, local_set, local_tee, global_get, global_set, load, store, const32, const64, Instruction, block, loop, if_block, end_mark, br, br_if, br_table, call, call_indirect, plain}
use Rattle.wasm_lang.specs.Limits.{params_of}
use Rattle.wasm_lang.specs.Modules.{FunctionType, Imported, GlobalEntry, Exported, ElementSegment, DataSegment, FunctionBody, WasmModule}
use Rattle.wat_lang.specs.declared.parts.Space.{Space}
use Rattle.wat_lang.specs.declared.parts.Space.TheVariants as spaces
use Rattle.wat_lang.specs.declared.parts.FieldKind.{FieldKind}
use Rattle.wat_lang.specs.declared.parts.Part.TheVariants.{Param, Local}
use Rattle.wat_lang.specs.Numbers.{number_of}
use Rattle.wat_lang.specs.Grammar.{Mark, nothing, an_exported, an_instruction, Marked}
use Rattle.wat_lang.specs.Names.{text_of, type_of, uses_in, types_part, Field, Entry, described, enters, is_import, Names, index_of, names_of, is_type_use, type_use, types_of, local_names, labels_after, names_at}
use Rattle.wat_lang.specs.Modules as m
use Rattle.wat_lang.specs.Modules.{module_of}
use Rattle.wat_laws_kept.specs.Kept.{kept}
use Rattle.wat_laws_kept.proofs.Dropped.{Drops, none, keeps, drops, same_all, same_first, same_described, same_written, same_immediates}
use Rattle.wat_laws_kept.proofs.Fields.{Thins, thins, AllThin, no_fields, more, thin_fields, same_enters, same_kind, same_filter, same_names, same_types}

-- ---- parts of fields

same_used : (names : Space → Names) (s : Space) {ks ms : List Marked} → Drops ks ms → m.used names s ks ≡ m.used names s ms
same_used names s d = ap (λ (xs : List Marked). map (λ x. unwrap_or (index_of (names s) (text_of x)) 0) xs) (same_all (uses_in s) refl d)

same_first_used : (names : Space → Names) (s : Space) {ks ms : List Marked} → Drops ks ms → m.first_used names s ks ≡ m.first_used names s ms
same_first_used names s d = ap (λ (xs : List ℕ). get_or xs 0 0) (same_used names s d)

same_number : (test : Mark → Bool) → test nothing ≡ false → {ks ms : List Marked} → Drops ks ms → m.number_in test ks ≡ m.number_in test ms
same_number test e d = ap (λ (o : Option Marked). option_and_then (λ x. number_of (text_of x)) o) (same_first test e d)

same_align : (op : MemOp) {ks ms : List Marked} → Drops ks ms → m.align_in op ks ≡ m.align_in op ms
same_align op d = ap (λ (o : Option Marked). unwrap_or (m.exponent_of (elim o [ Some x ↦ m.natural_or_0 (m.alignment_of x) | None ↦ op.size ])) 0) (same_first m.is_alignment refl d)

same_offset : {ks ms : List Marked} → Drops ks ms → m.offset_in ks ≡ m.offset_in ms
same_offset d = ap (λ (o : Option Marked). let n : ℕ = elim o [ Some x ↦ m.natural_or_0 (m.offset_of x) | None ↦ 0 ] in n) (same_first m.is_offset refl d)

same_word : (bits : ℕ) {ks ms : List Marked} → Drops ks ms → m.word_in bits ks ≡ m.word_in bits ms
same_word bits {ks = ks} {ms = ms} d = rw (same_number m.is_word refl d) refl

same_block : {ks ms : List Marked} → Drops ks ms → m.block_type ks ≡ m.block_type ms
same_block d = ap (λ (o : Option Marked). option_map type_of o) (same_first m.is_block_result refl d)

pub same_type_use : (types : Names) {ks ms : List Marked} → Drops ks ms → type_use types ks ≡ type_use types ms
same_type_use types d = ap (λ (o : Option Marked). option_and_then (λ x. index_of types (text_of x)) o) (same_first is_type_use refl d)

pub same_function_type : (names : Space → Names) {ks ms : List Marked} → Drops ks ms → m.function_type_in names ks ≡ m.function_type_in names ms
same_function_type names d = ap (λ (o : Option ℕ). unwrap_or o 0) (same_type_use (names spaces.Type) d)

same_limits : {ks ms : List Marked} → Drops ks ms → m.limits_in ks ≡ m.limits_in ms
same_limits {ks = ks} {ms = ms} d = rw (same_number m.is_minimum refl d, same_number m.is_maximum refl d) refl

same_global_type : {ks ms : List Marked} → Drops ks ms → m.global_type_in ks ≡ m.global_type_in ms
same_global_type {ks = ks} {ms = ms} d = rw (same_first m.is_global_type refl d, same_first m.is_mutable refl d) refl

same_string : (test : Mark → Bool) → test nothing ≡ false → {ks ms : List Marked} → Drops ks ms → m.string_in test ks ≡ m.string_in test ms
same_string test e d = ap (λ (o : Option Marked). let x : List ℕ = elim o [ Some k ↦ text_of k | None ↦ [] ] in x) (same_first test e d)

import_kind_at : (names : Space → Names) {ks ms : List Marked} → Drops ks ms → (o : Option Entry) → described ks ≡ o → described ms ≡ o → m.import_kind_in names ks ≡ m.import_kind_in names ms
import_kind_at names d None e f = rw (m.import_kind_in, e, f) refl
import_kind_at names {ks = ks} {ms = ms} d (Some x) e f = by x.space refl
  where
    by : (s : Space) → x.space ≡ s → m.import_kind_in names ks ≡ m.import_kind_in names ms
    by spaces.Table q = rw (m.import_kind_in, e, f, q, same_limits d) refl
    by spaces.Memory q = rw (m.import_kind_in, e, f, q, same_limits d) refl
    by spaces.Global q = rw (m.import_kind_in, e, f, q, same_global_type d) refl
    by s q = rw (m.import_kind_in, e, f, q, same_function_type names d) refl

same_import_kind : (names : Space → Names) {ks ms : List Marked} → Drops ks ms → m.import_kind_in names ks ≡ m.import_kind_in names ms
same_import_kind names {ms = ms} d = import_kind_at names d (described ms) (same_described d) refl

same_export_kind : (names : Space → Names) {ks ms : List Marked} → Drops ks ms → m.export_kind_in names ks ≡ m.export_kind_in names ms
same_export_kind names none = refl
same_export_kind names (keeps {ks = ks} {ms = ms} x d) = by (same_export_kind names d) x.mark
  where
    by : m.export_kind_in names ks ≡ m.export_kind_in names ms → (k : Mark) → m.exported_by names ks (m.export_kind_in names ks) k ≡ m.exported_by names ms (m.export_kind_in names ms) k
    by below (an_exported spaces.Func) = rw (same_first_used names spaces.Func d) refl
    by below (an_exported spaces.Table) = rw (same_first_used names spaces.Table d) refl
    by below (an_exported spaces.Memory) = rw (same_first_used names spaces.Memory d) refl
    by below (an_exported spaces.Global) = rw (same_first_used names spaces.Global d) refl
    by below k = below
same_export_kind names (drops t d) = same_export_kind names d

-- ---- code

same_plain : (names : Space → Names) (p : Plain) {ks ms : List Marked} → Drops ks ms → m.plain_with names ks p ≡ m.plain_with names ms p
same_plain names (local_get x) d = ap local_get (same_first_used names spaces.Local d)
same_plain names (local_set x) d = ap local_set (same_first_used names spaces.Local d)
same_plain names (local_tee x) d = ap local_tee (same_first_used names spaces.Local d)
same_plain names (global_get x) d = ap global_get (same_first_used names spaces.Global d)
same_plain names (global_set x) d = ap global_set (same_first_used names spaces.Global d)
same_plain names (load op align offset) {ks = ks} {ms = ms} d = rw (same_align op d, same_offset d) refl
same_plain names (store op align offset) {ks = ks} {ms = ms} d = rw (same_align op d, same_offset d) refl
same_plain names (const32 word) d = ap const32 (same_word 32 d)
same_plain names (const64 word) d = ap const64 (same_word 64 d)
same_plain names p d = refl

same_with : (names : Space → Names) (i : Instruction) {ks ms : List Marked} → Drops ks ms → m.with_immediates names ks i ≡ m.with_immediates names ms i
same_with names (block r) d = ap block (same_block d)
same_with names (loop r) d = ap loop (same_block d)
same_with names (if_block r) d = ap if_block (same_block d)
same_with names (br l) d = ap br (same_first_used names spaces.Label d)
same_with names (br_if l) d = ap br_if (same_first_used names spaces.Label d)
same_with names (br_table ls l) d = ap m.table_of (same_used names spaces.Label d)
same_with names (call f) d = ap call (same_first_used names spaces.Func d)
same_with names (call_indirect t) d = ap call_indirect (same_first_used names spaces.Type d)
same_with names (plain p) d = ap plain (same_plain names p d)
same_with names i d = refl

same_at : (names : Space → Names) (k : Mark) {ks ms : List Marked} → Drops ks ms → m.instruction_at names ks k ≡ m.instruction_at names ms k
same_at names (an_instruction form) d = ap (λ i. i ∷ []) (same_with names form (same_immediates d))
same_at names k d = refl

same_instructions : (at : Names → Space → Names) (labels : Names) {ks ms : List Marked} → Drops ks ms → m.instructions_in at labels ks ≡ m.instructions_in at labels ms
same_instructions at labels none = refl
same_instructions at labels (keeps {ks = ks} {ms = ms} x d) =
    ap (λ (is : List Instruction). is ++ m.instructions_in at (labels_after labels x) ks) (same_at (at labels) x.mark d)
    ∙ ap (λ (is : List Instruction). m.instruction_at (at labels) ms x.mark ++ is) (same_instructions at (labels_after labels x) d)
same_instructions at labels (drops t d) = same_instructions at labels d

same_code : (names : Space → Names) (locals : Names) {ks ms : List Marked} → Drops ks ms → m.code_in names locals ks ≡ m.code_in names locals ms
same_code names locals d = ap (λ (is : List Instruction). is ++ end_mark ∷ []) (same_instructions (names_at names locals) [] d)

pub same_local_names : (params : ℕ) {ks ms : List Marked} → Drops ks ms → local_names params ks ≡ local_names params ms
same_local_names params {ks = ks} {ms = ms} d = rw (same_written Param None d, same_written Local None d) refl

-- ---- the module

same_import : (names : Space → Names) (ks ms : List Marked) → Drops ks ms → m.import_of names ks ≡ m.import_of names ms
same_import names ks ms d = rw (same_string m.is_module_name refl d, same_string m.is_field_name refl d, same_import_kind names d) refl

same_global : (names : Space → Names) (ks ms : List Marked) → Drops ks ms → m.global_of names ks ≡ m.global_of names ms
same_global names ks ms d = rw (same_global_type d, same_code names [] d) refl

same_export : (names : Space → Names) (ks ms : List Marked) → Drops ks ms → m.export_of names ks ≡ m.export_of names ms
same_export names ks ms d = rw (same_string m.is_export_name refl d, same_export_kind names d) refl

same_element : (names : Space → Names) (ks ms : List Marked) → Drops ks ms → m.element_of names ks ≡ m.element_of names ms
same_element names ks ms d = rw (same_code names [] d, same_used names spaces.Func d) refl

same_segment : (names : Space → Names) (ks ms : List Marked) → Drops ks ms → m.segment_of names ks ≡ m.segment_of names ms
same_segment names ks ms d = rw (same_code names [] d, same_all m.is_bytes refl d) refl

same_body : (names : Space → Names) (types : List FunctionType) (ks ms : List Marked) → Drops ks ms → m.body_of names types ks ≡ m.body_of names types ms
same_body names types ks ms d =
    let kind = same_function_type names d in
    let locals = same_local_names (params_of types (m.function_type_in names ms)) d in
    rw (same_all (types_part Local) refl d, kind, locals, same_code names (local_names (params_of types (m.function_type_in names ms)) ms) d) refl

listed : {X : Type 0} (F : List Marked → X) → ((ks ms : List Marked) → Drops ks ms → F ks ≡ F ms) → {gs fs : List Field} → AllThin gs fs
    → map F (map (λ (f : Field). f.parts) gs) ≡ map F (map (λ (f : Field). f.parts) fs)
listed F e no_fields = refl
listed F e (more {gs = gs} {fs = fs} (thins kind at {ks = ks} {ms = ms} d) ts) =
    ap (λ x. x ∷ map F (map (λ (f : Field). f.parts) gs)) (e ks ms d) ∙ ap (λ xs. F ms ∷ xs) (listed F e ts)

-- what the parts of a kind of fields say
same_list : {X : Type 0} (F : List Marked → X) (test : Field → Bool) → ((ks ms : List Marked) → Drops ks ms → F ks ≡ F ms) → ((g f : Field) → Thins g f → test g ≡ test f)
    → {gs fs : List Field} → AllThin gs fs → map F (m.parts_of test gs) ≡ map F (m.parts_of test fs)
same_list F test e t ts = listed F e (same_filter test t ts)

abbrev own : Space → Field → Bool
own s f = enters s f && not (is_import f.kind)

same_own : (s : Space) (g f : Field) → Thins g f → own s g ≡ own s f
same_own s g f t = rw (same_enters s t, same_kind t) refl

same_kinds : (test : FieldKind → Bool) (g f : Field) → Thins g f → test g.kind ≡ test f.kind
same_kinds test g f t = ap test (same_kind t)

-- a module of its parts
with_parts : List FunctionType → List Imported → List ℕ → List Limits → List Limits → List GlobalEntry → List Exported → Option ℕ → List ElementSegment → List FunctionBody → List DataSegment → WasmModule
with_parts types imports functions tables memories globals exports start elements bodies segments = record {
  types = types;
  imports = imports;
  functions = functions;
  tables = tables;
  memories = memories;
  globals = globals;
  exports = exports;
  start = start;
  elements = elements;
  bodies = bodies;
  segments = segments;
}

of : (Space → Names) → List FunctionType → List Field → WasmModule
of names types hs = with_parts types (map (m.import_of names) (m.parts_of (λ f. is_import f.kind) hs)) (map (m.function_type_in names) (m.parts_of (own spaces.Func) hs))
    (map m.limits_in (m.parts_of (own spaces.Table) hs)) (map m.limits_in (m.parts_of (own spaces.Memory) hs)) (map (m.global_of names) (m.parts_of (own spaces.Global) hs))
    (map (m.export_of names) (m.parts_of (λ f. m.is_export f.kind) hs)) (slice_get (map (m.first_used names spaces.Func) (m.parts_of (λ f. m.is_start f.kind) hs)) 0)
    (map (m.element_of names) (m.parts_of (own spaces.Elem) hs)) (map (m.body_of names types) (m.parts_of (own spaces.Func) hs)) (map (m.segment_of names) (m.parts_of (own spaces.Data) hs))

of_same : (names : Space → Names) (types : List FunctionType) {gs fs : List Field} → AllThin gs fs → of names types gs ≡ of names types fs
unfolding of
of_same names types {gs = gs} {fs = fs} ts =
    rw (
      same_list (m.import_of names) (λ f. is_import f.kind) (same_import names) (same_kinds is_import) ts,
      same_list (m.function_type_in names) (own spaces.Func) (λ ks ms d. same_function_type names d) (same_own spaces.Func) ts,
      same_list m.limits_in (own spaces.Table) (λ ks ms d. same_limits d) (same_own spaces.Table) ts,
      same_list m.limits_in (own spaces.Memory) (λ ks ms d. same_limits d) (same_own spaces.Memory) ts,
      same_list (m.global_of names) (own spaces.Global) (same_global names) (same_own spaces.Global) ts,
      same_list (m.export_of names) (λ f. m.is_export f.kind) (same_export names) (same_kinds m.is_export) ts,
      same_list (m.first_used names spaces.Func) (λ f. m.is_start f.kind) (λ ks ms d. same_first_used names spaces.Func d) (same_kinds m.is_start) ts,
      same_list (m.element_of names) (own spaces.Elem) (same_element names) (same_own spaces.Elem) ts,
      same_list (m.body_of names types) (own spaces.Func) (same_body names types) (same_own spaces.Func) ts,
      same_list (m.segment_of names) (own spaces.Data) (same_segment names) (same_own spaces.Data) ts,
    ) refl

of_fields : {gs fs : List Field} → AllThin gs fs → m.module_of_fields gs ≡ m.module_of_fields fs
unfolding of with_parts
of_fields {gs = gs} {fs = fs} ts =
    ap (λ (names : Space → Names). of names (types_of gs) gs) (same_names ts)
    ∙ ap (λ (types : List FunctionType). of (names_of fs) types gs) (same_types ts)
    ∙ of_same (names_of fs) (types_of fs) ts

pub same_module : (ms : List Marked) → module_of (kept ms) ≡ module_of ms
same_module ms = of_fields (thin_fields ms)
