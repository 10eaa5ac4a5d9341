-- The two laws of the entries of sections.
use Rattle.std.proofs.Common.{◌≡◌, ℕ, zero, suc, ◌+◌, ◌≤◌, ◌<◌, ◌^◌, true, eqb, List, [], ◌∷◌, ◌++◌, length, replicate, refl, sym, ap, ◌∙◌, subst, arith, length-append}
use Rattle.std.specs.List.{AllByRecursion, zip}
use Rattle.std.proofs.lemmas.List.{length-replicate}
use Rattle.std.proofs.lemmas.Bool.{eqb-true, leb-true, le-leb}
use Rattle.wasm_lang.specs.declared.fault.Row.TheVariants.{SectionSize, Limit}
use Rattle.wasm_lang.specs.declared.types.ValType.{ValType}
use Rattle.wasm_lang.specs.declared.types.ImportKind.{ImportKind}
use Rattle.wasm_lang.specs.declared.types.ImportKind.TheVariants as imports
use Rattle.wasm_lang.specs.declared.types.ExportKind.{ExportKind}
use Rattle.wasm_lang.specs.declared.types.ExportKind.TheVariants as exports
use Rattle.wasm_lang.specs.Instructions.{Instruction}
use Rattle.wasm_lang.specs.Modules.{FunctionType, Imported, GlobalEntry, Exported, ElementSegment, DataSegment, FunctionBody}
use Rattle.wasm_lang.specs.Numbers.{IsU32}
use Rattle.wasm_lang.specs.Limits.{most_functions, most_globals, most_params, most_locals, most_levels, function_imports, global_imports, levels, params_of, MayImport}
use Rattle.wasm_lang.specs.Grammar.{Items, no_item, item, IsSized, IsImportKind, function_import, table_import, memory_import, global_import, IsImport, an_import, IsGlobal, a_global, IsExportKind, function_export, table_export, memory_export, global_export, IsExport, an_export, IsElement, an_element, locals_of, IsRun, a_run, IsFunctionBody, a_body, IsSegment, a_segment}
use Rattle.wasm_lang.specs.Reading.{Input, u32}
use Rattle.wasm_lang.specs.ReadingModule.{import_kind_field, import_field, imports_field, global_field, export_kind_field, export_field, element_field, segment_field, runs_field, body_content, body_field, bodies_field}
use Rattle.wasm_lang.proofs.ReadingLaws.{from, leaves, Gives, Only, ok_gives, bind_gives, expects_gives, onto_gives, ok_only, err_only, bind_only, expects_only, onto_only, if_only, weaker_only, byte_only, u32_gives, u32_only, vec_gives, vec_of, vec_only}
use Rattle.wasm_lang.proofs.ReadingLawsTypes.{all_are, count_gives, count_only, bytes_gives, bytes_only, name_gives, name_only, fits, sized_gives, sized_only, size_count, sized_of, val_type_gives, val_type_only, memory_gives, memory_only, table_gives, table_only, global_type_gives, global_type_only}
use Rattle.wasm_lang.proofs.ReadingLawsCode.{code_gives, code_only}

-- ---- imports

abbrev of_kind : ImportKind → Imported
of_kind k = record { module_name = []; name = []; kind = k }

-- after so many imported functions and globals, the limits leave room for it
abbrev KindFits : (functions globals : ℕ) → ImportKind → Type 0
KindFits functions globals k = (functions + function_imports (of_kind k ∷ []) ≤ most_functions) × (globals + global_imports (of_kind k ∷ []) ≤ most_globals) × MayImport (of_kind k)

import_kind_gives : (functions globals : ℕ) (k : ImportKind) (xs ys : List ℕ) (at : ℕ) → KindFits functions globals k → IsImportKind k xs ys → Gives (import_kind_field functions globals (from at xs)) (leaves k ys)
import_kind_gives functions globals k xs ys at f (function_import h) =
    let l : functions + (1 + 0) ≤ most_functions = f.0 in
    expects_gives Limit at _ (le-leb (functions + 1) most_functions (omega arith)) (onto_gives imports.Func (u32_gives SectionSize (at + 1) h))
import_kind_gives functions globals k xs ys at f (table_import {l = l} {xs = bs} h) = onto_gives imports.Table (table_gives l bs ys (at + 1) f.2 h)
import_kind_gives functions globals k xs ys at f (memory_import {l = l} {xs = bs} h) = onto_gives imports.Memory (memory_gives l bs ys (at + 1) h)
import_kind_gives functions globals k xs ys at f (global_import {t = t} {xs = bs} h) =
    let l : globals + (1 + 0) ≤ most_globals = f.1 in
    expects_gives Limit at _ (le-leb (globals + 1) most_globals (omega arith)) (onto_gives imports.Global (global_type_gives t bs ys (at + 1) h))

byte_is : (i : Input) (b : ℕ × Input) (c : ℕ) → i.bytes ≡ b.0 ∷ b.1.bytes → eqb b.0 c ≡ true → c ∷ b.1.bytes ≡ i.bytes
byte_is i b c e t = ap (λ c. c ∷ b.1.bytes) (sym (eqb-true b.0 c t)) ∙ sym e

import_kind_only : (functions globals : ℕ) (i : Input) → functions ≤ most_functions → globals ≤ most_globals → Only (import_kind_field functions globals i) (λ x. IsImportKind x.0 i.bytes x.1.bytes × KindFits functions globals x.0)
import_kind_only functions globals i lf lg =
    let f : functions + (0 + 0) ≤ most_functions = omega (arith, lf) in
    let g : globals + (0 + 0) ≤ most_globals = omega (arith, lg) in
    bind_only _ (byte_only SectionSize i) (λ b e.
    if_only (λ t. expects_only Limit i.at _ (λ u.
    let l : functions + (1 + 0) ≤ most_functions = let m = leb-true (functions + 1) most_functions u in omega (arith, m) in
    onto_only imports.Func (u32_only SectionSize b.1) (λ x c. (subst (λ l. IsImportKind (imports.Func x.0) l x.1.bytes) (byte_is i b 0x00 e t) (function_import c), (l, g, tt)))))
    (λ t. if_only (λ t. onto_only imports.Table (table_only b.1) (λ x c. (subst (λ l. IsImportKind (imports.Table x.0) l x.1.bytes) (byte_is i b 0x01 e t) (table_import c.0), (f, g, c.1))))
    (λ t. if_only (λ t. onto_only imports.Memory (memory_only b.1) (λ x c. (subst (λ l. IsImportKind (imports.Memory x.0) l x.1.bytes) (byte_is i b 0x02 e t) (memory_import c), (f, g, tt))))
    (λ t. if_only (λ t. expects_only Limit i.at _ (λ u.
    let l : globals + (1 + 0) ≤ most_globals = let m = leb-true (globals + 1) most_globals u in omega (arith, m) in
    onto_only imports.Global (global_type_only b.1) (λ x c. (subst (λ l. IsImportKind (imports.Global x.0) l x.1.bytes) (byte_is i b 0x03 e t) (global_import c), (f, l, tt)))))
    (λ t. err_only)))))

abbrev ImportFits : (functions globals : ℕ) → Imported → Type 0
ImportFits functions globals i = KindFits functions globals i.kind

import_gives : (functions globals : ℕ) (i : Imported) (xs ys : List ℕ) (at : ℕ) → ImportFits functions globals i → IsImport i xs ys → Gives (import_field functions globals (from at xs)) (leaves i ys)
import_gives functions globals i xs ys at f (an_import {k = k} {zs = zs} a b c) =
    bind_gives _ (name_gives at a) (λ at. bind_gives _ (name_gives at b) (λ at. bind_gives _ (import_kind_gives functions globals k zs ys at f c) (λ at. ok_gives at)))

import_only : (functions globals : ℕ) (i : Input) → functions ≤ most_functions → globals ≤ most_globals → Only (import_field functions globals i) (λ x. IsImport x.0 i.bytes x.1.bytes × ImportFits functions globals x.0)
import_only functions globals i lf lg =
    bind_only _ (name_only i) (λ m a.
    bind_only _ (name_only m.1) (λ n b.
    bind_only _ (import_kind_only functions globals n.1 lf lg) (λ k c.
    ok_only (an_import a b c.0, c.1))))

functions_before : (f : ℕ) (i : Imported) (is : List Imported) → f + function_imports (i ∷ is) ≡ f + function_imports (i ∷ []) + function_imports is
functions_before f i is = omega arith

globals_before : (g : ℕ) (i : Imported) (is : List Imported) → g + global_imports (i ∷ is) ≡ g + global_imports (i ∷ []) + global_imports is
globals_before g i is = omega arith

pub imports_gives : (is : List Imported) (functions globals : ℕ) (xs ys : List ℕ) → functions + function_imports is ≤ most_functions → globals + global_imports is ≤ most_globals → AllByRecursion MayImport is → Items IsImport is xs ys
    → (at : ℕ) → Gives (imports_field functions globals (length is) (from at xs)) (leaves is ys)
imports_gives is functions globals xs ys lf lg m no_item at = ok_gives at
imports_gives is functions globals xs ys lf lg m (item {v = i} {vs = js} {ys = ms} p ps) at =
    let f : functions + function_imports (i ∷ []) + function_imports js ≤ most_functions = subst (λ n. n ≤ most_functions) (functions_before functions i js) lf in
    let g : globals + global_imports (i ∷ []) + global_imports js ≤ most_globals = subst (λ n. n ≤ most_globals) (globals_before globals i js) lg in
    let f1 : functions + function_imports (i ∷ []) ≤ most_functions = omega (arith, f) in
    let g1 : globals + global_imports (i ∷ []) ≤ most_globals = omega (arith, g) in
    bind_gives _ (import_gives functions globals i xs ms at (f1, g1, m.0) p) (λ at.
    bind_gives _ (imports_gives js (functions + function_imports (i ∷ [])) (globals + global_imports (i ∷ [])) ms ys f g m.1 ps at) (λ at. ok_gives at))

pub imports_only : (functions globals n : ℕ) (i : Input) → functions ≤ most_functions → globals ≤ most_globals → Only (imports_field functions globals n i)
    (λ x. (length x.0 ≡ n) × Items IsImport x.0 i.bytes x.1.bytes × (functions + function_imports x.0 ≤ most_functions) × (globals + global_imports x.0 ≤ most_globals) × AllByRecursion MayImport x.0)
imports_only functions globals zero i lf lg = ok_only (refl, no_item, omega (arith, lf), omega (arith, lg), tt)
imports_only functions globals (suc n) i lf lg =
    bind_only _ (import_only functions globals i lf lg) (λ v p.
    bind_only _ (imports_only (functions + function_imports (v.0 ∷ [])) (globals + global_imports (v.0 ∷ [])) n v.1 p.1.0 p.1.1) (λ vs ps.
    ok_only (
      ap suc ps.0,
      item p.0 ps.1,
      subst (λ n. n ≤ most_functions) (sym (functions_before functions v.0 vs.0)) ps.2,
      subst (λ n. n ≤ most_globals) (sym (globals_before globals v.0 vs.0)) ps.3,
      (p.1.2, ps.4),
    )))

-- ---- globals, exports, elements, segments

pub global_gives : (g : GlobalEntry) (xs ys : List ℕ) (at : ℕ) → levels g.init ≤ most_levels → IsGlobal g xs ys → Gives (global_field (from at xs)) (leaves g ys)
global_gives g xs ys at le (a_global {t = t} {code = code} {ys = ms} a b) =
    bind_gives _ (global_type_gives t xs ms at a) (λ at. bind_gives _ (code_gives code ms ys at le b) (λ at. ok_gives at))

pub global_only : (i : Input) → Only (global_field i) (λ x. IsGlobal x.0 i.bytes x.1.bytes × (levels x.0.init ≤ most_levels))
global_only i = bind_only _ (global_type_only i) (λ t a. bind_only _ (code_only t.1) (λ code b. ok_only (a_global a b.0, b.1)))

export_kind_gives : (k : ExportKind) (xs ys : List ℕ) (at : ℕ) → IsExportKind k xs ys → Gives (export_kind_field (from at xs)) (leaves k ys)
export_kind_gives k xs ys at (function_export h) = onto_gives exports.Func (u32_gives SectionSize (at + 1) h)
export_kind_gives k xs ys at (table_export h) = onto_gives exports.Table (u32_gives SectionSize (at + 1) h)
export_kind_gives k xs ys at (memory_export h) = onto_gives exports.Memory (u32_gives SectionSize (at + 1) h)
export_kind_gives k xs ys at (global_export h) = onto_gives exports.Global (u32_gives SectionSize (at + 1) h)

export_kind_only : (i : Input) → Only (export_kind_field i) (λ x. IsExportKind x.0 i.bytes x.1.bytes)
export_kind_only i =
    bind_only _ (byte_only SectionSize i) (λ b e.
    if_only (λ t. onto_only exports.Func (u32_only SectionSize b.1) (λ x c. subst (λ l. IsExportKind (exports.Func x.0) l x.1.bytes) (byte_is i b 0x00 e t) (function_export c)))
    (λ t. if_only (λ t. onto_only exports.Table (u32_only SectionSize b.1) (λ x c. subst (λ l. IsExportKind (exports.Table x.0) l x.1.bytes) (byte_is i b 0x01 e t) (table_export c)))
    (λ t. if_only (λ t. onto_only exports.Memory (u32_only SectionSize b.1) (λ x c. subst (λ l. IsExportKind (exports.Memory x.0) l x.1.bytes) (byte_is i b 0x02 e t) (memory_export c)))
    (λ t. if_only (λ t. onto_only exports.Global (u32_only SectionSize b.1) (λ x c. subst (λ l. IsExportKind (exports.Global x.0) l x.1.bytes) (byte_is i b 0x03 e t) (global_export c)))
    (λ t. err_only)))))

pub export_gives : (v : Exported) (xs ys : List ℕ) (at : ℕ) → IsExport v xs ys → Gives (export_field (from at xs)) (leaves v ys)
export_gives v xs ys at (an_export {k = k} {ys = ms} a b) = bind_gives _ (name_gives at a) (λ at. bind_gives _ (export_kind_gives k ms ys at b) (λ at. ok_gives at))

pub export_only : (i : Input) → Only (export_field i) (λ x. IsExport x.0 i.bytes x.1.bytes)
export_only i = bind_only _ (name_only i) (λ n a. bind_only _ (export_kind_only n.1) (λ k b. ok_only (an_export a b)))

pub numbers_gives : (v : ℕ) (xs ys : List ℕ) (at : ℕ) → Unit {0} → IsU32 v xs ys → Gives (u32 (from at xs)) (leaves v ys)
numbers_gives v xs ys at u h = u32_gives SectionSize at h

pub numbers_only : (i : Input) → Only (u32 i) (λ x. IsU32 x.0 i.bytes x.1.bytes × Unit {0})
numbers_only i = weaker_only (u32_only SectionSize i) (λ x c. (c, tt))

pub element_gives : (v : ElementSegment) (xs ys : List ℕ) (at : ℕ) → levels v.offset ≤ most_levels → IsElement v xs ys → Gives (element_field (from at xs)) (leaves v ys)
element_gives v xs ys at le (an_element {code = code} {fs = fs} {ys = ms} {zs = zs} a b c) =
    bind_gives _ (u32_gives SectionSize at a) (λ at.
    bind_gives _ (code_gives code ms zs at le b) (λ at.
    bind_gives _ (vec_gives u32 numbers_gives (all_are fs) c at) (λ at. ok_gives at)))

pub element_only : (i : Input) → Only (element_field i) (λ x. IsElement x.0 i.bytes x.1.bytes × (levels x.0.offset ≤ most_levels))
element_only i =
    bind_only _ (u32_only SectionSize i) (λ t a.
    bind_only _ (code_only t.1) (λ code b.
    bind_only _ (vec_only u32 numbers_only code.1) (λ fs c.
    ok_only (an_element a b.0 c.0, b.1))))

pub segment_gives : (v : DataSegment) (xs ys : List ℕ) (at : ℕ) → levels v.offset ≤ most_levels → IsSegment v xs ys → Gives (segment_field (from at xs)) (leaves v ys)
segment_gives v xs ys at le (a_segment {code = code} {ys = ms} {zs = zs} a b c) =
    bind_gives _ (u32_gives SectionSize at a) (λ at.
    bind_gives _ (code_gives code ms zs at le b) (λ at.
    bind_gives _ (bytes_gives at c) (λ at. ok_gives at)))

pub segment_only : (i : Input) → Only (segment_field i) (λ x. IsSegment x.0 i.bytes x.1.bytes × (levels x.0.offset ≤ most_levels))
segment_only i =
    bind_only _ (u32_only SectionSize i) (λ m a.
    bind_only _ (code_only m.1) (λ code b.
    bind_only _ (bytes_only code.1) (λ bytes c.
    ok_only (a_segment a b.0 c, b.1))))

-- ---- bodies

run_length : (n : ℕ) (t : ValType) (ts : List ValType) → length (replicate n t ++ ts) ≡ n + length ts
run_length n t ts = omega (arith, length-append (replicate n t) ts, length-replicate n t)

runs_gives : (runs : List (ℕ × ValType)) (used : ℕ) (xs ys : List ℕ) → used + length (locals_of runs) ≤ most_locals → Items IsRun runs xs ys → (at : ℕ) → Gives (runs_field used (length runs) (from at xs)) (leaves (locals_of runs) ys)
runs_gives runs used xs ys le no_item at = ok_gives at
runs_gives runs used xs ys le (item {vs = rs} {ys = ms} (a_run {n = n} {t = t} {ys = ns} c d) ps) at =
    let l : used + n + length (locals_of rs) ≤ most_locals = omega (arith, le, run_length n t (locals_of rs)) in
    bind_gives _ (count_gives used most_locals at (omega (arith, l)) c) (λ at.
    bind_gives _ (val_type_gives t ns ms at d) (λ at.
    bind_gives _ (runs_gives rs (used + n) ms ys l ps at) (λ at. ok_gives at)))

abbrev AreRuns : (used n : ℕ) → List ℕ → List ValType × Input → Type 0
AreRuns used n xs x = (runs : List (ℕ × ValType)) × (length runs ≡ n) × Items IsRun runs xs x.1.bytes × (locals_of runs ≡ x.0) × (used + length x.0 ≤ most_locals)

runs_only : (used n : ℕ) (i : Input) → used ≤ most_locals → Only (runs_field used n i) (AreRuns used n i.bytes)
runs_only used zero i le = ok_only ([], refl, no_item, refl, omega (arith, le))
runs_only used (suc n) i le =
    bind_only _ (count_only used most_locals i) (λ k c.
    bind_only _ (val_type_only k.1) (λ t d.
    bind_only _ (runs_only (used + k.0) n t.1 c.1) (λ ts r.
    ok_only (
      (k.0, t.0) ∷ r.0,
      ap suc r.1,
      item (a_run c.0 d) r.2,
      ap (λ l. replicate k.0 t.0 ++ l) r.3,
      omega (arith, r.4, run_length k.0 t.0 ts.0),
    ))))

-- with so many parameters
abbrev pub BodyFits : ℕ → FunctionBody → Type 0
BodyFits params b = (params + length b.locals ≤ most_locals) × (levels b.code ≤ most_levels)

content_gives : (params : ℕ) (b : FunctionBody) (xs ys : List ℕ) (at : ℕ) → BodyFits params b → IsFunctionBody b xs ys → Gives (body_content params (from at xs)) (leaves b ys)
content_gives params b xs ys at f (a_body {runs = runs} {code = code} {ys = ms} v c few) =
    bind_gives _ (u32_gives SectionSize at v.count) (λ at.
    bind_gives _ (runs_gives runs params v.after_count ms f.0 v.items at) (λ at.
    bind_gives _ (code_gives code ms ys at f.1 c) (λ at. ok_gives at)))

body_of : (runs : List (ℕ × ValType)) {locals : List ValType} {code : List Instruction} {xs zs : List ℕ} → IsFunctionBody (record { locals = locals_of runs; code = code }) xs zs → locals_of runs ≡ locals → IsFunctionBody (record { locals = locals; code = code }) xs zs
body_of runs {code = code} {xs = xs} {zs = zs} h e = subst (λ l. IsFunctionBody (record { locals = l; code = code }) xs zs) e h

-- within the reader's limit there are fewer than 2 ^ 32
few_locals : (params : ℕ) (runs : List (ℕ × ValType)) (locals : List ValType) → locals_of runs ≡ locals → params + length locals ≤ most_locals → length (locals_of runs) < 2 ^ 32
few_locals params runs locals e fits = let n : length (locals_of runs) ≡ length locals = ap length e in omega arith

content_only : (params : ℕ) (i : Input) → params ≤ most_locals → Only (body_content params i) (λ x. IsFunctionBody x.0 i.bytes x.1.bytes × BodyFits params x.0)
content_only params i le =
    bind_only _ (u32_only SectionSize i) (λ n c.
    bind_only _ (runs_only params n.0 n.1 le) (λ locals r.
    bind_only _ (code_only locals.1) (λ code b.
    ok_only (body_of r.0 (a_body (vec_of c r.1 r.2) b.0 (few_locals params r.0 locals.0 r.3 r.4)) r.3, (r.4, b.1)))))

body_gives : (params : ℕ) (b : FunctionBody) (xs ys : List ℕ) (at : ℕ) → BodyFits params b → IsSized IsFunctionBody b xs ys → Gives (body_field params (from at xs)) (leaves b ys)
body_gives params b xs ys at f s =
    bind_gives _ (u32_gives SectionSize at (size_count s)) (λ k.
    expects_gives SectionSize at _ (fits s.content ys) (sized_gives (body_content params) s.content ys k (λ at. content_gives params b s.content [] at f s.is)))

body_only : (params : ℕ) (i : Input) → params ≤ most_locals → Only (body_field params i) (λ x. IsSized IsFunctionBody x.0 i.bytes x.1.bytes × BodyFits params x.0)
body_only params i le =
    bind_only _ (u32_only SectionSize i) (λ n s.
    expects_only SectionSize i.at _ (λ t.
    weaker_only (sized_only IsFunctionBody (BodyFits params) (body_content params) (λ i. content_only params i le) n.0 n.1) (λ x p. (sized_of s t p.0 p.2, p.1))))

abbrev pub BodiesFit : List FunctionType → List (ℕ × FunctionBody) → Type 0
BodiesFit types fs = AllByRecursion (λ f. BodyFits (params_of types f.0) f.1) fs

pub bodies_gives : (types : List FunctionType) (fs : List ℕ) (bs : List FunctionBody) (xs ys : List ℕ) → length fs ≡ length bs → BodiesFit types (zip fs bs) → Items (IsSized IsFunctionBody) bs xs ys
    → (at : ℕ) → Gives (bodies_field types fs (from at xs)) (leaves bs ys)
bodies_gives types [] bs xs ys e f no_item at = ok_gives at
bodies_gives types [] bs xs ys e f (item {v = v} {vs = vs} p ps) at = let n : 0 ≡ length (v ∷ vs) = e in absurd (omega arith)
bodies_gives types (t ∷ ts) bs xs ys e f no_item at = let n : length (t ∷ ts) ≡ 0 = e in absurd (omega arith)
bodies_gives types (t ∷ ts) bs xs ys e f (item {v = v} {vs = vs} {ys = ms} p ps) at =
    bind_gives _ (body_gives (params_of types t) v xs ms at f.0 p) (λ at.
    bind_gives _ (bodies_gives types ts vs ms ys (let n : length (t ∷ ts) ≡ length (v ∷ vs) = e in omega arith) f.1 ps at) (λ at. ok_gives at))

pub bodies_only : (types : List FunctionType) → ((t : ℕ) → params_of types t ≤ most_locals) → (fs : List ℕ) (i : Input)
    → Only (bodies_field types fs i) (λ x. (length fs ≡ length x.0) × Items (IsSized IsFunctionBody) x.0 i.bytes x.1.bytes × BodiesFit types (zip fs x.0))
bodies_only types le [] i = ok_only (refl, no_item, tt)
bodies_only types le (t ∷ ts) i =
    bind_only _ (body_only (params_of types t) i (le t)) (λ b p.
    bind_only _ (bodies_only types le ts b.1) (λ bs ps.
    ok_only (ap suc ps.0, item p.0 ps.1, (p.1, ps.2))))

pub params_within : (types : List FunctionType) → AllByRecursion (λ t. length t.params ≤ most_params) types → (t : ℕ) → params_of types t ≤ most_locals
params_within [] q t = let l : 0 ≤ most_locals = omega arith in l
params_within (x ∷ xs) q zero = let l : length x.params ≤ most_params = q.0 in omega (arith, l)
params_within (x ∷ xs) q (suc t) = params_within xs q.1 t
