-- Bytes have at most one module, whatever the limits.
use Rattle.std.proofs.Common.{◌≡◌, ◌⊎◌, inl, inr, ℕ, ◌+◌, ◌<◌, true, false, cond, eqb, List, [], ◌∷◌, ◌++◌, length, take, drop, Option, Some, None, refl, sym, ap, ap₂, ◌∙◌, subst, arith}
use Rattle.std.specs.Prelude.{Result, Ok, Err, All, MatchResult}
use Rattle.std.proofs.lemmas.Bool.{false≢true, eq-eqb}
use Rattle.std.proofs.Math.Seq.{take-append_seam, drop-append_seam}
use Rattle.wasm_lang.specs.declared.fault.Fault.{Fault}
use Rattle.wasm_lang.specs.declared.fault.Row.TheVariants.{SectionSize}
use Rattle.wasm_lang.specs.declared.types.ValType.{ValType}
use Rattle.wasm_lang.specs.declared.types.Limits.{Limits}
use Rattle.wasm_lang.specs.declared.types.ImportKind.{ImportKind}
use Rattle.wasm_lang.specs.declared.types.ImportKind.TheVariants as imports
use Rattle.wasm_lang.specs.Instructions.{Instruction}
use Rattle.wasm_lang.specs.Modules.{FunctionType, Imported, WasmModule}
use Rattle.wasm_lang.specs.Numbers.{IsU32}
use Rattle.wasm_lang.specs.Limits.{IsWithinReader}
use Rattle.wasm_lang.specs.Grammar.{Spelling, Items, no_item, item, IsVec, IsBytes, IsSized, IsFunctionType, function_type, IsLimits, IsTable, a_table, IsGlobalType, IsInstruction, IsCode, IsImportKind, function_import, table_import, memory_import, global_import, IsImport, an_import, IsGlobal, a_global, IsExport, IsElement, an_element, locals_of, IsRun, a_run, IsFunctionBody, a_body, IsSegment, a_segment, IsCustom, IsCustoms, no_custom, header, IsModuleBytes}
use Rattle.wasm_lang.specs.Reading.{Input, Field, ◌>>=◌, byte, u32, exactly, onto, vec_field, bytes_field, name_field, val_type_field}
use Rattle.wasm_lang.specs.ReadingCode.{Opening, opened, instruction_field}
use Rattle.wasm_lang.specs.ReadingModule.{memory_field, global_type_field, export_field, begins_with, read_module}
use Rattle.wasm_lang.proofs.ReadingLaws.{from, leaves, Gives, inner, ok_gives, bind_gives, onto_gives, u32_gives, vec_gives}
use Rattle.wasm_lang.proofs.ReadingLawsTypes.{all_are, bytes_gives, name_gives, val_type_gives, memory_gives, global_type_gives}
use Rattle.wasm_lang.proofs.ReadingLawsCode.{instruction_gives}
use Rattle.wasm_lang.proofs.Nesting.{Completes, Onward, goes, not_empty, expression_completes}
use Rattle.wasm_lang.proofs.ReadingLawsEntries.{export_gives}
use Rattle.wasm_lang.proofs.ReadingLawsSections.{member, Comes, IsPart, IsSome, customs_on, customs_are, customs_between, not_begins, section_part, number_part}
use Rattle.wasm_lang.proofs.ReadingLawsModule.{comings, reads_what_is_spelled, spelled_as_read}

-- bytes spell at most one value, and it has one end
abbrev One : {X : Type 0} → Spelling X → Type 0
One {X} P = (v w : X) (xs ys zs : List ℕ) → P v xs ys → P w xs zs → (v ≡ w) × (ys ≡ zs)

-- what is read has one spelling's value and end
one_by : {X : Type 0} (P : Spelling X) (f : Input → Field X) → ((v : X) (xs ys : List ℕ) (at : ℕ) → P v xs ys → Gives (f (from at xs)) (leaves v ys)) → One P
one_by P f h v w xs ys zs p q =
    let g = h v xs ys 0 p in
    let k = h w xs zs 0 q in
    let e : leaves v ys g.place ≡ leaves w zs k.place = inner (sym g.is ∙ k.is) in
    (ap (λ x. x.0) e, ap (λ x. x.1.bytes) e)

-- ---- fields without limits

u32_one : One IsU32
u32_one = one_by IsU32 u32 (λ v xs ys at h. u32_gives SectionSize at h)

bytes_one : One IsBytes
bytes_one = one_by IsBytes bytes_field (λ v xs ys at h. bytes_gives at h)

instruction_one : One IsInstruction
instruction_one = one_by IsInstruction instruction_field instruction_gives

global_type_one : One IsGlobalType
global_type_one = one_by IsGlobalType global_type_field global_type_gives

export_one : One IsExport
export_one = one_by IsExport export_field export_gives

limits_one : One IsLimits
limits_one = one_by IsLimits memory_field memory_gives

-- ---- readers without limits

type_field : Input → Field FunctionType
type_field i = exactly 0x60 i >>= λ b. vec_field val_type_field b.1 >>= λ ps. vec_field val_type_field ps.1 >>= λ rs. Ok (record { params = ps.0; results = rs.0 }, rs.1)

type_gives : (t : FunctionType) (xs ys : List ℕ) (at : ℕ) → IsFunctionType t xs ys → Gives (type_field (from at xs)) (leaves t ys)
unfolding type_field
type_gives t xs ys at (function_type {ps = ps} {rs = rs} p r) =
    bind_gives _ (vec_gives val_type_field (λ v xs ys at u h. val_type_gives v xs ys at h) (all_are ps) p (at + 1)) (λ at.
    bind_gives _ (vec_gives val_type_field (λ v xs ys at u h. val_type_gives v xs ys at h) (all_are rs) r at) (λ at. ok_gives at))

type_one : One IsFunctionType
type_one = one_by IsFunctionType type_field type_gives

any_table : Input → Field Limits
any_table i = exactly 0x70 i >>= λ b. memory_field b.1

any_table_gives : (l : Limits) (xs ys : List ℕ) (at : ℕ) → IsTable l xs ys → Gives (any_table (from at xs)) (leaves l ys)
unfolding any_table
any_table_gives l xs ys at (a_table {xs = bs} h) = memory_gives l bs ys (at + 1) h

table_one : One IsTable
table_one = one_by IsTable any_table any_table_gives

any_import_kind : Input → Field ImportKind
any_import_kind i =
    byte i >>= λ b.
    cond (eqb b.0 0x00) (onto imports.Func (u32 b.1)) (cond (eqb b.0 0x01) (onto imports.Table (any_table b.1)) (cond (eqb b.0 0x02) (onto imports.Memory (memory_field b.1)) (onto imports.Global (global_type_field b.1))))

import_kind_gives : (k : ImportKind) (xs ys : List ℕ) (at : ℕ) → IsImportKind k xs ys → Gives (any_import_kind (from at xs)) (leaves k ys)
unfolding any_import_kind
import_kind_gives k xs ys at (function_import h) = onto_gives imports.Func (u32_gives SectionSize (at + 1) h)
import_kind_gives k xs ys at (table_import {l = l} {xs = bs} h) = onto_gives imports.Table (any_table_gives l bs ys (at + 1) h)
import_kind_gives k xs ys at (memory_import {l = l} {xs = bs} h) = onto_gives imports.Memory (memory_gives l bs ys (at + 1) h)
import_kind_gives k xs ys at (global_import {t = t} {xs = bs} h) = onto_gives imports.Global (global_type_gives t bs ys (at + 1) h)

any_import : Input → Field Imported
any_import i = name_field i >>= λ m. name_field m.1 >>= λ n. any_import_kind n.1 >>= λ k. Ok (record { module_name = m.0; name = n.0; kind = k.0 }, k.1)

import_gives : (i : Imported) (xs ys : List ℕ) (at : ℕ) → IsImport i xs ys → Gives (any_import (from at xs)) (leaves i ys)
unfolding any_import
import_gives i xs ys at (an_import {k = k} {zs = zs} a b c) =
    bind_gives _ (name_gives at a) (λ at. bind_gives _ (name_gives at b) (λ at. bind_gives _ (import_kind_gives k zs ys at c) (λ at. ok_gives at)))

import_one : One IsImport
import_one = one_by IsImport any_import import_gives

any_run : Input → Field (ℕ × ValType)
any_run i = u32 i >>= λ n. val_type_field n.1 >>= λ t. Ok ((n.0, t.0), t.1)

run_gives : (r : ℕ × ValType) (xs ys : List ℕ) (at : ℕ) → IsRun r xs ys → Gives (any_run (from at xs)) (leaves r ys)
unfolding any_run
run_gives r xs ys at (a_run {t = t} {ys = ms} c d) = bind_gives _ (u32_gives SectionSize at c) (λ at. bind_gives _ (val_type_gives t ms ys at d) (λ at. ok_gives at))

run_one : One IsRun
run_one = one_by IsRun any_run run_gives

-- ---- items, vectors, sized parts

items_one : {X : Type 0} (P : Spelling X) → One P → (vs ws : List X) (xs ys zs : List ℕ) → length vs ≡ length ws → Items P vs xs ys → Items P ws xs zs → (vs ≡ ws) × (ys ≡ zs)
items_one P one vs ws xs ys zs e no_item no_item = (refl, refl)
items_one P one vs ws xs ys zs e no_item (item {v = w} {vs = us} q qs) = let n : 0 ≡ length (w ∷ us) = e in absurd (omega arith)
items_one P one vs ws xs ys zs e (item {v = v} {vs = us} p ps) no_item = let n : length (v ∷ us) ≡ 0 = e in absurd (omega arith)
items_one P one vs ws xs ys zs e (item {v = v} {vs = us} {ys = ms} p ps) (item {v = w} {vs = ts} {ys = ns} q qs) =
    let h = one v w xs ms ns p q in
    let n : length (v ∷ us) ≡ length (w ∷ ts) = e in
    let r = items_one P one us ts ms ys zs (omega arith) ps (subst (λ l. Items P ts l zs) (sym h.1) qs) in
    (ap₂ (λ v l. v ∷ l) h.0 r.0, r.1)

vec_one : {X : Type 0} (P : Spelling X) → One P → One (IsVec P)
vec_one P one vs ws xs ys zs p q =
    let c = u32_one (length vs) (length ws) xs p.after_count q.after_count p.count q.count in
    items_one P one vs ws p.after_count ys zs c.0 p.items (subst (λ l. Items P ws l zs) (sym c.1) q.items)

parts_one : (ps qs ys zs : List ℕ) → length ps ≡ length qs → ps ++ ys ≡ qs ++ zs → (ps ≡ qs) × (ys ≡ zs)
parts_one ps qs ys zs n e =
    (sym (take-append_seam ps ys) ∙ ap₂ (λ n l. take n l) n e ∙ take-append_seam qs zs, sym (drop-append_seam ps ys) ∙ ap₂ (λ n l. drop n l) n e ∙ drop-append_seam qs zs)

sized_one : {X : Type 0} (P : Spelling X) → One P → One (IsSized P)
sized_one P one v w xs ys zs p q =
    let c = u32_one (length p.content) (length q.content) xs p.after_size q.after_size p.size q.size in
    let r = parts_one p.content q.content ys zs c.0 (sym p.stands ∙ c.1 ∙ q.stands) in
    ((one v w p.content [] [] p.is (subst (λ l. P w l []) (sym r.0) q.is)).0, r.1)

-- ---- expressions, and entries with them

-- the instructions after the same one close the same blocks, or are none
same_onward : (os : Option (List Opening)) (is js : List Instruction) → Onward os is → Onward os js → ((is ≡ []) × (js ≡ [])) ⊎ ((os : List Opening) × Completes os is × Completes os js)
same_onward None is js a b = inl (a, b)
same_onward (Some os) is js a b = inr (os, a, b)

nothing_more : {xs ys : List ℕ} {is : List Instruction} → Items IsInstruction is xs ys → is ≡ [] → xs ≡ ys
nothing_more no_item e = refl
nothing_more (item p ps) e = cc

instructions_one : (os : List Opening) (is js : List Instruction) (xs ys zs : List ℕ) → Items IsInstruction is xs ys → Items IsInstruction js xs zs → Completes os is → Completes os js → (is ≡ js) × (ys ≡ zs)
instructions_one os is js xs ys zs no_item q s t = absurd (not_empty os s)
instructions_one os is js xs ys zs (item p ps) no_item s t = absurd (not_empty os t)
instructions_one os is js xs ys zs (item {v = i} {vs = us} {ys = ms} p ps) (item {v = j} {vs = ts} {ys = ns} q qs) s t =
    let h = instruction_one i j xs ms ns p q in
    let rs = subst (λ l. Items IsInstruction ts l zs) (sym h.1) qs in
    let r = by (λ os a b. instructions_one os us ts ms ys zs ps rs a b) rs (same_onward (opened os i) us ts (goes os i us s).0 (goes os i ts (subst (λ i. Completes os (i ∷ ts)) (sym h.0) t)).0) in
    (ap₂ (λ i l. i ∷ l) h.0 r.0, r.1)
  where
    by : ((os : List Opening) → Completes os us → Completes os ts → (us ≡ ts) × (ys ≡ zs)) → Items IsInstruction ts ms zs → ((us ≡ []) × (ts ≡ [])) ⊎ ((os : List Opening) × Completes os us × Completes os ts) → (us ≡ ts) × (ys ≡ zs)
    by f rs (inl e) = (e.0 ∙ sym e.1, sym (nothing_more ps e.0) ∙ nothing_more rs e.1)
    by f rs (inr x) = f x.0 x.1 x.2

code_one : One IsCode
code_one is js xs ys zs p q = instructions_one [] is js xs ys zs p.instructions q.instructions (expression_completes is p.expression) (expression_completes js q.expression)

global_one : One IsGlobal
global_one v w xs ys zs (a_global {t = t} {code = c} {ys = ms} a b) (a_global {t = u} {code = d} {ys = ns} e f) =
    let h = global_type_one t u xs ms ns a e in
    let k = code_one c d ms ys zs b (subst (λ l. IsCode d l zs) (sym h.1) f) in
    (ap₂ (λ t c. record { kind = t; init = c }) h.0 k.0, k.1)

element_one : One IsElement
element_one v w xs ys zs (an_element {t = t} {code = c} {fs = fs} {ys = ms} {zs = ls} a b g) (an_element {t = u} {code = d} {fs = gs} {ys = ns} {zs = ks} e f h) =
    let one = u32_one t u xs ms ns a e in
    let two = code_one c d ms ls ks b (subst (λ l. IsCode d l ks) (sym one.1) f) in
    let three = vec_one IsU32 u32_one fs gs ls ys zs g (subst (λ l. IsVec IsU32 gs l zs) (sym two.1) h) in
    (ap₂ (λ (t : ℕ) x. record { table = t; offset = x.0; functions = x.1 }) one.0 (ap₂ {C = List Instruction × List ℕ} (λ c fs. (c, fs)) two.0 three.0), three.1)

segment_one : One IsSegment
segment_one v w xs ys zs (a_segment {m = t} {code = c} {bytes = fs} {ys = ms} {zs = ls} a b g) (a_segment {m = u} {code = d} {bytes = gs} {ys = ns} {zs = ks} e f h) =
    let one = u32_one t u xs ms ns a e in
    let two = code_one c d ms ls ks b (subst (λ l. IsCode d l ks) (sym one.1) f) in
    let three = bytes_one fs gs ls ys zs g (subst (λ l. IsBytes gs l zs) (sym two.1) h) in
    (ap₂ (λ (t : ℕ) x. record { memory = t; offset = x.0; bytes = x.1 }) one.0 (ap₂ {C = List Instruction × List ℕ} (λ c fs. (c, fs)) two.0 three.0), three.1)

body_one : One IsFunctionBody
body_one v w xs ys zs (a_body {runs = rs} {code = c} {ys = ms} a b few) (a_body {runs = qs} {code = d} {ys = ns} e f few') =
    let one = vec_one IsRun run_one rs qs xs ms ns a e in
    let two = code_one c d ms ys zs b (subst (λ l. IsCode d l zs) (sym one.1) f) in
    (ap₂ (λ rs c. record { locals = locals_of rs; code = c }) one.0 two.0, two.1)

some_one : One IsSome
some_one None w xs ys zs p q = absurd p
some_one (Some n) None xs ys zs p q = absurd q
some_one (Some n) (Some m) xs ys zs p q = let h = u32_one n m xs ys zs p q in (ap Some h.0, h.1)

-- ---- sections

-- after all custom sections there is one place
one_place : (xs ys zs : List ℕ) → IsCustoms xs ys → IsCustoms xs zs → begins_with 0 ys ≡ false → begins_with 0 zs ≡ false → ys ≡ zs
one_place xs ys zs c d e f = by (customs_are (customs_between c d f))
  where
    by : (ys ≡ zs) ⊎ ((rest bs ms : List ℕ) × (ys ≡ 0 ∷ bs) × IsSized IsCustom rest bs ms × IsCustoms ms zs) → ys ≡ zs
    by (inl q) = q
    by (inr x) = absurd (false≢true (sym e ∙ ap (begins_with 0) x.3))

begins_same : (id : ℕ) (zs bs : List ℕ) → id ∷ zs ≡ bs → begins_with id bs ≡ true
begins_same id zs bs e = ap (begins_with id) (sym e) ∙ eq-eqb id id refl

-- A part has one value. Custom sections may count to it in one spelling and to the next in the other; rs and qs are where both have come by.
part_one : {X : Type 0} (P : Spelling X) (absent : X) → One P → (id : ℕ) (ids : List ℕ) → eqb id 0 ≡ false → member ids id ≡ false → member ids 0 ≡ false
    → (v w : X) (xs ks ys zs rs : List ℕ) → IsPart id P absent v xs ys → IsPart id P absent w ks zs → IsCustoms xs rs → IsCustoms ks rs → Comes ids ys → Comes ids zs
    → (v ≡ w) × (qs : List ℕ) × IsCustoms ys qs × IsCustoms zs qs
part_one P absent one id ids nonzero apart zero_apart v w xs ks ys zs rs (inl p) (inl q) c d s t =
    let e = not_begins ids 0 s.0 zero_apart s.2 in
    let f = not_begins ids 0 t.0 zero_apart t.2 in
    let same = one_place rs s.0 t.0 (customs_between c (customs_on p.1 s.1) e) (customs_between d (customs_on q.1 t.1) f) e f in
    (p.0 ∙ sym q.0, s.0, s.1, subst (λ l. IsCustoms zs l) (sym same) t.1)
part_one P absent one id ids nonzero apart zero_apart v w xs ks ys zs rs (inl p) (inr q) c d s t =
    let e = not_begins ids 0 s.0 zero_apart s.2 in
    let same = one_place rs (id ∷ q.0) s.0 (customs_between d q.1 nonzero) (customs_between c (customs_on p.1 s.1) e) nonzero e in
    absurd (false≢true (sym (not_begins ids id s.0 apart s.2) ∙ begins_same id q.0 s.0 same))
part_one P absent one id ids nonzero apart zero_apart v w xs ks ys zs rs (inr p) (inl q) c d s t =
    let f = not_begins ids 0 t.0 zero_apart t.2 in
    let same = one_place rs (id ∷ p.0) t.0 (customs_between c p.1 nonzero) (customs_between d (customs_on q.1 t.1) f) nonzero f in
    absurd (false≢true (sym (not_begins ids id t.0 apart t.2) ∙ begins_same id p.0 t.0 same))
part_one P absent one id ids nonzero apart zero_apart v w xs ks ys zs rs (inr p) (inr q) c d s t =
    let same = one_place rs (id ∷ p.0) (id ∷ q.0) (customs_between c p.1 nonzero) (customs_between d q.1 nonzero) nonzero nonzero in
    let h = sized_one P one v w p.0 ys zs p.2 (subst (λ l. IsSized P w l zs) (sym (ap (λ l. drop 1 l) same)) q.2) in
    (h.0, ys, no_custom, subst (λ l. IsCustoms l ys) h.1 no_custom)

same_module : (m n : WasmModule) → m.types ≡ n.types → m.imports ≡ n.imports → m.functions ≡ n.functions → m.tables ≡ n.tables → m.memories ≡ n.memories → m.globals ≡ n.globals → m.exports ≡ n.exports → m.start ≡ n.start
    → m.elements ≡ n.elements → m.bodies ≡ n.bodies → m.segments ≡ n.segments → m ≡ n
same_module m n e1 e2 e3 e4 e5 e6 e7 e8 e9 e10 e11 =
    let q : ◌≡◌ {A = WasmModule} (record { types = m.types; imports = m.imports; functions = m.functions; tables = m.tables; memories = m.memories; globals = m.globals; exports = m.exports; start = m.start; elements = m.elements; bodies = m.bodies; segments = m.segments }) (record { types = n.types; imports = n.imports; functions = n.functions; tables = n.tables; memories = n.memories; globals = n.globals; exports = n.exports; start = n.start; elements = n.elements; bodies = n.bodies; segments = n.segments }) = cc in q

begins_once : (bytes cs bs : List ℕ) → bytes ≡ header ++ cs → bytes ≡ header ++ bs → cs ≡ bs
begins_once bytes cs bs e f = ap (λ l. drop 8 l) (sym e ∙ f)

pub one_module : (bytes : List ℕ) (m n : WasmModule) → IsModuleBytes bytes m → IsModuleBytes bytes n → m ≡ n
one_module bytes m n b d =
    let s = comings bytes m b in
    let t = comings bytes n d in
    let start = begins_once bytes b.after_header d.after_header b.begins d.begins in
    let p1 = part_one (IsVec IsFunctionType) [] (vec_one IsFunctionType type_one) 1 (2 ∷ 3 ∷ 4 ∷ 5 ∷ 6 ∷ 7 ∷ 8 ∷ 9 ∷ 12 ∷ 10 ∷ 11 ∷ []) refl refl refl m.types n.types b.after_header d.after_header b.after_types d.after_types b.after_header (section_part b.types) (section_part d.types) no_custom (subst (λ l. IsCustoms l b.after_header) start no_custom) s.after_types t.after_types in
    let p2 = part_one (IsVec IsImport) [] (vec_one IsImport import_one) 2 (3 ∷ 4 ∷ 5 ∷ 6 ∷ 7 ∷ 8 ∷ 9 ∷ 12 ∷ 10 ∷ 11 ∷ []) refl refl refl m.imports n.imports b.after_types d.after_types b.after_imports d.after_imports p1.1 (section_part b.imports) (section_part d.imports) p1.2 p1.3 s.after_imports t.after_imports in
    let p3 = part_one (IsVec IsU32) [] (vec_one IsU32 u32_one) 3 (4 ∷ 5 ∷ 6 ∷ 7 ∷ 8 ∷ 9 ∷ 12 ∷ 10 ∷ 11 ∷ []) refl refl refl m.functions n.functions b.after_imports d.after_imports b.after_functions d.after_functions p2.1 (section_part b.functions) (section_part d.functions) p2.2 p2.3 s.after_functions t.after_functions in
    let p4 = part_one (IsVec IsTable) [] (vec_one IsTable table_one) 4 (5 ∷ 6 ∷ 7 ∷ 8 ∷ 9 ∷ 12 ∷ 10 ∷ 11 ∷ []) refl refl refl m.tables n.tables b.after_functions d.after_functions b.after_tables d.after_tables p3.1 (section_part b.tables) (section_part d.tables) p3.2 p3.3 s.after_tables t.after_tables in
    let p5 = part_one (IsVec IsLimits) [] (vec_one IsLimits limits_one) 5 (6 ∷ 7 ∷ 8 ∷ 9 ∷ 12 ∷ 10 ∷ 11 ∷ []) refl refl refl m.memories n.memories b.after_tables d.after_tables b.after_memories d.after_memories p4.1 (section_part b.memories) (section_part d.memories) p4.2 p4.3 s.after_memories t.after_memories in
    let p6 = part_one (IsVec IsGlobal) [] (vec_one IsGlobal global_one) 6 (7 ∷ 8 ∷ 9 ∷ 12 ∷ 10 ∷ 11 ∷ []) refl refl refl m.globals n.globals b.after_memories d.after_memories b.after_globals d.after_globals p5.1 (section_part b.globals) (section_part d.globals) p5.2 p5.3 s.after_globals t.after_globals in
    let p7 = part_one (IsVec IsExport) [] (vec_one IsExport export_one) 7 (8 ∷ 9 ∷ 12 ∷ 10 ∷ 11 ∷ []) refl refl refl m.exports n.exports b.after_globals d.after_globals b.after_exports d.after_exports p6.1 (section_part b.exports) (section_part d.exports) p6.2 p6.3 s.after_exports t.after_exports in
    let p8 = part_one (IsSome) None (some_one) 8 (9 ∷ 12 ∷ 10 ∷ 11 ∷ []) refl refl refl m.start n.start b.after_exports d.after_exports b.after_start d.after_start p7.1 (number_part b.start) (number_part d.start) p7.2 p7.3 s.after_start t.after_start in
    let p9 = part_one (IsVec IsElement) [] (vec_one IsElement element_one) 9 (12 ∷ 10 ∷ 11 ∷ []) refl refl refl m.elements n.elements b.after_start d.after_start b.after_elements d.after_elements p8.1 (section_part b.elements) (section_part d.elements) p8.2 p8.3 s.after_elements t.after_elements in
    let p12 = part_one (IsSome) None (some_one) 12 (10 ∷ 11 ∷ []) refl refl refl b.data_count d.data_count b.after_elements d.after_elements b.after_data_count d.after_data_count p9.1 (number_part b.data_count_section) (number_part d.data_count_section) p9.2 p9.3 s.after_data_count t.after_data_count in
    let p10 = part_one (IsVec (IsSized IsFunctionBody)) [] (vec_one (IsSized IsFunctionBody) (sized_one IsFunctionBody body_one)) 10 (11 ∷ []) refl refl refl m.bodies n.bodies b.after_data_count d.after_data_count b.after_bodies d.after_bodies p12.1 (section_part b.bodies) (section_part d.bodies) p12.2 p12.3 s.after_bodies t.after_bodies in
    let p11 = part_one (IsVec IsSegment) [] (vec_one IsSegment segment_one) 11 [] refl refl refl m.segments n.segments b.after_bodies d.after_bodies b.after_segments d.after_segments p10.1 (section_part b.segments) (section_part d.segments) p10.2 p10.3 s.after_segments t.after_segments in
    same_module m n p1.0 p2.0 p3.0 p4.0 p5.0 p6.0 p7.0 p8.0 p9.0 p10.0 p11.0

-- ---- a module, or a fault

abbrev Found : List ℕ → Result WasmModule Fault → Type 0
Found bytes r = MatchResult r (λ m. IsModuleBytes bytes m × IsWithinReader m × ((n : WasmModule) → IsModuleBytes bytes n → m ≡ n)) (λ f. (n : WasmModule) → IsModuleBytes bytes n → ¬ IsWithinReader n)

pub module_or_fault : (bytes : List ℕ) → All (λ b. b < 256) bytes → Found bytes (read_module bytes)
module_or_fault bytes all = by (read_module bytes) refl
  where
    by : (r : Result WasmModule Fault) → read_module bytes ≡ r → Found bytes r
    by (Ok m) e = let h = spelled_as_read bytes m all e in (h.0, h.1, λ n b. one_module bytes m n h.0 b)
    by (Err f) e = λ n b w. let q : Err f ≡ Ok n = sym e ∙ reads_what_is_spelled bytes n b w in cc
