-- What sections hold is spelled.
use Rattle.std.proofs.Common.{◌≡◌, ℕ, zero, suc, ◌+◌, ◌^◌, ◌<◌, ◌≤◌, Bool, true, false, List, [], ◌∷◌, ◌++◌, length, replicate, refl, sym, ap, subst, ◌∙◌, arith, length-append}
use Rattle.std.specs.Str.{IsUtf8}
use Rattle.std.proofs.lemmas.Bool.{false≢true}
use Rattle.wasm_lang.specs.declared.types.ValType.{ValType}
use Rattle.wasm_lang.specs.declared.types.ValType.TheVariants.{I32, I64}
use Rattle.wasm_lang.specs.declared.types.ImportKind.{ImportKind}
use Rattle.wasm_lang.specs.declared.types.ImportKind.TheVariants as imports
use Rattle.wasm_lang.specs.declared.types.ExportKind.{ExportKind}
use Rattle.wasm_lang.specs.declared.types.ExportKind.TheVariants as exports
use Rattle.wasm_lang.specs.Modules.{Imported, Exported}
use Rattle.wasm_lang.specs.Numbers.{IsU32}
use Rattle.wasm_lang.specs.Shape.{IsShapedCode}
use Rattle.wasm_lang.specs.Grammar.{Items, no_item, item, IsVec, IsBytes, IsName, IsValType, IsCode, IsGlobalType, IsTable, IsLimits, IsImportKind, function_import, table_import, memory_import, global_import, IsImport, an_import, IsGlobal, a_global, IsExportKind, function_export, table_export, memory_export, global_export, IsExport, an_export, IsElement, an_element, locals_of, IsRun, a_run, IsFunctionBody, a_body, IsSegment, a_segment}
use Rattle.wasm_binary_write.specs.Spelling.{unsigned, items, vector, sized, value_type, table, limits, import_kind, imported, global, export_kind, exported, element, same_type, runs_from, runs, run, body, segment}
use Rattle.wasm_binary_write.specs.Spelling as own
use Rattle.wasm_laws_write.specs.Fits.{ImportFits, ExportFits, ElementFits, SegmentFits, BodyFits}
use Rattle.wasm_laws_write.proofs.Numbers.{Spelled, Writes, two, behind_byte, u32_spelled}
use Rattle.wasm_laws_write.proofs.Parts.{NeverEmpty, some_number, some_front, some_sized, some_value, bytes_from, bytes_spelled, name_spelled, value_spelled, limits_spelled, table_spelled, global_type_spelled, numbers_spelled, CodeFits, code_spelled}

-- ---- imports and exports

import_kind_spelled : (k : ImportKind) → ImportFits k → Spelled (IsImportKind k) (import_kind k)
import_kind_spelled (imports.Func t) fit = behind_byte (IsU32 t) (IsImportKind (imports.Func t)) 0x00 (unsigned t) (omega arith) (u32_spelled t fit) (λ us s. function_import s)
import_kind_spelled (imports.Table l) fit = behind_byte (IsTable l) (IsImportKind (imports.Table l)) 0x01 (table l) (omega arith) (table_spelled l fit) (λ us s. table_import s)
import_kind_spelled (imports.Memory l) fit = behind_byte (IsLimits l) (IsImportKind (imports.Memory l)) 0x02 (limits l) (omega arith) (limits_spelled l fit) (λ us s. memory_import s)
import_kind_spelled (imports.Global g) fit = behind_byte (IsGlobalType g) (IsImportKind (imports.Global g)) 0x03 (own.global_type g) (omega arith) (global_type_spelled g) (λ us s. global_import s)

export_kind_spelled : (k : ExportKind) → ExportFits k → Spelled (IsExportKind k) (export_kind k)
export_kind_spelled (exports.Func n) fit = behind_byte (IsU32 n) (IsExportKind (exports.Func n)) 0x00 (unsigned n) (omega arith) (u32_spelled n fit) (λ us s. function_export s)
export_kind_spelled (exports.Table n) fit = behind_byte (IsU32 n) (IsExportKind (exports.Table n)) 0x01 (unsigned n) (omega arith) (u32_spelled n fit) (λ us s. table_export s)
export_kind_spelled (exports.Memory n) fit = behind_byte (IsU32 n) (IsExportKind (exports.Memory n)) 0x02 (unsigned n) (omega arith) (u32_spelled n fit) (λ us s. memory_export s)
export_kind_spelled (exports.Global n) fit = behind_byte (IsU32 n) (IsExportKind (exports.Global n)) 0x03 (unsigned n) (omega arith) (u32_spelled n fit) (λ us s. global_export s)

-- a part, and then another
abbrev Then : (P Q : List ℕ → List ℕ → Type 0) → List ℕ → List ℕ → Type 0
Then P Q xs zs = (ys : List ℕ) × P xs ys × Q ys zs

both_then : (P Q : List ℕ → List ℕ → Type 0) (a b : List ℕ) → Spelled P a → Spelled Q b → Spelled (Then P Q) (a ++ b)
both_then P Q a b p q = two P Q (Then P Q) a b p q (λ us p q. (b ++ us, p, q))

abbrev pub ImportIsNamed : Imported → Type 0
ImportIsNamed i = (IsUtf8 i.module_name × IsUtf8 i.name) × ImportFits i.kind

pub import_spelled : Writes IsImport imported ImportIsNamed
import_spelled i fit h =
    let rest = sized i.name ++ import_kind i.kind in
    let parts = length-append (sized i.module_name) rest in
    let more = length-append (sized i.name) (import_kind i.kind) in
    let a = name_spelled i.module_name fit.0.0 (omega arith) in
    let b = name_spelled i.name fit.0.1 (omega arith) in
    let d = both_then (IsName i.name) (IsImportKind i.kind) (sized i.name) (import_kind i.kind) b (import_kind_spelled i.kind fit.1) in
    two (IsName i.module_name) (Then (IsName i.name) (IsImportKind i.kind)) (IsImport i) (sized i.module_name) rest a d (λ us p t. an_import p t.1 t.2)

pub some_import : NeverEmpty imported
some_import i = some_front (sized i.module_name) (sized i.name ++ import_kind i.kind) (some_sized i.module_name)

abbrev pub ExportIsNamed : Exported → Type 0
ExportIsNamed e = IsUtf8 e.name × ExportFits e.kind

pub export_spelled : Writes IsExport exported ExportIsNamed
export_spelled e fit h =
    let parts = length-append (sized e.name) (export_kind e.kind) in
    two (IsName e.name) (IsExportKind e.kind) (IsExport e) (sized e.name) (export_kind e.kind) (name_spelled e.name fit.0 (omega arith)) (export_kind_spelled e.kind fit.1) (λ us p q. an_export p q)

pub some_export : NeverEmpty exported
some_export e = some_front (sized e.name) (export_kind e.kind) (some_sized e.name)

-- ---- globals and segments

pub global_spelled : Writes IsGlobal global (λ g. CodeFits g.init)
global_spelled g fit h =
    let parts = length-append (own.global_type g.kind) (items own.instruction g.init) in
    two (IsGlobalType g.kind) (IsCode g.init) (IsGlobal g) (own.global_type g.kind) (items own.instruction g.init) (global_type_spelled g.kind) (code_spelled g.init fit (omega arith)) (λ us p q. a_global p q)

pub some_global : NeverEmpty global
some_global g =
    some_front (own.global_type g.kind) (items own.instruction g.init) (some_front (value_type g.kind.kind) (own.mutability g.kind.mutable) (some_value g.kind.kind))

pub element_spelled : Writes IsElement element (λ e. IsShapedCode e.offset × ElementFits e)
element_spelled e fit h =
    let code = items own.instruction e.offset in
    let fs = vector unsigned e.functions in
    let parts = length-append (unsigned e.table) (code ++ fs) in
    let more = length-append code fs in
    let c = code_spelled e.offset (fit.0, fit.1.offset) (omega arith) in
    let f = numbers_spelled e.functions fit.1.functions (omega arith) in
    two (IsU32 e.table) (Then (IsCode e.offset) (IsVec IsU32 e.functions)) (IsElement e) (unsigned e.table) (code ++ fs) (u32_spelled e.table fit.1.table)
    (both_then (IsCode e.offset) (IsVec IsU32 e.functions) code fs c f) (λ us p t. an_element p t.1 t.2)

pub some_element : NeverEmpty element
some_element e = some_front (unsigned e.table) (items own.instruction e.offset ++ vector unsigned e.functions) (some_number e.table)

pub segment_spelled : Writes IsSegment segment (λ s. IsShapedCode s.offset × SegmentFits s)
segment_spelled s fit h =
    let code = items own.instruction s.offset in
    let parts = length-append (unsigned s.memory) (code ++ sized s.bytes) in
    let more = length-append code (sized s.bytes) in
    let c = code_spelled s.offset (fit.0, fit.1.offset) (omega arith) in
    let b = bytes_spelled s.bytes (bytes_from s.bytes fit.1.bytes) (omega arith) in
    two (IsU32 s.memory) (Then (IsCode s.offset) (IsBytes s.bytes)) (IsSegment s) (unsigned s.memory) (code ++ sized s.bytes) (u32_spelled s.memory fit.1.memory)
    (both_then (IsCode s.offset) (IsBytes s.bytes) code (sized s.bytes) c b) (λ us p t. a_segment p t.1 t.2)

pub some_segment : NeverEmpty segment
some_segment s = some_front (unsigned s.memory) (items own.instruction s.offset ++ sized s.bytes) (some_number s.memory)

-- ---- locals, in the longest runs of one type

same_is : (t u : ValType) → same_type t u ≡ true → t ≡ u
same_is I32 I32 e = refl
same_is I32 I64 e = absurd (false≢true e)
same_is I64 I32 e = absurd (false≢true e)
same_is I64 I64 e = refl

same_self : (t : ValType) → same_type t t ≡ true
same_self I32 = refl
same_self I64 = refl

pub on_same : (n : ℕ) (t : ValType) (us : List ValType) → runs_from n t (t ∷ us) ≡ runs_from (n + 1) t us
on_same n t us = rw same_self refl

on_other : (n : ℕ) (t u : ValType) (us : List ValType) → same_type t u ≡ false → runs_from n t (u ∷ us) ≡ (n, t) ∷ runs_from 1 u us
on_other n t u us e = rw e refl

run_more : (n : ℕ) (t : ValType) (us : List ValType) → replicate (n + 1) t ++ us ≡ replicate n t ++ t ∷ us
run_more n t us = ap (λ k. replicate k t ++ us) (let e : n + 1 ≡ suc n = omega arith in e) ∙ by n
  where
    by : (n : ℕ) → replicate (suc n) t ++ us ≡ replicate n t ++ t ∷ us
    by zero = refl
    by (suc n) = ap (λ l. t ∷ l) (by n)

locals_from : (us : List ValType) (n : ℕ) (t : ValType) → locals_of (runs_from n t us) ≡ replicate n t ++ us
locals_from [] n t = refl
locals_from (u ∷ us) n t = by (same_type t u) refl (locals_from us)
  where
    by : (s : Bool) → same_type t u ≡ s → ((n : ℕ) (t : ValType) → locals_of (runs_from n t us) ≡ replicate n t ++ us) → locals_of (runs_from n t (u ∷ us)) ≡ replicate n t ++ u ∷ us
    by true e below =
        subst (λ u. locals_of (runs_from n t (u ∷ us)) ≡ replicate n t ++ u ∷ us) (same_is t u e)
        (ap locals_of (on_same n t us) ∙ below (n + 1) t ∙ run_more n t us)
    by false e below = ap locals_of (on_other n t u us e) ∙ ap (λ l. replicate n t ++ l) (below 1 u)

locals_again : (us : List ValType) → locals_of (runs us) ≡ us
locals_again [] = refl
locals_again (u ∷ us) = locals_from us 1 u

run_spelled : (n : ℕ) (t : ValType) → n < 2 ^ 32 → Spelled (IsRun (n, t)) (run (n, t))
run_spelled n t h = two (IsU32 n) (IsValType t) (IsRun (n, t)) (unsigned n) (value_type t) (u32_spelled n h) (value_spelled t) (λ us p q. a_run p q)

one_more : (n : ℕ) (t : ValType) (rs : List (ℕ × ValType)) → n < 2 ^ 32 → Spelled (Items IsRun rs) (items run rs) → Spelled (Items IsRun ((n, t) ∷ rs)) (items run ((n, t) ∷ rs))
one_more n t rs h s = two (IsRun (n, t)) (Items IsRun rs) (Items IsRun ((n, t) ∷ rs)) (run (n, t)) (items run rs) (run_spelled n t h) s (λ us p q. item p q)

abbrev RunsSpelled : List (ℕ × ValType) → Type 0
RunsSpelled rs = Spelled (Items IsRun rs) (items run rs)

no_runs : RunsSpelled []
no_runs = record { spells = λ us. no_item; bytes = tt }

spelled_from : (us : List ValType) (n : ℕ) (t : ValType) → n + length us < 2 ^ 32 → RunsSpelled (runs_from n t us)
spelled_from [] n t h = one_more n t [] (omega arith) no_runs
spelled_from (u ∷ us) n t h = by (same_type t u) refl (spelled_from us)
  where
    by : (s : Bool) → same_type t u ≡ s → ((n : ℕ) (t : ValType) → n + length us < 2 ^ 32 → RunsSpelled (runs_from n t us)) → RunsSpelled (runs_from n t (u ∷ us))
    by true e below = subst (λ u. RunsSpelled (runs_from n t (u ∷ us))) (same_is t u e) (subst RunsSpelled (sym (on_same n t us)) (below (n + 1) t (omega arith)))
    by false e below = subst RunsSpelled (sym (on_other n t u us e)) (one_more n t (runs_from 1 u us) (omega arith) (below 1 u (omega arith)))

runs_spelled : (us : List ValType) → length us < 2 ^ 32 → RunsSpelled (runs us)
runs_spelled [] h = no_runs
runs_spelled (u ∷ us) h = spelled_from us 1 u (omega arith)

few_from : (us : List ValType) (n : ℕ) (t : ValType) → length (runs_from n t us) ≤ 1 + length us
few_from [] n t = omega arith
few_from (u ∷ us) n t = by (same_type t u) refl (few_from us)
  where
    by : (s : Bool) → same_type t u ≡ s → ((n : ℕ) (t : ValType) → length (runs_from n t us) ≤ 1 + length us) → length (runs_from n t (u ∷ us)) ≤ 1 + length (u ∷ us)
    by true e below = subst (λ u. length (runs_from n t (u ∷ us)) ≤ 1 + length (u ∷ us)) (same_is t u e) (omega (arith, ap length (on_same n t us), below (n + 1) t))
    by false e below = omega (arith, ap length (on_other n t u us e), below 1 u)

few_runs : (us : List ValType) → length (runs us) ≤ length us
few_runs [] = omega arith
few_runs (u ∷ us) = omega (arith, few_from us 1 u)

locals_spelled : (us : List ValType) → length us < 2 ^ 32 → Spelled (IsVec IsRun (runs us)) (vector run (runs us))
locals_spelled us h =
    let few = few_runs us in
    two (IsU32 (length (runs us))) (Items IsRun (runs us)) (IsVec IsRun (runs us)) (unsigned (length (runs us))) (items run (runs us)) (u32_spelled (length (runs us)) (omega arith)) (runs_spelled us h)
    (λ us p q. record { after_count = _; count = p; items = q })

pub body_spelled : Writes IsFunctionBody body (λ b. IsShapedCode b.code × BodyFits b)
body_spelled b fit h =
    let locals = vector run (runs b.locals) in
    let code = items own.instruction b.code in
    let parts = length-append locals code in
    let again = locals_again b.locals in
    two (IsVec IsRun (runs b.locals)) (IsCode b.code) (IsFunctionBody b) locals code (locals_spelled b.locals fit.1.locals) (code_spelled b.code (fit.0, fit.1.code) (omega arith))
    (λ us p q. subst (λ ls. IsFunctionBody (record { locals = ls; code = b.code }) ((locals ++ code) ++ us) us) again
    (a_body p q (subst (λ ls. length ls < 2 ^ 32) (sym again) fit.1.locals)))
