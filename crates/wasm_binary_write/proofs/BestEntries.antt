-- The shortest spellings of what sections hold.
use Rattle.std.proofs.Common.{ℕ, List, ◌++◌, length, arith}
use Rattle.wasm_lang.specs.Numbers.{IsU32}
use Rattle.wasm_lang.specs.Grammar.{IsVec, IsBytes, IsName, IsCode, IsGlobalType, IsImportKind, function_import, table_import, memory_import, global_import, IsImport, an_import, IsGlobal, a_global, IsExportKind, function_export, table_export, memory_export, global_export, IsExport, an_export, IsElement, an_element, IsSegment, a_segment}
use Rattle.wasm_binary_write.specs.Spelling.{unsigned, items, vector, sized, import_kind, imported, global, export_kind, exported, element, segment}
use Rattle.wasm_binary_write.specs.Spelling as own
use Rattle.wasm_binary_write.proofs.Best.{bytes_append, Best, AreBest, before, two_shorter, best_u32, best_vec, best_bytes, best_name}
use Rattle.wasm_binary_write.proofs.BestCode.{best_limits, best_table, best_global_type, best_code}

best_import_kind : AreBest IsImportKind import_kind
best_import_kind k xs ys bytes (function_import {t = t} {xs = ws} h) =
    let a = best_u32 t ws ys bytes.1 h in
    let s = a.shorter in
    record { spells = λ us. function_import (a.spells us); shorter = omega arith; bytes = (omega arith, a.bytes); rest = a.rest }
best_import_kind k xs ys bytes (table_import {l = l} {xs = ws} h) =
    let a = best_table l ws ys bytes.1 h in
    let s = a.shorter in
    record { spells = λ us. table_import (a.spells us); shorter = omega arith; bytes = (omega arith, a.bytes); rest = a.rest }
best_import_kind k xs ys bytes (memory_import {l = l} {xs = ws} h) =
    let a = best_limits l ws ys bytes.1 h in
    let s = a.shorter in
    record { spells = λ us. memory_import (a.spells us); shorter = omega arith; bytes = (omega arith, a.bytes); rest = a.rest }
best_import_kind k xs ys bytes (global_import {t = t} {xs = ws} h) =
    let a = best_global_type t ws ys bytes.1 h in
    let s = a.shorter in
    record { spells = λ us. global_import (a.spells us); shorter = omega arith; bytes = (omega arith, a.bytes); rest = a.rest }

best_export_kind : AreBest IsExportKind export_kind
best_export_kind k xs ys bytes (function_export {n = n} {xs = ws} h) =
    let a = best_u32 n ws ys bytes.1 h in
    let s = a.shorter in
    record { spells = λ us. function_export (a.spells us); shorter = omega arith; bytes = (omega arith, a.bytes); rest = a.rest }
best_export_kind k xs ys bytes (table_export {n = n} {xs = ws} h) =
    let a = best_u32 n ws ys bytes.1 h in
    let s = a.shorter in
    record { spells = λ us. table_export (a.spells us); shorter = omega arith; bytes = (omega arith, a.bytes); rest = a.rest }
best_export_kind k xs ys bytes (memory_export {n = n} {xs = ws} h) =
    let a = best_u32 n ws ys bytes.1 h in
    let s = a.shorter in
    record { spells = λ us. memory_export (a.spells us); shorter = omega arith; bytes = (omega arith, a.bytes); rest = a.rest }
best_export_kind k xs ys bytes (global_export {n = n} {xs = ws} h) =
    let a = best_u32 n ws ys bytes.1 h in
    let s = a.shorter in
    record { spells = λ us. global_export (a.spells us); shorter = omega arith; bytes = (omega arith, a.bytes); rest = a.rest }

-- two parts one after another
module _ (P Q : List ℕ → List ℕ → Type 0) (own next xs ys zs : List ℕ) (a : Best P own xs ys) (b : Best Q next ys zs) where
  pub both_spell : (R : List ℕ → List ℕ → Type 0) → ((us : List ℕ) → P ((own ++ next) ++ us) (next ++ us) → Q (next ++ us) us → R ((own ++ next) ++ us) us) → Best R (own ++ next) xs zs
  both_spell R f = record {
    spells = λ us. f us (before P own next us xs ys a) (b.spells us);
    shorter = two_shorter own next (length xs) (length ys) (length zs) a.shorter b.shorter;
    bytes = bytes_append own next a.bytes b.bytes;
    rest = b.rest;
  }

-- a part, and two more
abbrev Then : (P Q : List ℕ → List ℕ → Type 0) → List ℕ → List ℕ → Type 0
Then P Q xs zs = (ys : List ℕ) × P xs ys × Q ys zs

both_then : (P Q : List ℕ → List ℕ → Type 0) (own next xs ys zs : List ℕ) → Best P own xs ys → Best Q next ys zs → Best (Then P Q) (own ++ next) xs zs
both_then P Q own next xs ys zs a b = both_spell P Q own next xs ys zs a b (Then P Q) (λ us p q. (next ++ us, p, q))

pub best_import : AreBest IsImport imported
best_import i xs ws bytes (an_import {m = m} {n = n} {k = k} {ys = ys} {zs = zs} p q r) =
    let a = best_name m xs ys bytes p in
    let b = best_name n ys zs a.rest q in
    let c = best_import_kind k zs ws b.rest r in
    let d = both_then (IsName n) (IsImportKind k) (sized n) (import_kind k) ys zs ws b c in
    both_spell (IsName m) (Then (IsName n) (IsImportKind k)) (sized m) (sized n ++ import_kind k) xs ys ws a d (IsImport i) (λ us p t. an_import p t.1 t.2)

pub best_global : AreBest IsGlobal global
best_global g xs zs bytes (a_global {t = t} {code = code} {ys = ys} p q) =
    let a = best_global_type t xs ys bytes p in
    let b = best_code code ys zs a.rest q in
    both_spell (IsGlobalType t) (IsCode code) (own.global_type t) (items own.instruction code) xs ys zs a b (IsGlobal g) (λ us p q. a_global p q)

pub best_export : AreBest IsExport exported
best_export e xs zs bytes (an_export {n = n} {k = k} {ys = ys} p q) =
    let a = best_name n xs ys bytes p in
    let b = best_export_kind k ys zs a.rest q in
    both_spell (IsName n) (IsExportKind k) (sized n) (export_kind k) xs ys zs a b (IsExport e) (λ us p q. an_export p q)

pub best_element : AreBest IsElement element
best_element e xs ws bytes (an_element {t = t} {code = code} {fs = fs} {ys = ys} {zs = zs} p q r) =
    let a = best_u32 t xs ys bytes p in
    let b = best_code code ys zs a.rest q in
    let c = best_vec IsU32 unsigned best_u32 fs zs ws b.rest r in
    let d = both_then (IsCode code) (IsVec IsU32 fs) (items own.instruction code) (vector unsigned fs) ys zs ws b c in
    both_spell (IsU32 t) (Then (IsCode code) (IsVec IsU32 fs)) (unsigned t) (items own.instruction code ++ vector unsigned fs) xs ys ws a d (IsElement e) (λ us p t. an_element p t.1 t.2)

pub best_segment : AreBest IsSegment segment
best_segment s xs ws bytes (a_segment {m = m} {code = code} {bytes = bs} {ys = ys} {zs = zs} p q r) =
    let a = best_u32 m xs ys bytes p in
    let b = best_code code ys zs a.rest q in
    let c = best_bytes bs zs ws b.rest r in
    let d = both_then (IsCode code) (IsBytes bs) (items own.instruction code) (sized bs) ys zs ws b c in
    both_spell (IsU32 m) (Then (IsCode code) (IsBytes bs)) (unsigned m) (items own.instruction code ++ sized bs) xs ys ws a d (IsSegment s) (λ us p t. a_segment p t.1 t.2)
