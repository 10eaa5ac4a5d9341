-- The places of an entry are read where the entry is.
use Rattle.std.proofs.Common.{◌≡◌, ℕ, zero, suc, ◌+◌, ◌≤◌, Bool, true, false, List, ◌++◌, drop, replicate, sym, ap, ◌∙◌, arith}
use Rattle.std.specs.Prelude.{Result, Ok, nat_le, ◌==◌, if◌then◌else◌}
use Rattle.std.proofs.lemmas.Bool.{leb-true, le-leb}
use Rattle.wasm_lang.specs.declared.fault.Fault.{Fault}
use Rattle.wasm_lang.specs.declared.fault.Row.{Row}
use Rattle.wasm_lang.specs.declared.fault.Row.TheVariants.{Limit, UnknownByte}
use Rattle.wasm_lang.specs.declared.types.ValType.{ValType}
use Rattle.wasm_lang.specs.declared.types.ImportKind.{ImportKind}
use Rattle.wasm_lang.specs.declared.types.ImportKind.TheVariants as imports
use Rattle.wasm_lang.specs.declared.types.ExportKind.{ExportKind}
use Rattle.wasm_lang.specs.Instructions.{Instruction}
use Rattle.wasm_lang.specs.Limits.{most_functions, most_globals, most_locals}
use Rattle.wasm_lang.specs.Reading.{Input, Field, ◌>>=◌, fault, expects, byte, u32, onto, count_field, val_type_field}
use Rattle.wasm_lang.specs.ReadingCode.{code_field}
use Rattle.wasm_lang.specs.ReadingModule.{table_field, memory_field, global_type_field, import_kind_field, export_kind_field, runs_field}
use Rattle.wasm_lang.proofs.Inversion.{bind_ok, expects_ok}
use Rattle.wasm_binary_entries.specs.Sized.{body_head}
use Rattle.wasm_binary_entries.specs.Places.{counted_place, import_places, export_place, segment_place, code_place, body_place}

-- ---- what was read within a limit is read within a wider one

free_if : {X : Type 0} {r s u v : Result X Fault} (t : Bool) (x : X) → (r ≡ Ok x → u ≡ Ok x) → (s ≡ Ok x → v ≡ Ok x) → (if t then r else s) ≡ Ok x → (if t then u else v) ≡ Ok x
free_if true x a b q = a q
free_if false x a b q = b q

free_expects : {X : Type 0} (c : Bool) (row : Row) (at : ℕ) (r : Result X Fault) (x : X) → (expects c row at >>= λ _. r) ≡ Ok x → r ≡ Ok x
free_expects true row at r x q = q
free_expects false row at r x q = cc

abbrev kind_by : (functions globals at b : ℕ) → Input → Field ImportKind
kind_by functions globals at b j =
    if b == 0x00 then (expects (nat_le (functions + 1) most_functions) Limit at >>= λ _. onto imports.Func (u32 j))
    else (if b == 0x01 then onto imports.Table (table_field j)
    else (if b == 0x02 then onto imports.Memory (memory_field j)
    else (if b == 0x03 then (expects (nat_le (globals + 1) most_globals) Limit at >>= λ _. onto imports.Global (global_type_field j))
    else fault UnknownByte at)))

kind_free : (functions globals at b : ℕ) (j : Input) (x : ImportKind × Input) → kind_by functions globals at b j ≡ Ok x → kind_by 0 0 at b j ≡ Ok x
kind_free functions globals at b j x q =
    free_if (b == 0x00) x (λ q. free_expects (nat_le (functions + 1) most_functions) Limit at (onto imports.Func (u32 j)) x q)
    (λ q. free_if (b == 0x01) x (λ q. q)
    (λ q. free_if (b == 0x02) x (λ q. q)
    (λ q. free_if (b == 0x03) x (λ q. free_expects (nat_le (globals + 1) most_globals) Limit at (onto imports.Global (global_type_field j)) x q) (λ q. q) q) q) q) q

import_kind_free : (functions globals : ℕ) (i : Input) (x : ImportKind × Input) → import_kind_field functions globals i ≡ Ok x → import_kind_field 0 0 i ≡ Ok x
import_kind_free functions globals i x q =
    let b = bind_ok (byte i) (λ b. kind_by functions globals i.at b.0 b.1) x q in
    ap (λ r. r >>= λ b. kind_by 0 0 i.at b.0 b.1) b.1 ∙ kind_free functions globals i.at b.0.0 b.0.1 x b.2

count_free : (used less : ℕ) (i : Input) (x : ℕ × Input) → less ≤ used → count_field used most_locals i ≡ Ok x → count_field less most_locals i ≡ Ok x
count_free used less i x le q =
    let n = bind_ok (u32 i) _ x q in
    let t = bind_ok (expects (nat_le (used + n.0.0) most_locals) Limit i.at) _ x n.2 in
    let fits : used + n.0.0 ≤ most_locals = leb-true (used + n.0.0) most_locals (expects_ok (nat_le (used + n.0.0) most_locals) Limit i.at t.0 t.1) in
    let also : nat_le (less + n.0.0) most_locals ≡ true = le-leb (less + n.0.0) most_locals (omega (arith, le, fits)) in
    ap (λ r. r >>= λ n. expects (nat_le (less + n.0) most_locals) Limit i.at >>= λ _. Ok n) n.1
    ∙ ap (λ c. expects c Limit i.at >>= λ _. Ok n.0) also
    ∙ t.2

runs_free : (n used less : ℕ) (i : Input) (x : List ValType × Input) → less ≤ used → runs_field used n i ≡ Ok x → runs_field less n i ≡ Ok x
runs_free zero used less i x le q = q
runs_free (suc n) used less i x le q =
    let k = bind_ok (count_field used most_locals i) _ x q in
    let t = bind_ok (val_type_field k.0.1) _ x k.2 in
    let ts = bind_ok (runs_field (used + k.0.0) n t.0.1) _ x t.2 in
    ap (λ r. r >>= λ k. val_type_field k.1 >>= λ t. runs_field (less + k.0) n t.1 >>= λ ts. Ok (replicate k.0 t.0 ++ ts.0, ts.1)) (count_free used less i k.0 le k.1)
    ∙ ap (λ r. r >>= λ t. runs_field (less + k.0.0) n t.1 >>= λ ts. Ok (replicate k.0.0 t.0 ++ ts.0, ts.1)) t.1
    ∙ ap (λ r. r >>= λ ts. Ok (replicate k.0.0 t.0.0 ++ ts.0, ts.1)) (runs_free n (used + k.0.0) (less + k.0.0) t.0.1 ts.0 (omega (arith, le)) ts.1)
    ∙ ts.2

-- ---- entries

pub counted_at : (i j next : Input) (n : ℕ) → u32 i ≡ Ok (n, j) → next ≡ record { at = j.at + n; bytes = drop n j.bytes } → counted_place i ≡ Ok (j.at, next)
counted_at i j next n e is = ap (λ r. r >>= λ n. Ok (n.1.at, record { at = n.1.at + n.0; bytes = drop n.0 n.1.bytes })) e ∙ ap (λ next. Ok (j.at, next)) (sym is)

pub import_at : (functions globals : ℕ) (i j k l : Input) (p q : ℕ) (kind : ImportKind) → counted_place i ≡ Ok (p, j) → counted_place j ≡ Ok (q, k)
    → import_kind_field functions globals k ≡ Ok (kind, l) → import_places i ≡ Ok ((p, q), l)
import_at functions globals i j k l p q kind e f g =
    ap (λ r. r >>= λ m. counted_place m.1 >>= λ n. import_kind_field 0 0 n.1 >>= λ k. Ok ((m.0, n.0), k.1)) e
    ∙ ap (λ r. r >>= λ n. import_kind_field 0 0 n.1 >>= λ k. Ok ((p, n.0), k.1)) f
    ∙ ap (λ r. r >>= λ k. Ok ((p, q), k.1)) (import_kind_free functions globals k (kind, l) g)

pub export_at : (i j k : Input) (p : ℕ) (kind : ExportKind) → counted_place i ≡ Ok (p, j) → export_kind_field j ≡ Ok (kind, k) → export_place i ≡ Ok (p, k)
export_at i j k p kind e f =
    ap (λ r. r >>= λ n. export_kind_field n.1 >>= λ k. Ok (n.0, k.1)) e ∙ ap (λ r. r >>= λ k. Ok (p, k.1)) f

pub segment_at : (i j k l : Input) (m : ℕ) (offset : List Instruction) (p : ℕ) → u32 i ≡ Ok (m, j) → code_field j ≡ Ok (offset, k) → counted_place k ≡ Ok (p, l)
    → segment_place i ≡ Ok (p, l)
segment_at i j k l m offset p e f g =
    ap (λ r. r >>= λ m. code_field m.1 >>= λ offset. counted_place offset.1) e ∙ ap (λ r. r >>= λ offset. counted_place offset.1) f ∙ g

pub code_at : (params : ℕ) (i j k l : Input) (n : ℕ) (locals : List ValType) (code : List Instruction) → u32 i ≡ Ok (n, j) → runs_field params n j ≡ Ok (locals, k)
    → code_field k ≡ Ok (code, l) → code_place i ≡ Ok (k.at, l)
code_at params i j k l n locals code e f g =
    ap (λ r. r >>= λ n. runs_field 0 n.0 n.1 >>= λ locals. code_field locals.1 >>= λ code. Ok (locals.1.at, code.1)) e
    ∙ ap (λ r. r >>= λ locals. code_field locals.1 >>= λ code. Ok (locals.1.at, code.1)) (runs_free n params 0 j (locals, k) (omega arith) f)
    ∙ ap (λ r. r >>= λ code. Ok (k.at, code.1)) g

pub body_at : (i content after rest : Input) (p : ℕ) → body_head i ≡ Ok (content, after) → code_place content ≡ Ok (p, rest) → body_place i ≡ Ok (p, after)
body_at i content after rest p e f =
    ap (λ r. r >>= λ body. code_place body.0 >>= λ code. Ok (code.0, body.1)) e ∙ ap (λ r. r >>= λ code. Ok (code.0, after)) f

-- ---- kinds of imports by their bytes

module _ (functions globals : ℕ) (i j : Input) (b : ℕ) (first : byte i ≡ Ok (b, j)) where
  kind_of_byte : import_kind_field functions globals i ≡ kind_by functions globals i.at b j
  kind_of_byte = ap (λ r. r >>= λ b. kind_by functions globals i.at b.0 b.1) first

  pub function_at : b ≡ 0 → nat_le (functions + 1) most_functions ≡ true → import_kind_field functions globals i ≡ onto imports.Func (u32 j)
  function_at h fits = kind_of_byte ∙ ap (λ b. kind_by functions globals i.at b j) h ∙ ap (λ t. expects t Limit i.at >>= λ _. onto imports.Func (u32 j)) fits

  pub table_at : b ≡ 1 → import_kind_field functions globals i ≡ onto imports.Table (table_field j)
  table_at h = kind_of_byte ∙ ap (λ b. kind_by functions globals i.at b j) h

  pub memory_at : b ≡ 2 → import_kind_field functions globals i ≡ onto imports.Memory (memory_field j)
  memory_at h = kind_of_byte ∙ ap (λ b. kind_by functions globals i.at b j) h

  pub global_at : b ≡ 3 → nat_le (globals + 1) most_globals ≡ true → import_kind_field functions globals i ≡ onto imports.Global (global_type_field j)
  global_at h fits = kind_of_byte ∙ ap (λ b. kind_by functions globals i.at b j) h ∙ ap (λ t. expects t Limit i.at >>= λ _. onto imports.Global (global_type_field j)) fits
