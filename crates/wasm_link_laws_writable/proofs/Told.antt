-- What bytes tell of the numbers of what they spell.
use Rattle.std.proofs.Common.{◌≡◌, ℕ, ◌+◌, ◌-◌, ◌*◌, ◌^◌, ◌<◌, ◌≤◌, List, [], ◌∷◌, ◌++◌, length, Option, Some, None, refl, sym, ap, subst, ◌∙◌, arith, length-append}
use Rattle.std.specs.Prelude.{All}
use Rattle.std.specs.List.{AllByRecursion}
use Rattle.std.proofs.lemmas.Nat.{pow-add}
use Rattle.std.proofs.lemmas.List.Elements.{All-from_recursion}
use Rattle.wasm_lang.specs.declared.types.ValType.{ValType}
use Rattle.wasm_lang.specs.Instructions.{local_get, local_set, local_tee, global_get, global_set, load, store, memory_size, memory_copy, memory_fill, const32, const64, Instruction, br, br_if, br_table, call, call_indirect, plain}
use Rattle.wasm_lang.specs.Modules.{Imported, GlobalEntry, ElementSegment, DataSegment, FunctionBody, WasmModule}
use Rattle.wasm_lang.specs.Numbers.{IsUnsigned, last_unsigned, more_unsigned, IsInteger, last_positive, last_negative, more_integer, IsU32}
use Rattle.wasm_lang.specs.Grammar.{Spelling, Items, no_item, item, IsVec, IsBytes, IsName, IsSized, IsCustoms, no_custom, custom, IsSection, no_section, section, IsNumberSection, no_number, number, IsLimits, only_min, min_and_max, IsTable, a_table, IsMemoryImmediate, ArePlainImmediates, AreImmediates, IsInstruction, instruction, IsCode, IsFunctionType, IsImportKind, function_import, table_import, memory_import, global_import, IsImport, an_import, IsGlobal, a_global, IsExport, IsElement, an_element, IsValType, IsRun, a_run, IsFunctionBody, a_body, IsSegment, a_segment, header, IsModuleBytes}
use Rattle.wasm_binary_write.specs.Spelling.{unsigned, items, value_type, function_type, run, imported, table, limits, global, exported, element, body, segment, sized}
use Rattle.wasm_binary_write.specs.Spelling as own
use Rattle.wasm_binary_write.proofs.Best.{AreBytes, bytes_split, AreBest, sevens, best_u32, best_vec, best_bytes, best_name, best_sized}
use Rattle.wasm_binary_write.proofs.BestCode.{best_val_type, best_function_type, best_limits, best_table, best_global_type, best_instruction, best_code}
use Rattle.wasm_binary_write.proofs.BestEntries.{both_spell, best_import, best_global, best_export, best_element, best_segment}
use Rattle.wasm_binary_write.proofs.Locals.{best_body}
use Rattle.wasm_laws_write.specs.Fits.{FitsU32, PlainFits, InstructionFits, LimitsFit, ImportFits, SegmentFits, BodyFits}
use Rattle.wasm_laws_write.proofs.Parts.{bytes_from}

-- ---- numbers

halves : (bits : ℕ) → 0 < bits → 2 ^ bits ≡ 2 * 2 ^ (bits - 1)
halves bits h = let e : bits ≡ 1 + (bits - 1) = omega arith in ap (λ n. 2 ^ n) e ∙ pow-add 2 1 (bits - 1)

unsigned_below : (bits n : ℕ) (xs ys : List ℕ) → AreBytes xs → IsUnsigned bits n xs ys → n < 2 ^ bits
unsigned_below bits n xs ys bytes (last_unsigned {b = b} h l) = l
unsigned_below bits n xs ys bytes (more_unsigned {b = b} {high = high} {xs = bs} h l r) =
    let byte : b < 256 = bytes.0 in
    let below = unsigned_below (bits - 7) high bs ys bytes.1 r in
    let e = sevens bits (bits - 7) (omega arith) in
    omega arith

word_below : (bits n : ℕ) (xs ys : List ℕ) → 0 < bits → AreBytes xs → IsInteger bits n xs ys → n < 2 ^ bits
word_below bits n xs ys p bytes (last_positive {b = b} h l) = let e = halves bits p in omega arith
word_below bits n xs ys p bytes (last_negative {b = b} h k l) = let e = halves bits p in omega arith
word_below bits n xs ys p bytes (more_integer {b = b} {high = high} {xs = bs} h l r) =
    let byte : b < 256 = bytes.0 in
    let below = word_below (bits - 7) high bs ys (omega arith) bytes.1 r in
    let e = sevens bits (bits - 7) (omega arith) in
    omega arith

-- ---- items and vectors

-- what holds of each value that bytes spell
abbrev Tells : {X : Type 0} → Spelling X → (X → Type 0) → Type 0
Tells {X = X} P Q = (v : X) (xs ys : List ℕ) → AreBytes xs → P v xs ys → Q v

items_told : {X : Type 0} (P : Spelling X) (f : X → List ℕ) (Q : X → Type 0) → AreBest P f → Tells P Q → (vs : List X) (xs ys : List ℕ) → AreBytes xs → Items P vs xs ys → AllByRecursion Q vs
items_told P f Q best tells vs xs ys bytes no_item = tt
items_told P f Q best tells vs xs zs bytes (item {v = v} {vs = ws} {ys = ys} h hs) = (tells v xs ys bytes h, items_told P f Q best tells ws ys zs ((best v xs ys bytes h).rest) hs)

vec_told : {X : Type 0} (P : Spelling X) (f : X → List ℕ) (Q : X → Type 0) → AreBest P f → Tells P Q → (vs : List X) (xs ys : List ℕ) → AreBytes xs → IsVec P vs xs ys → AllByRecursion Q vs
vec_told P f Q best tells vs xs ys bytes h = items_told P f Q best tells vs h.after_count ys ((best_u32 (length vs) xs h.after_count bytes h.count).rest) h.items

sized_told : {X : Type 0} (P : Spelling X) (Q : X → Type 0) → Tells P Q → Tells (IsSized P) Q
sized_told P Q tells v xs ys bytes h =
    let after = (best_u32 (length h.content) xs h.after_size bytes h.size).rest in
    let s = bytes_split h.content ys (subst AreBytes h.stands after) in
    tells v h.content [] s.0 h.is

-- ---- instructions

u32_told : Tells IsU32 FitsU32
u32_told n xs ys bytes h = unsigned_below 32 n xs ys bytes h

access_told : (align offset : ℕ) (xs zs : List ℕ) → AreBytes xs → IsMemoryImmediate align offset xs zs → FitsU32 align × FitsU32 offset
access_told align offset xs zs bytes h = (u32_told align xs h.0 bytes h.1, u32_told offset h.0 zs ((best_u32 align xs h.0 bytes h.1).rest) h.2)

plain_told : Tells ArePlainImmediates PlainFits
plain_told (local_get x) xs ys bytes h = u32_told x xs ys bytes h
plain_told (local_set x) xs ys bytes h = u32_told x xs ys bytes h
plain_told (local_tee x) xs ys bytes h = u32_told x xs ys bytes h
plain_told (global_get x) xs ys bytes h = u32_told x xs ys bytes h
plain_told (global_set x) xs ys bytes h = u32_told x xs ys bytes h
plain_told (load op align offset) xs ys bytes h = access_told align offset xs ys bytes h
plain_told (store op align offset) xs ys bytes h = access_told align offset xs ys bytes h
plain_told memory_size xs ys bytes h = tt
plain_told memory_copy xs ys bytes h = tt
plain_told memory_fill xs ys bytes h = tt
plain_told (const32 word) xs ys bytes h = word_below 32 word xs ys (omega arith) bytes h
plain_told (const64 word) xs ys bytes h = word_below 64 word xs ys (omega arith) bytes h
plain_told p xs ys bytes h = tt

branches_told : (ls : List ℕ) (l : ℕ) (xs zs : List ℕ) → AreBytes xs → AreImmediates (br_table ls l) xs zs → All FitsU32 ls × FitsU32 l
branches_told ls l xs zs bytes h = (
  All-from_recursion FitsU32 ls (vec_told IsU32 unsigned FitsU32 best_u32 u32_told ls xs h.0 bytes h.1),
  u32_told l h.0 zs ((best_vec IsU32 unsigned best_u32 ls xs h.0 bytes h.1).rest) h.2,
)

immediates_told : Tells AreImmediates InstructionFits
immediates_told (br l) xs ys bytes h = u32_told l xs ys bytes h
immediates_told (br_if l) xs ys bytes h = u32_told l xs ys bytes h
immediates_told (br_table ls l) xs ys bytes h = branches_told ls l xs ys bytes h
immediates_told (call f) xs ys bytes h = u32_told f xs ys bytes h
immediates_told (call_indirect t) xs ys bytes h = u32_told t xs (0x00 ∷ ys) bytes h
immediates_told (plain p) xs ys bytes h = plain_told p xs ys bytes h
immediates_told i xs ys bytes h = tt

instruction_told : Tells IsInstruction InstructionFits
instruction_told i xs ys bytes (instruction {byte = byte} {xs = ws} op h) = immediates_told i ws ys bytes.1 h

code_told : Tells IsCode (All InstructionFits)
code_told code xs ys bytes h = All-from_recursion InstructionFits code (items_told IsInstruction own.instruction InstructionFits best_instruction instruction_told code xs ys bytes h.instructions)

-- ---- entries of sections

limits_told : Tells IsLimits LimitsFit
limits_told l xs ys bytes (only_min {n = n} {xs = ws} h) = (u32_told n ws ys bytes.1 h, tt)
limits_told l xs zs bytes (min_and_max {n = n} {m = m} {xs = ws} {ys = ys} h k) = (u32_told n ws ys bytes.1 h, u32_told m ys zs ((best_u32 n ws ys bytes.1 h).rest) k)

table_told : Tells IsTable LimitsFit
table_told l xs ys bytes (a_table {xs = ws} h) = limits_told l ws ys bytes.1 h

kind_told : Tells IsImportKind ImportFits
kind_told k xs ys bytes (function_import {t = t} {xs = ws} h) = u32_told t ws ys bytes.1 h
kind_told k xs ys bytes (table_import {l = l} {xs = ws} h) = table_told l ws ys bytes.1 h
kind_told k xs ys bytes (memory_import {l = l} {xs = ws} h) = limits_told l ws ys bytes.1 h
kind_told k xs ys bytes (global_import {t = t} {xs = ws} h) = tt

import_told : Tells IsImport (λ (i : Imported). ImportFits i.kind)
import_told i xs ws bytes (an_import {m = m} {n = n} {k = k} {ys = ys} {zs = zs} p q r) = kind_told k zs ws ((best_name n ys zs ((best_name m xs ys bytes p).rest) q).rest) r

global_told : Tells IsGlobal (λ (g : GlobalEntry). All InstructionFits g.init)
global_told g xs zs bytes (a_global {t = t} {code = code} {ys = ys} p q) = code_told code ys zs ((best_global_type t xs ys bytes p).rest) q

abbrev pub OffsetFits : ElementSegment → Type 0
OffsetFits e = FitsU32 e.table × All InstructionFits e.offset

element_told : Tells IsElement OffsetFits
element_told e xs ws bytes (an_element {t = t} {code = code} {fs = fs} {ys = ys} {zs = zs} p q r) = (u32_told t xs ys bytes p, code_told code ys zs ((best_u32 t xs ys bytes p).rest) q)

listed_bytes : (xs : List ℕ) → AreBytes xs → AllByRecursion (λ b. b < 256) xs
listed_bytes [] a = tt
listed_bytes (x ∷ xs) a = (a.0, listed_bytes xs a.1)

content_told : (bs xs ys : List ℕ) → AreBytes xs → IsBytes bs xs ys → All (λ b. b < 256) bs
content_told bs xs ys bytes h =
    let n = best_u32 (length bs) xs h.after_count bytes h.count in
    let s = bytes_split bs ys (subst AreBytes h.stand n.rest) in
    All-from_recursion (λ b. b < 256) bs (listed_bytes bs s.0)

segment_told : Tells IsSegment SegmentFits
segment_told s xs ws bytes (a_segment {m = m} {code = code} {bytes = bs} {ys = ys} {zs = zs} p q r) =
    let a = best_u32 m xs ys bytes p in
    let b = best_code code ys zs a.rest q in
    record { memory = u32_told m xs ys bytes p; offset = code_told code ys zs a.rest q; bytes = content_told bs zs ws b.rest r }

run_best : AreBest IsRun run
run_best r xs zs bytes (a_run {n = n} {t = t} {ys = ys} h k) =
    let a = best_u32 n xs ys bytes h in
    let b = best_val_type t ys zs a.rest k in
    both_spell (IsU32 n) (IsValType t) (unsigned n) (value_type t) xs ys zs a b (IsRun (n, t)) (λ us p q. a_run p q)

body_told : Tells IsFunctionBody BodyFits
body_told b xs zs bytes (a_body {runs = rs} {code = code} {ys = ys} p q few) =
    record { locals = few; code = code_told code ys zs ((best_vec IsRun run run_best rs xs ys bytes p).rest) q }

-- ---- sections

customs_end : (xs ys : List ℕ) → AreBytes xs → IsCustoms xs ys → AreBytes ys
customs_end xs ys bytes no_custom = bytes
customs_end xs zs bytes (custom {xs = ws} {ys = ys} h hs) =
    let n = best_u32 (length h.content) ws h.after_size bytes.1 h.size in
    let s = bytes_split h.content ys (subst AreBytes h.stands n.rest) in
    customs_end ys zs s.1 hs

-- what a section tells of each, and the bytes after it
section_told : {X : Type 0} (id : ℕ) (P : Spelling X) (f : X → List ℕ) (Q : X → Type 0) → AreBest P f → Tells P Q → (vs : List X) (xs ys : List ℕ) → AreBytes xs → IsSection id P vs xs ys → AllByRecursion Q vs × AreBytes ys
section_told id P f Q best tells vs xs ys bytes (no_section h) = (tt, customs_end xs ys bytes h)
section_told id P f Q best tells vs xs zs bytes (section {ys = ys} h s) =
    let c = customs_end xs (id ∷ ys) bytes h in
    let after = (best_u32 (length s.content) ys s.after_size c.1 s.size).rest in
    let parts = bytes_split s.content zs (subst AreBytes s.stands after) in
    (vec_told P f Q best tells vs s.content [] parts.0 s.is, parts.1)

number_end : (id : ℕ) (n : Option ℕ) (xs ys : List ℕ) → AreBytes xs → IsNumberSection id n xs ys → AreBytes ys
number_end id n xs ys bytes (no_number h) = customs_end xs ys bytes h
number_end id n xs zs bytes (number {n = m} {ys = ys} h s) =
    let c = customs_end xs (id ∷ ys) bytes h in
    let after = (best_u32 (length s.content) ys s.after_size c.1 s.size).rest in
    (bytes_split s.content zs (subst AreBytes s.stands after)).1

-- ---- the module

pub record IsTold (m : WasmModule) : Type 0 where
  pub imports : AllByRecursion (λ (i : Imported). ImportFits i.kind) m.imports
  pub globals : AllByRecursion (λ (g : GlobalEntry). All InstructionFits g.init) m.globals
  pub elements : AllByRecursion OffsetFits m.elements
  pub bodies : AllByRecursion BodyFits m.bodies
  pub segments : AllByRecursion SegmentFits m.segments

abbrev Nothing : {X : Type 0} → X → Type 0
Nothing x = Unit {0}

pub module_told : (m : WasmModule) (bytes : List ℕ) → IsModuleBytes bytes m → IsTold m
module_told m bytes h =
    let all = bytes_split header h.after_header (subst AreBytes h.begins (bytes_from bytes h.are_bytes)) in
    let b1 = section_told 1 IsFunctionType function_type Nothing best_function_type (λ v xs ys b h. tt) m.types h.after_header h.after_types all.1 h.types in
    let b2 = section_told 2 IsImport imported (λ (i : Imported). ImportFits i.kind) best_import import_told m.imports h.after_types h.after_imports b1.1 h.imports in
    let b3 = section_told 3 IsU32 unsigned Nothing best_u32 (λ v xs ys b h. tt) m.functions h.after_imports h.after_functions b2.1 h.functions in
    let b4 = section_told 4 IsTable table Nothing best_table (λ v xs ys b h. tt) m.tables h.after_functions h.after_tables b3.1 h.tables in
    let b5 = section_told 5 IsLimits limits Nothing best_limits (λ v xs ys b h. tt) m.memories h.after_tables h.after_memories b4.1 h.memories in
    let b6 = section_told 6 IsGlobal global (λ (g : GlobalEntry). All InstructionFits g.init) best_global global_told m.globals h.after_memories h.after_globals b5.1 h.globals in
    let b7 = section_told 7 IsExport exported Nothing best_export (λ v xs ys b h. tt) m.exports h.after_globals h.after_exports b6.1 h.exports in
    let b8 = number_end 8 m.start h.after_exports h.after_start b7.1 h.start in
    let b9 = section_told 9 IsElement element OffsetFits best_element element_told m.elements h.after_start h.after_elements b8 h.elements in
    let b12 = number_end 12 h.data_count h.after_elements h.after_data_count b9.1 h.data_count_section in
    let b10 = section_told 10 (IsSized IsFunctionBody) (λ b. sized (body b)) BodyFits (best_sized IsFunctionBody body best_body) (sized_told IsFunctionBody BodyFits body_told) m.bodies h.after_data_count h.after_bodies b12 h.bodies in
    let b11 = section_told 11 IsSegment segment SegmentFits best_segment segment_told m.segments h.after_bodies h.after_segments b10.1 h.segments in
    record { imports = b2.0; globals = b6.0; elements = b9.0; bodies = b10.0; segments = b11.0 }
