-- The tokens of a canonical text are such that no row on single tokens refuses them.
use Rattle.std.proofs.Common.{ℕ, ◌≤◌, min, Bool, true, false, List, [], ◌∷◌, Option, Some, None, codes, refl}
use Rattle.std.specs.List.{AllByRecursion}
use Rattle.std.specs.Str.{IsUtf8}
use Rattle.wasm_lang.specs.declared.types.ValType.{ValType}
use Rattle.wasm_lang.specs.declared.types.Limits.{Limits}
use Rattle.wasm_lang.specs.declared.types.ImportKind.{ImportKind}
use Rattle.wasm_lang.specs.declared.types.ImportKind.TheVariants as imports
use Rattle.wasm_lang.specs.declared.types.ExportKind.{ExportKind}
use Rattle.wasm_lang.specs.declared.types.ExportKind.TheVariants as exports
use Rattle.wasm_lang.specs.Instructions.{Plain, local_get, local_set, local_tee, global_get, global_set, load, store, const32, const64, Instruction, block, loop, if_block, br, br_if, br_table, call, call_indirect, plain}
use Rattle.wasm_lang.specs.Limits.{most_entries}
use Rattle.wasm_lang.specs.Modules.{FunctionType}
use Rattle.wat_lang.specs.declared.parts.Space.{Space}
use Rattle.wat_lang.specs.declared.parts.Space.TheVariants as spaces
use Rattle.wat_lang.specs.declared.parts.Part.{Part}
use Rattle.wat_lang.specs.declared.parts.Part.TheVariants.{Param, Result, Local}
use Rattle.wat_lang.specs.Grammar.{uses}
use Rattle.wat_laws_print.specs.Words.{IsNumber, HasPlainWords, HasWords, IsMaximum, AreLimits, IsImported, IsExported}
use Rattle.wat_laws_again.specs.Signs.{Sign, close_sign, word_sign, number_sign, put_types, put_group, put_maximum, put_limits, put_mutable, put_result, put_numbers, put_plain, put_immediates, put_code}
use Rattle.wat_laws_again.specs.Fitting.{IsPlainValue, IsValue, IsAligned}
use Rattle.wat_laws_again.proofs.CodeBack.{IsSayable}
use Rattle.wat_laws_again.proofs.Flat.{IsFlat}
use Rattle.wat_laws_again.proofs.FieldParts.{type_parts, import_parts, function_parts, table_parts, memory_parts, constant_signs, global_parts, export_parts, start_parts, element_parts, segment_parts}

abbrev pub AreFlat : List Sign → Type 0
AreFlat ss = AllByRecursion IsFlat ss

-- ---- parts

types_flat : (p : Part) (ts : List ValType) (ss : List Sign) → AreFlat ss → AreFlat (put_types p ts ss)
types_flat p [] ss a = a
types_flat p (t ∷ ts) ss a = (tt, types_flat p ts ss a)

group_flat : (p : Part) (keyword : List ℕ) (ts : List ValType) (ss : List Sign) → AreFlat ss → AreFlat (put_group p keyword ts ss)
group_flat p keyword [] ss a = a
group_flat p keyword (t ∷ ts) ss a = (tt, (tt, types_flat p (t ∷ ts) (close_sign ∷ ss) (tt, a)))

table_limits_flat : (l : Limits) (ss : List Sign) → AreLimits l → l.min ≤ most_entries → AreFlat ss → AreFlat (put_limits spaces.Table l ss)
table_limits_flat l ss h e a = ((l.min, refl, h.0, e), by l.max h.1)
  where
    by : (max : Option ℕ) → IsMaximum max → AreFlat (put_maximum max ss)
    by None m = a
    by (Some n) m = ((n, refl, m), a)

memory_limits_flat : (l : Limits) (ss : List Sign) → AreLimits l → AreFlat ss → AreFlat (put_limits spaces.Memory l ss)
memory_limits_flat l ss h a = ((l.min, refl, h.0), by l.max h.1)
  where
    by : (max : Option ℕ) → IsMaximum max → AreFlat (put_maximum max ss)
    by None m = a
    by (Some n) m = ((n, refl, m), a)

mutable_flat : (m : Bool) (t : ValType) (ss : List Sign) → AreFlat ss → AreFlat (put_mutable m t ss)
mutable_flat false t ss a = (tt, a)
mutable_flat true t ss a = (tt, (tt, (tt, (tt, a))))

numbers_flat : (s : Space) (ns : List ℕ) (ss : List Sign) → AllByRecursion IsNumber ns → AreFlat ss → AreFlat (put_numbers s ns ss)
numbers_flat s [] ss all a = a
numbers_flat s (n ∷ ns) ss all a = ((n, refl, all.0), numbers_flat s ns ss all.1 a)

-- ---- code

result_flat : (r : Option ValType) (ss : List Sign) → AreFlat ss → AreFlat (put_result r ss)
result_flat None ss a = a
result_flat (Some t) ss a = (tt, (tt, (tt, (tt, a))))

plain_flat : (p : Plain) (ss : List Sign) → HasPlainWords p → IsAligned (plain p) → AreFlat ss → AreFlat (put_plain p ss)
plain_flat (local_get x) ss h l a = ((x, refl, h), a)
plain_flat (local_set x) ss h l a = ((x, refl, h), a)
plain_flat (local_tee x) ss h l a = ((x, refl, h), a)
plain_flat (global_get x) ss h l a = ((x, refl, h), a)
plain_flat (global_set x) ss h l a = ((x, refl, h), a)
plain_flat (load op align offset) ss h l a = ((offset, refl, h), ((align, refl, l), a))
plain_flat (store op align offset) ss h l a = ((offset, refl, h), ((align, refl, l), a))
plain_flat (const32 w) ss h l a = ((w, refl, h), a)
plain_flat (const64 w) ss h l a = ((w, refl, h), a)
plain_flat _ ss h l a = a

immediates_flat : (i : Instruction) (ss : List Sign) → HasWords i → IsAligned i → AreFlat ss → AreFlat (put_immediates i ss)
immediates_flat (block r) ss h l a = result_flat r ss a
immediates_flat (loop r) ss h l a = result_flat r ss a
immediates_flat (if_block r) ss h l a = result_flat r ss a
immediates_flat (br n) ss h l a = ((n, refl, h), a)
immediates_flat (br_if n) ss h l a = ((n, refl, h), a)
immediates_flat (br_table ns n) ss h l a = numbers_flat spaces.Label ns (number_sign (uses spaces.Label) n ∷ ss) h.0 ((n, refl, h.1), a)
immediates_flat (call n) ss h l a = ((n, refl, h), a)
immediates_flat (call_indirect n) ss h l a = (tt, (tt, ((n, refl, h), (tt, a))))
immediates_flat (plain p) ss h l a = plain_flat p ss h l a
immediates_flat _ ss h l a = a

code_flat : (is : List Instruction) (ss : List Sign) → AllByRecursion IsSayable is → AreFlat ss → AreFlat (put_code is ss)
code_flat [] ss all a = a
code_flat (i ∷ is) ss all a = (tt, immediates_flat i (put_code is ss) (all.0).0 (all.0).1 (code_flat is ss all.1 a))

constant_flat : (i : Instruction) (ss : List Sign) → IsValue i → HasWords i → AreFlat ss → AreFlat (constant_signs i ss)
constant_flat (plain p) ss v h a = (tt, (tt, by p v h))
  where
    by : (p : Plain) → IsPlainValue p → HasPlainWords p → AreFlat (put_plain p (close_sign ∷ ss))
    by (global_get x) v h = ((x, refl, h), (tt, a))
    by (const32 x) v h = ((x, refl, h), (tt, a))
    by (const64 x) v h = ((x, refl, h), (tt, a))
    by _ v h = absurd v
constant_flat _ ss v h a = absurd v

-- ---- fields behind their keywords

pub type_flat : (t : FunctionType) (k : List Sign) → AreFlat k → AreFlat (type_parts t k)
type_flat t k a = (tt, (tt, group_flat Param (codes "param") t.params (put_group Result (codes "result") t.results (close_sign ∷ close_sign ∷ k)) (group_flat Result (codes "result") t.results (close_sign ∷ close_sign ∷ k) (tt, (tt, a)))))

-- a table that is imported has few entries
abbrev pub HasFewEntries : ImportKind → Type 0
HasFewEntries (imports.Table l) = l.min ≤ most_entries
HasFewEntries kind = Unit {0}

pub import_flat : (first second : List ℕ) (kind : ImportKind) (k : List Sign) → IsUtf8 first → IsUtf8 second → IsImported kind → HasFewEntries kind → AreFlat k → AreFlat (import_parts first second kind k)
import_flat first second (imports.Func t) k u v h e a = (u, (v, (tt, (tt, (tt, (tt, ((t, refl, h), (tt, (tt, (tt, a))))))))))
import_flat first second (imports.Table l) k u v h e a = (u, (v, (tt, (tt, table_limits_flat l (word_sign (codes "funcref") ∷ close_sign ∷ close_sign ∷ k) h e (tt, (tt, (tt, a)))))))
import_flat first second (imports.Memory l) k u v h e a = (u, (v, (tt, (tt, memory_limits_flat l (close_sign ∷ close_sign ∷ k) h (tt, (tt, a))))))
import_flat first second (imports.Global g) k u v h e a = (u, (v, (tt, (tt, mutable_flat g.mutable g.kind (close_sign ∷ close_sign ∷ k) (tt, (tt, a))))))

pub function_flat : (t : ℕ) (locals : List ValType) (inner : List Instruction) (k : List Sign) → IsNumber t → AllByRecursion IsSayable inner → AreFlat k → AreFlat (function_parts t locals inner k)
function_flat t locals inner k h all a = (tt, (tt, ((t, refl, h), (tt, group_flat Local (codes "local") locals (put_code inner (close_sign ∷ k)) (code_flat inner (close_sign ∷ k) all (tt, a))))))

pub table_flat : (l : Limits) (k : List Sign) → AreLimits l → l.min ≤ most_entries → AreFlat k → AreFlat (table_parts l k)
table_flat l k h e a = table_limits_flat l (word_sign (codes "funcref") ∷ close_sign ∷ k) h e (tt, (tt, a))

pub memory_flat : (l : Limits) (k : List Sign) → AreLimits l → AreFlat k → AreFlat (memory_parts l k)
memory_flat l k h a = memory_limits_flat l (close_sign ∷ k) h (tt, a)

pub global_flat : (m : Bool) (t : ValType) (i : Instruction) (k : List Sign) → IsValue i → HasWords i → AreFlat k → AreFlat (global_parts (record { kind = t; mutable = m }) i k)
global_flat m t i k v h a = mutable_flat m t (constant_signs i (close_sign ∷ k)) (constant_flat i (close_sign ∷ k) v h (tt, a))

pub export_flat : (name : List ℕ) (kind : ExportKind) (k : List Sign) → IsUtf8 name → IsExported kind → AreFlat k → AreFlat (export_parts name kind k)
export_flat name (exports.Func n) k u h a = (u, (tt, (tt, ((n, refl, h), (tt, (tt, a))))))
export_flat name (exports.Table n) k u h a = (u, (tt, (tt, ((n, refl, h), (tt, (tt, a))))))
export_flat name (exports.Memory n) k u h a = (u, (tt, (tt, ((n, refl, h), (tt, (tt, a))))))
export_flat name (exports.Global n) k u h a = (u, (tt, (tt, ((n, refl, h), (tt, (tt, a))))))

pub start_flat : (f : ℕ) (k : List Sign) → IsNumber f → AreFlat k → AreFlat (start_parts f k)
start_flat f k h a = ((f, refl, h), (tt, a))

pub element_flat : (i : Instruction) (fs : List ℕ) (k : List Sign) → IsValue i → HasWords i → AllByRecursion IsNumber fs → AreFlat k → AreFlat (element_parts i fs k)
element_flat i fs k v h all a = constant_flat i (word_sign (codes "func") ∷ put_numbers spaces.Func fs (close_sign ∷ k)) v h (tt, numbers_flat spaces.Func fs (close_sign ∷ k) all (tt, a))

pub segment_flat : (i : Instruction) (bytes : List ℕ) (k : List Sign) → IsValue i → HasWords i → AreFlat k → AreFlat (segment_parts i bytes k)
segment_flat i bytes k v h a = constant_flat i _ v h (tt, (tt, a))
