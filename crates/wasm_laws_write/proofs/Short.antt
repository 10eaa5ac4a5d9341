-- How many bytes parts take at most.
use Rattle.std.proofs.Common.{◌≡◌, ℕ, zero, suc, ◌+◌, ◌-◌, ◌*◌, ◌/◌, ◌^◌, ◌<◌, ◌≤◌, Bool, true, false, List, [], ◌∷◌, ◌++◌, length, replicate, Option, Some, None, refl, sym, ap, subst, ◌∙◌, arith, inl, inr, length-append}
use Rattle.std.specs.Prelude.{All}
use Rattle.std.specs.List.{AllByRecursion}
use Rattle.std.proofs.lemmas.Bool.{cases_lt, lt-ltb, le-ltb}
use Rattle.wasm_lang.specs.declared.types.ValType.{ValType}
use Rattle.wasm_lang.specs.declared.types.ValType.TheVariants.{I32, I64}
use Rattle.wasm_lang.specs.declared.types.ImportKind.{ImportKind}
use Rattle.wasm_lang.specs.declared.types.ImportKind.TheVariants as imports
use Rattle.wasm_lang.specs.declared.types.ExportKind.{ExportKind}
use Rattle.wasm_lang.specs.declared.types.ExportKind.TheVariants as exports
use Rattle.wasm_lang.specs.Instructions.{Plain, local_get, local_set, local_tee, global_get, global_set, load, store, memory_size, memory_copy, memory_fill, const32, const64, Instruction, block, loop, if_block, br, br_if, br_table, call, call_indirect, plain}
use Rattle.wasm_binary_write.specs.Opcodes.{opcode_of}
use Rattle.wasm_binary_write.specs.Spelling.{groups, unsigned, integer, items, vector, sized, value_type, block_type, limits_to, table, mutability, plain_immediates, immediates, behind, instruction, import_kind, export_kind, runs_from, runs, run}
use Rattle.wasm_binary_write.specs.Spelling as own
use Rattle.wasm_binary_write.proofs.Groups.{groups_last, groups_more}
use Rattle.wasm_laws_write.specs.Fits.{FitsU32, PlainFits, OptionFits, ImportFits, ExportFits}
use Rattle.wasm_laws_write.specs.Lengths.{instruction_size, code_size, PlainIsNarrow, IsNarrow, total}
use Rattle.wasm_laws_write.specs.Laws.{NumbersAreShort, NarrowFit, InstructionsAreShort, CodeIsShort, BodiesAreShort, PartsAreShort, VectorsAreShort, TypesAreShort, ImportsAreShort, LimitsAreShort, GlobalsAreShort, ExportsAreShort, ElementsAreShort}
use Rattle.wasm_laws_write.proofs.Numbers.{low_number_short, number_short}
use Rattle.wasm_laws_write.proofs.Parts.{each}
use Rattle.wasm_laws_write.proofs.Written.{on_same}

pub numbers_are_short : NumbersAreShort
numbers_are_short n h = number_short n h

-- ---- words of 32 bits

word_last : (turned : Bool) (n : ℕ) → n < 64 → length (groups 64 turned n) ≤ 1
word_last turned n h = omega (arith, ap length (groups_last 64 turned n h))

word_more : (turned : Bool) (k bound n : ℕ) → ((q : ℕ) → q < bound → length (groups 64 turned q) ≤ k) → n < 128 * bound → length (groups 64 turned n) ≤ 1 + k
word_more turned k bound n below h =
    elim (cases_lt n 64) [
      | inl small ↦ omega (arith, word_last turned n small)
      | inr large ↦ (let q : n / 128 < bound = omega arith in omega (arith, ap length (groups_more 64 turned n (omega arith) large), below (n / 128) q))
    ]

half_word : (turned : Bool) (n : ℕ) → n < 2 ^ 31 → length (groups 64 turned n) ≤ 5
half_word turned n h =
    word_more turned 4 134217728 n
    (λ q l. word_more turned 3 1048576 q (λ q l. word_more turned 2 8192 q (λ q l. word_more turned 1 64 q (word_last turned) (omega arith)) (omega arith)) (omega arith)) (omega arith)

word_short : (n : ℕ) → n < 2 ^ 32 → length (integer 32 n) ≤ 5
word_short n h =
    elim (cases_lt n (2 ^ 31)) [
      | inl low ↦
          let e : integer 32 n ≡ groups 64 false n = (let t = lt-ltb n (2 ^ 31) low in rw t refl) in
          subst (λ l. length l ≤ 5) (sym e) (half_word false n low)
      | inr high ↦
          let e : integer 32 n ≡ groups 64 true (2 ^ 32 - 1 - n) = (let t = le-ltb n (2 ^ 31) high in rw t refl) in
          subst (λ l. length l ≤ 5) (sym e) (half_word true (2 ^ 32 - 1 - n) (omega arith))
    ]

-- ---- instructions

plain_fits : (p : Plain) → PlainIsNarrow p → PlainFits p
plain_fits (load op align offset) h = ((let low = h.0 in omega arith), h.1)
plain_fits (store op align offset) h = ((let low = h.0 in omega arith), h.1)
plain_fits (const64 word) h = absurd h
plain_fits p h = h

pub narrow_fit : NarrowFit
narrow_fit (plain p) h = plain_fits p h
narrow_fit i h = h

access_short : (align offset : ℕ) → align < 128 → FitsU32 offset → length (unsigned align ++ unsigned offset) ≤ 6
access_short align offset low fit = omega (arith, length-append (unsigned align) (unsigned offset), low_number_short align low, number_short offset fit)

plain_short : (p : Plain) → PlainIsNarrow p → length (plain_immediates p) ≤ 6
plain_short (local_get x) h = omega (arith, number_short x h)
plain_short (local_set x) h = omega (arith, number_short x h)
plain_short (local_tee x) h = omega (arith, number_short x h)
plain_short (global_get x) h = omega (arith, number_short x h)
plain_short (global_set x) h = omega (arith, number_short x h)
plain_short (load op align offset) h = access_short align offset h.0 h.1
plain_short (store op align offset) h = access_short align offset h.0 h.1
plain_short memory_size h = omega arith
plain_short memory_copy h = omega arith
plain_short memory_fill h = omega arith
plain_short (const32 word) h = omega (arith, word_short word h)
plain_short (const64 word) h = absurd h
plain_short p h = omega arith

value_long : (t : ValType) → length (value_type t) ≡ 1
value_long I32 = refl
value_long I64 = refl

block_short : (r : Option ValType) → length (block_type r) ≤ 6
block_short None = omega arith
block_short (Some t) = omega (arith, value_long t)

numbers_length : (ns : List ℕ) → AllByRecursion FitsU32 ns → length (items unsigned ns) ≤ 5 * length ns
numbers_length [] a = omega arith
numbers_length (n ∷ ns) a = omega (arith, length-append (unsigned n) (items unsigned ns), number_short n a.0, numbers_length ns a.1)

-- a short table has a count of one byte, and a long one has more labels than bytes of its count
branches_short : (ls : List ℕ) (l : ℕ) → All FitsU32 ls → FitsU32 l → length (vector unsigned ls ++ unsigned l) ≤ 6 + 7 * length ls
branches_short ls l fits fit =
    let whole = length-append (vector unsigned ls) (unsigned l) in
    let parts = length-append (unsigned (length ls)) (items unsigned ls) in
    let labels = numbers_length ls (each FitsU32 ls fits) in
    let last = number_short l fit in
    elim (cases_lt (length ls) 128) [
      | inl small ↦ omega (arith, low_number_short (length ls) small)
      | inr large ↦ omega (arith, count_long (length ls) large)
    ]
  where
    count_within : (turns n : ℕ) → n ≤ turns → length (unsigned n) ≤ 1 + n
    count_within zero n t = omega (arith, low_number_short n (omega arith))
    count_within (suc turns) n t =
        elim (cases_lt n 128) [
          | inl small ↦ omega (arith, low_number_short n small)
          | inr large ↦ omega (arith, ap length (groups_more 128 false n (omega arith) large), count_within turns (n / 128) (omega arith))
        ]

    count_long : (n : ℕ) → 128 ≤ n → length (unsigned n) ≤ 1 + n
    count_long n large = count_within n n (omega arith)

immediates_short : (i : Instruction) → IsNarrow i → 1 + length (immediates i) ≤ 7 * instruction_size i
immediates_short (block r) h = omega (arith, block_short r)
immediates_short (loop r) h = omega (arith, block_short r)
immediates_short (if_block r) h = omega (arith, block_short r)
immediates_short (br l) h = omega (arith, number_short l h)
immediates_short (br_if l) h = omega (arith, number_short l h)
immediates_short (br_table ls l) h = omega (arith, branches_short ls l h.0 h.1)
immediates_short (call f) h = omega (arith, number_short f h)
immediates_short (call_indirect t) h = omega (arith, length-append (unsigned t) (0x00 ∷ []), number_short t h)
immediates_short (plain p) h = omega (arith, plain_short p h)
immediates_short i h = omega arith

behind_short : (opcode : Option ℕ) (bytes : List ℕ) → length (behind opcode bytes) ≤ 1 + length bytes
behind_short None bytes = omega arith
behind_short (Some o) bytes = omega arith

pub instructions_are_short : InstructionsAreShort
unfolding instruction
instructions_are_short i h = omega (arith, behind_short (opcode_of i) (immediates i), immediates_short i h)

code_within : (code : List Instruction) → AllByRecursion IsNarrow code → length (items instruction code) ≤ 7 * code_size code
code_within [] a = omega arith
code_within (i ∷ is) a = omega (arith, length-append (instruction i) (items instruction is), instructions_are_short i a.0, code_within is a.1)

pub code_is_short : CodeIsShort
code_is_short code a = code_within code (each IsNarrow code a)

-- ---- parts and vectors

pub parts_are_short : PartsAreShort
parts_are_short bytes h = omega (arith, length-append (unsigned (length bytes)) bytes, number_short (length bytes) h)

items_within : {X : Type 0} (f : X → List ℕ) (most : X → ℕ) (xs : List X) → AllByRecursion (λ x. length (f x) ≤ most x) xs → length (items f xs) ≤ total most xs
items_within f most [] a = omega arith
items_within f most (x ∷ xs) a = let here = a.0 in omega (arith, length-append (f x) (items f xs), items_within f most xs a.1)

pub vectors_are_short : (X : Type 0) → VectorsAreShort X
vectors_are_short X f most xs few a =
    omega (arith, length-append (unsigned (length xs)) (items f xs), number_short (length xs) few, items_within f most xs (each (λ x. length (f x) ≤ most x) xs a))

-- ---- bodies

one_run : (k n : ℕ) (t : ValType) → runs_from n t (replicate k t) ≡ (n + k, t) ∷ []
one_run zero n t = ap (λ n. (n, t) ∷ []) (let e : n ≡ n + 0 = omega arith in e)
one_run (suc k) n t = on_same n t (replicate k t) ∙ one_run k (n + 1) t ∙ ap (λ n. (n, t) ∷ []) (let e : n + 1 + k ≡ n + suc k = omega arith in e)

locals_short : (n : ℕ) (t : ValType) → FitsU32 n → length (vector run (runs (replicate n t))) ≤ 7
locals_short zero t h = omega (arith, low_number_short 0 (omega arith), length-append (unsigned 0) [])
locals_short (suc k) t h =
    let e = one_run k 1 t in
    let many : 1 + k < 2 ^ 32 = omega arith in
    let first = number_short (1 + k) many in
    let count = low_number_short 1 (omega arith) in
    let pair = length-append (unsigned (1 + k)) (value_type t) in
    let one : length (run (1 + k, t) ++ []) ≤ 6 = omega (arith, length-append (run (1 + k, t)) [], value_long t) in
    subst (λ (rs : List (ℕ × ValType)). length (vector run rs) ≤ 7) (sym e) (omega (arith, length-append (unsigned 1) (run (1 + k, t) ++ [])))

pub bodies_are_short : BodiesAreShort
bodies_are_short n t code h = omega (arith, length-append (vector run (runs (replicate n t))) (items instruction code), locals_short n t h)

-- ---- entries

values_length : (ts : List ValType) → length (items value_type ts) ≡ length ts
values_length [] = refl
values_length (t ∷ ts) = omega (arith, length-append (value_type t) (items value_type ts), value_long t, values_length ts)

values_short : (ts : List ValType) → FitsU32 (length ts) → length (vector value_type ts) ≤ 5 + length ts
values_short ts h = omega (arith, length-append (unsigned (length ts)) (items value_type ts), number_short (length ts) h, values_length ts)

pub types_are_short : TypesAreShort
types_are_short t p r = omega (arith, length-append (vector value_type t.params) (vector value_type t.results), values_short t.params p, values_short t.results r)

limits_to_short : (min : ℕ) (max : Option ℕ) → FitsU32 min → OptionFits max → length (limits_to min max) ≤ 11
limits_to_short n None p q = omega (arith, number_short n p)
limits_to_short n (Some m) p q = omega (arith, length-append (unsigned n) (unsigned m), number_short n p, number_short m q)

pub limits_are_short : LimitsAreShort
limits_are_short l h = limits_to_short l.min l.max h.0 h.1

mutable_long : (m : Bool) → length (mutability m) ≡ 1
mutable_long false = refl
mutable_long true = refl

import_kind_short : (k : ImportKind) → ImportFits k → length (import_kind k) ≤ 13
import_kind_short (imports.Func t) h = omega (arith, number_short t h)
import_kind_short (imports.Table l) h = omega (arith, limits_are_short l h)
import_kind_short (imports.Memory l) h = omega (arith, limits_are_short l h)
import_kind_short (imports.Global g) h = omega (arith, length-append (value_type g.kind) (mutability g.mutable), value_long g.kind, mutable_long g.mutable)

pub imports_are_short : ImportsAreShort
imports_are_short i p q h =
    omega (arith, length-append (sized i.module_name) (sized i.name ++ import_kind i.kind), length-append (sized i.name) (import_kind i.kind), parts_are_short i.module_name p, parts_are_short i.name q, import_kind_short i.kind h)

pub globals_are_short : GlobalsAreShort
globals_are_short g =
    omega (arith, length-append (own.global_type g.kind) (items instruction g.init), length-append (value_type g.kind.kind) (mutability g.kind.mutable), value_long g.kind.kind, mutable_long g.kind.mutable)

export_kind_short : (k : ExportKind) → ExportFits k → length (export_kind k) ≤ 6
export_kind_short (exports.Func n) h = omega (arith, number_short n h)
export_kind_short (exports.Table n) h = omega (arith, number_short n h)
export_kind_short (exports.Memory n) h = omega (arith, number_short n h)
export_kind_short (exports.Global n) h = omega (arith, number_short n h)

pub exports_are_short : ExportsAreShort
exports_are_short e p h = omega (arith, length-append (sized e.name) (export_kind e.kind), parts_are_short e.name p, export_kind_short e.kind h)

pub elements_are_short : ElementsAreShort
elements_are_short e t few fs =
    let code = items instruction e.offset in
    let numbers = vector unsigned e.functions in
    omega (arith, length-append (unsigned e.table) (code ++ numbers), length-append code numbers, length-append (unsigned (length e.functions)) (items unsigned e.functions), number_short e.table t, number_short (length e.functions) few, numbers_length e.functions (each FitsU32 e.functions fs))
