-- The names of instructions (section 6.5; of version 2.0 the sign extensions, memory.copy and memory.fill), one for each row of the
-- table of opcodes, in its order.
use Rattle.std.specs.Prelude.{ℕ, Bool, true, false, List, [], ◌∷◌, ◌++◌, map, Option, codes, bytes_eq, ◌==◌, if◌then◌else◌}
use Rattle.std.specs.Map.{lookup}
use Rattle.sem_words.specs.declared.word.Bin.{Bin}
use Rattle.sem_words.specs.declared.word.Bin.TheVariants.{Add, Sub, Mul, DivS, DivU, RemS, RemU, And, Or, Xor, Shl, ShrS, ShrU, Rotl, Rotr}
use Rattle.sem_words.specs.declared.word.Un.{Un}
use Rattle.sem_words.specs.declared.word.Un.TheVariants.{Clz, Ctz, Popcnt}
use Rattle.sem_words.specs.declared.word.Rel.{Rel}
use Rattle.sem_words.specs.declared.word.Rel.TheVariants.{Eq, Ne, LtS, LtU, GtS, GtU, LeS, LeU, GeS, GeU}
use Rattle.wasm_lang.specs.declared.types.MemOp.{MemOp}
use Rattle.wasm_lang.specs.Opcodes.{opcodes}
use Rattle.wasm_lang.specs.Instructions.{Plain, nop, drop_operand, select, local_get, local_set, local_tee, global_get, global_set, load, store, memory_size, memory_copy, memory_fill, const32, const64, eqz32, eqz64, rel32, rel64, un32, un64, bin32, bin64, wrap, extend_s, extend_u, sign_extend, Instruction, unreachable, block, loop, if_block, else_mark, end_mark, br, br_if, br_table, return, call, call_indirect, plain}

-- ---- operators on either type

abbrev pub rel_name : Rel → List ℕ
rel_name Eq = codes "eq"
rel_name Ne = codes "ne"
rel_name LtS = codes "lt_s"
rel_name LtU = codes "lt_u"
rel_name GtS = codes "gt_s"
rel_name GtU = codes "gt_u"
rel_name LeS = codes "le_s"
rel_name LeU = codes "le_u"
rel_name GeS = codes "ge_s"
rel_name GeU = codes "ge_u"

abbrev pub un_name : Un → List ℕ
un_name Clz = codes "clz"
un_name Ctz = codes "ctz"
un_name Popcnt = codes "popcnt"

abbrev pub bin_name : Bin → List ℕ
bin_name Add = codes "add"
bin_name Sub = codes "sub"
bin_name Mul = codes "mul"
bin_name DivS = codes "div_s"
bin_name DivU = codes "div_u"
bin_name RemS = codes "rem_s"
bin_name RemU = codes "rem_u"
bin_name And = codes "and"
bin_name Or = codes "or"
bin_name Xor = codes "xor"
bin_name Shl = codes "shl"
bin_name ShrS = codes "shr_s"
bin_name ShrU = codes "shr_u"
bin_name Rotl = codes "rotl"
bin_name Rotr = codes "rotr"

-- ---- instructions with a type before their name

abbrev pub of_type : (wide : Bool) → List ℕ → List ℕ
of_type false name = codes "i32." ++ name
of_type true name = codes "i64." ++ name

-- how many bits so many bytes are, where they are less than an operand of 64 bits
abbrev pub narrow_bits : (size : ℕ) → List ℕ
narrow_bits size = if size == 1 then codes "8" else (if size == 2 then codes "16" else codes "32")

-- whether an access reads or writes all bytes of its operand
abbrev pub is_whole : MemOp → Bool
is_whole op = if op.wide then op.size == 8 else op.size == 4

abbrev pub sign_suffix : (signed : Bool) → List ℕ
sign_suffix false = codes "_u"
sign_suffix true = codes "_s"

abbrev pub load_name : MemOp → List ℕ
load_name op = of_type op.wide (codes "load" ++ (if is_whole op then [] else narrow_bits op.size ++ sign_suffix op.signed))

abbrev pub store_name : MemOp → List ℕ
store_name op = of_type op.wide (codes "store" ++ (if is_whole op then [] else narrow_bits op.size))

-- of the low bits of an operand
abbrev pub extension_name : (wide : Bool) (bits : ℕ) → List ℕ
extension_name wide bits =
    of_type wide (codes "extend" ++ ((if bits == 8 then codes "8" else (if bits == 16 then codes "16" else codes "32")) ++ codes "_s"))

-- ---- all instructions

abbrev pub plain_name : Plain → List ℕ
plain_name nop = codes "nop"
plain_name drop_operand = codes "drop"
plain_name select = codes "select"
plain_name (local_get x) = codes "local.get"
plain_name (local_set x) = codes "local.set"
plain_name (local_tee x) = codes "local.tee"
plain_name (global_get x) = codes "global.get"
plain_name (global_set x) = codes "global.set"
plain_name (load op align offset) = load_name op
plain_name (store op align offset) = store_name op
plain_name memory_size = codes "memory.size"
plain_name memory_copy = codes "memory.copy"
plain_name memory_fill = codes "memory.fill"
plain_name (const32 word) = codes "i32.const"
plain_name (const64 word) = codes "i64.const"
plain_name eqz32 = codes "i32.eqz"
plain_name eqz64 = codes "i64.eqz"
plain_name (rel32 op) = of_type false (rel_name op)
plain_name (rel64 op) = of_type true (rel_name op)
plain_name (un32 op) = of_type false (un_name op)
plain_name (un64 op) = of_type true (un_name op)
plain_name (bin32 op) = of_type false (bin_name op)
plain_name (bin64 op) = of_type true (bin_name op)
plain_name wrap = codes "i32.wrap_i64"
plain_name extend_s = codes "i64.extend_i32_s"
plain_name extend_u = codes "i64.extend_i32_u"
plain_name (sign_extend wide bits) = extension_name wide bits

abbrev pub name_of : Instruction → List ℕ
name_of unreachable = codes "unreachable"
name_of (block r) = codes "block"
name_of (loop r) = codes "loop"
name_of (if_block r) = codes "if"
name_of else_mark = codes "else"
name_of end_mark = codes "end"
name_of (br l) = codes "br"
name_of (br_if l) = codes "br_if"
name_of (br_table ls l) = codes "br_table"
name_of return = codes "return"
name_of (call f) = codes "call"
name_of (call_indirect t) = codes "call_indirect"
name_of (plain p) = plain_name p

-- the forms that the table of opcodes has, and memory.fill, which shares its row with memory.copy
abbrev pub named_forms : List Instruction
named_forms = map (λ row. row.1) opcodes ++ plain memory_fill ∷ []

-- each name once, with the form that it names: immediates are 0, None and the empty list
abbrev pub instruction_names : List (List ℕ × Instruction)
instruction_names = map (λ i. (name_of i, i)) named_forms

-- the form that a word names
unfoldable pub form_named : List ℕ → Option Instruction
form_named word = lookup (bytes_eq word) instruction_names
