-- Opcodes (section 5.4; of version 2.0 the sign extensions, memory.copy and memory.fill), each once.
-- An instruction with immediates stands for all of its form, with 0, None and the empty list for its immediates.
use Rattle.std.specs.Prelude.{◌≡◌, ℕ, Bool, true, false, List, [], ◌∷◌, ◌++◌, map, Option, Some, None, if◌then◌else◌, ◌==◌}
use Rattle.std.specs.List.{enumerate_from}
use Rattle.std.specs.Map.{lookup}
use Rattle.sem_words.specs.declared.word.Bin.{Bin}
use Rattle.sem_words.specs.declared.word.Bin.TheVariants.{Add, Sub, Mul, DivS, DivU, RemS, RemU, And, Or, Xor, Shl, ShrS, ShrU, Rotl, Rotr}
use Rattle.sem_words.specs.declared.word.Un.{Un}
use Rattle.sem_words.specs.declared.word.Un.TheVariants.{Clz, Ctz, Popcnt}
use Rattle.sem_words.specs.declared.word.Rel.{Rel}
use Rattle.sem_words.specs.declared.word.Rel.TheVariants.{Eq, Ne, LtS, LtU, GtS, GtU, LeS, LeU, GeS, GeU}
use Rattle.wasm_lang.specs.declared.types.MemOp.{MemOp}
use Rattle.wasm_lang.specs.Instructions.{Plain, nop, drop_operand, select, local_get, local_set, local_tee, global_get, global_set, load, store, memory_size, memory_copy, memory_fill, const32, const64, eqz32, eqz64, rel32, rel64, un32, un64, bin32, bin64, wrap, extend_s, extend_u, sign_extend, Instruction, unreachable, block, loop, if_block, else_mark, end_mark, br, br_if, br_table, return, call, call_indirect, plain}

-- an operator on memory of 32 or 64 bits, which reads or writes so many bytes, and extends them without or with their sign
abbrev pub narrow : (size : ℕ) → MemOp
narrow size = record { wide = false; size = size; signed = false }

abbrev pub narrow_signed : (size : ℕ) → MemOp
narrow_signed size = record { wide = false; size = size; signed = true }

abbrev pub wide : (size : ℕ) → MemOp
wide size = record { wide = true; size = size; signed = false }

abbrev pub wide_signed : (size : ℕ) → MemOp
wide_signed size = record { wide = true; size = size; signed = true }

abbrev pub load_opcodes : List (ℕ × MemOp)
load_opcodes =
    enumerate_from 0x28 (narrow 4 ∷ wide 8 ∷ [])
    ++ enumerate_from 0x2c (narrow_signed 1 ∷ narrow 1 ∷ narrow_signed 2 ∷ narrow 2 ∷ [])
    ++ enumerate_from 0x30 (wide_signed 1 ∷ wide 1 ∷ wide_signed 2 ∷ wide 2 ∷ wide_signed 4 ∷ wide 4 ∷ [])

abbrev pub store_opcodes : List (ℕ × MemOp)
store_opcodes =
    enumerate_from 0x36 (narrow 4 ∷ wide 8 ∷ [])
    ++ enumerate_from 0x3a (narrow 1 ∷ narrow 2 ∷ wide 1 ∷ wide 2 ∷ wide 4 ∷ [])

-- the operators in the order of their opcodes
abbrev pub comparisons : List Rel
comparisons = Eq ∷ Ne ∷ LtS ∷ LtU ∷ GtS ∷ GtU ∷ LeS ∷ LeU ∷ GeS ∷ GeU ∷ []

abbrev pub counts : List Un
counts = Clz ∷ Ctz ∷ Popcnt ∷ []

abbrev pub operators : List Bin
operators = Add ∷ Sub ∷ Mul ∷ DivS ∷ DivU ∷ RemS ∷ RemU ∷ And ∷ Or ∷ Xor ∷ Shl ∷ ShrS ∷ ShrU ∷ Rotl ∷ Rotr ∷ []

abbrev pub control_opcodes : List (ℕ × Instruction)
control_opcodes =
    enumerate_from 0x00 (unreachable ∷ plain nop ∷ block None ∷ loop None ∷ if_block None ∷ else_mark ∷ [])
    ++ enumerate_from 0x0b (end_mark ∷ br 0 ∷ br_if 0 ∷ br_table [] 0 ∷ return ∷ call 0 ∷ call_indirect 0 ∷ [])

abbrev pub plain_opcodes : List (ℕ × Plain)
plain_opcodes =
    enumerate_from 0x1a (drop_operand ∷ select ∷ [])
    ++ enumerate_from 0x20 (local_get 0 ∷ local_set 0 ∷ local_tee 0 ∷ global_get 0 ∷ global_set 0 ∷ [])
    ++ map (λ row. (row.0, load row.1 0 0)) load_opcodes
    ++ map (λ row. (row.0, store row.1 0 0)) store_opcodes
    ++ (0x3f, memory_size) ∷ []
    ++ enumerate_from 0x41 (const32 0 ∷ const64 0 ∷ [])
    ++ enumerate_from 0x45 (eqz32 ∷ map rel32 comparisons)
    ++ enumerate_from 0x50 (eqz64 ∷ map rel64 comparisons)
    ++ enumerate_from 0x67 (map un32 counts ++ map bin32 operators)
    ++ enumerate_from 0x79 (map un64 counts ++ map bin64 operators)
    ++ (0xa7, wrap) ∷ []
    ++ enumerate_from 0xac (extend_s ∷ extend_u ∷ [])
    ++ enumerate_from 0xc0 (sign_extend false 8 ∷ sign_extend false 16 ∷ sign_extend true 8 ∷ sign_extend true 16 ∷ sign_extend true 32 ∷ [])
    -- a number after this byte tells memory.copy and memory.fill apart
    ++ (0xfc, memory_copy) ∷ []

abbrev pub opcodes : List (ℕ × Instruction)
opcodes = control_opcodes ++ map (λ row. (row.0, plain row.1)) plain_opcodes

-- the form whose opcode the byte is
unfoldable pub form_at : ℕ → Option Instruction
form_at byte = lookup (λ b. b == byte) opcodes

abbrev pub plain_form_of : Plain → Plain
plain_form_of (local_get x) = local_get 0
plain_form_of (local_set x) = local_set 0
plain_form_of (local_tee x) = local_tee 0
plain_form_of (global_get x) = global_get 0
plain_form_of (global_set x) = global_set 0
plain_form_of (load op align offset) = load op 0 0
plain_form_of (store op align offset) = store op 0 0
plain_form_of memory_fill = memory_copy
plain_form_of (const32 word) = const32 0
plain_form_of (const64 word) = const64 0
plain_form_of p = p

-- the form of an instruction, as it stands in the table
abbrev pub form_of : Instruction → Instruction
form_of (block r) = block None
form_of (loop r) = loop None
form_of (if_block r) = if_block None
form_of (br l) = br 0
form_of (br_if l) = br_if 0
form_of (br_table ls l) = br_table [] 0
form_of (call f) = call 0
form_of (call_indirect t) = call_indirect 0
form_of (plain p) = plain (plain_form_of p)
form_of i = i

-- the byte is the opcode of the instruction
abbrev pub IsOpcode : ℕ → Instruction → Type 0
IsOpcode byte i = form_at byte ≡ Some (form_of i)

-- no byte is: the operator of a load, a store or a sign extension isn't one of the table
abbrev pub HasNoOpcode : Instruction → Type 0
HasNoOpcode i = (byte : ℕ) → ¬ IsOpcode byte i

-- whether an instruction has immediates, which follow its opcode
abbrev pub has_plain_immediates : Plain → Bool
has_plain_immediates (local_get x) = true
has_plain_immediates (local_set x) = true
has_plain_immediates (local_tee x) = true
has_plain_immediates (global_get x) = true
has_plain_immediates (global_set x) = true
has_plain_immediates (load op align offset) = true
has_plain_immediates (store op align offset) = true
has_plain_immediates memory_size = true
has_plain_immediates memory_copy = true
has_plain_immediates memory_fill = true
has_plain_immediates (const32 word) = true
has_plain_immediates (const64 word) = true
has_plain_immediates p = false

abbrev pub has_immediates : Instruction → Bool
has_immediates (block r) = true
has_immediates (loop r) = true
has_immediates (if_block r) = true
has_immediates (br l) = true
has_immediates (br_if l) = true
has_immediates (br_table ls l) = true
has_immediates (call f) = true
has_immediates (call_indirect t) = true
has_immediates (plain p) = has_plain_immediates p
has_immediates i = false

-- the instruction that the byte alone spells
abbrev pub without_immediates : Option Instruction → Option Instruction
without_immediates None = None
without_immediates (Some i) = if has_immediates i then None else Some i

abbrev pub bare_at : ℕ → Option Instruction
bare_at byte = without_immediates (form_at byte)
