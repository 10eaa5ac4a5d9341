-- The opcode of an instruction: the table of opcodes, read the other way.
use Rattle.std.specs.Prelude.{ℕ, Bool, true, false, ◌+◌, List, [], ◌∷◌, Option, Some, None, if◌then◌else◌, ◌==◌, ◌&&◌}
use Rattle.sem_words.specs.declared.word.Bin.{Bin}
use Rattle.sem_words.specs.declared.word.Bin.TheVariants.{Add, Sub, Mul, DivS, DivU, RemS, RemU, And, Or, Xor, Shl, ShrS, ShrU, Rotl, Rotr}
use Rattle.sem_words.specs.declared.word.Un.{Un}
use Rattle.sem_words.specs.declared.word.Un.TheVariants.{Clz, Ctz, Popcnt}
use Rattle.sem_words.specs.declared.word.Rel.{Rel}
use Rattle.sem_words.specs.declared.word.Rel.TheVariants.{Eq, Ne, LtS, LtU, GtS, GtU, LeS, LeU, GeS, GeU}
use Rattle.wasm_lang.specs.declared.types.MemOp.{MemOp}
use Rattle.wasm_lang.specs.Opcodes.{load_opcodes, store_opcodes}
use Rattle.wasm_lang.specs.Instructions.{Plain, nop, drop_operand, select, local_get, local_set, local_tee, global_get, global_set, load, store, memory_size, memory_copy, memory_fill, const32, const64, eqz32, eqz64, rel32, rel64, un32, un64, bin32, bin64, wrap, extend_s, extend_u, sign_extend, Instruction, unreachable, block, loop, if_block, else_mark, end_mark, br, br_if, br_table, return, call, call_indirect, plain}

-- the first row for which a value is the same
abbrev pub row_of : {X : Type 0} → (X → X → Bool) → List (ℕ × X) → X → Option ℕ
row_of same [] x = None
row_of same (row ∷ rows) x = if same row.1 x then Some row.0 else row_of same rows x

abbrev pub same_bool : Bool → Bool → Bool
same_bool true b = b
same_bool false true = false
same_bool false false = true

abbrev pub same_memory_op : MemOp → MemOp → Bool
same_memory_op a b = same_bool a.wide b.wide && (same_bool a.signed b.signed && (a.size == b.size))

-- the place of an operator among those of its kind

abbrev pub comparison_place : Rel → ℕ
comparison_place Eq = 0
comparison_place Ne = 1
comparison_place LtS = 2
comparison_place LtU = 3
comparison_place GtS = 4
comparison_place GtU = 5
comparison_place LeS = 6
comparison_place LeU = 7
comparison_place GeS = 8
comparison_place GeU = 9

abbrev pub count_place : Un → ℕ
count_place Clz = 0
count_place Ctz = 1
count_place Popcnt = 2

abbrev pub operator_place : Bin → ℕ
operator_place Add = 0
operator_place Sub = 1
operator_place Mul = 2
operator_place DivS = 3
operator_place DivU = 4
operator_place RemS = 5
operator_place RemU = 6
operator_place And = 7
operator_place Or = 8
operator_place Xor = 9
operator_place Shl = 10
operator_place ShrS = 11
operator_place ShrU = 12
operator_place Rotl = 13
operator_place Rotr = 14

-- sign extensions, by the width of their operand and the bits that they extend
abbrev pub extension_opcodes : List (ℕ × (Bool × ℕ))
extension_opcodes = (0xc0, (false, 8)) ∷ (0xc1, (false, 16)) ∷ (0xc2, (true, 8)) ∷ (0xc3, (true, 16)) ∷ (0xc4, (true, 32)) ∷ []

abbrev pub same_extension : Bool × ℕ → Bool × ℕ → Bool
same_extension a b = same_bool a.0 b.0 && (a.1 == b.1)

abbrev pub plain_opcode_of : Plain → Option ℕ
plain_opcode_of nop = Some 0x01
plain_opcode_of drop_operand = Some 0x1a
plain_opcode_of select = Some 0x1b
plain_opcode_of (local_get x) = Some 0x20
plain_opcode_of (local_set x) = Some 0x21
plain_opcode_of (local_tee x) = Some 0x22
plain_opcode_of (global_get x) = Some 0x23
plain_opcode_of (global_set x) = Some 0x24
plain_opcode_of (load op align offset) = row_of same_memory_op load_opcodes op
plain_opcode_of (store op align offset) = row_of same_memory_op store_opcodes op
plain_opcode_of memory_size = Some 0x3f
plain_opcode_of memory_copy = Some 0xfc
plain_opcode_of memory_fill = Some 0xfc
plain_opcode_of (const32 word) = Some 0x41
plain_opcode_of (const64 word) = Some 0x42
plain_opcode_of eqz32 = Some 0x45
plain_opcode_of (rel32 op) = Some (0x46 + comparison_place op)
plain_opcode_of eqz64 = Some 0x50
plain_opcode_of (rel64 op) = Some (0x51 + comparison_place op)
plain_opcode_of (un32 op) = Some (0x67 + count_place op)
plain_opcode_of (bin32 op) = Some (0x6a + operator_place op)
plain_opcode_of (un64 op) = Some (0x79 + count_place op)
plain_opcode_of (bin64 op) = Some (0x7c + operator_place op)
plain_opcode_of wrap = Some 0xa7
plain_opcode_of extend_s = Some 0xac
plain_opcode_of extend_u = Some 0xad
plain_opcode_of (sign_extend wide bits) = row_of same_extension extension_opcodes (wide, bits)

-- None for a load, a store or a sign extension that isn't one of the table
unfoldable pub opcode_of : Instruction → Option ℕ
opcode_of unreachable = Some 0x00
opcode_of (block r) = Some 0x02
opcode_of (loop r) = Some 0x03
opcode_of (if_block r) = Some 0x04
opcode_of else_mark = Some 0x05
opcode_of end_mark = Some 0x0b
opcode_of (br l) = Some 0x0c
opcode_of (br_if l) = Some 0x0d
opcode_of (br_table ls l) = Some 0x0e
opcode_of return = Some 0x0f
opcode_of (call f) = Some 0x10
opcode_of (call_indirect t) = Some 0x11
opcode_of (plain p) = plain_opcode_of p
