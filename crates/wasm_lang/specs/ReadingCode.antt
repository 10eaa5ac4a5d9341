-- Reading instructions.
use Rattle.std.specs.Prelude.{ℕ, zero, suc, List, [], ◌∷◌, length, Bool, true, false, nat_lt, nat_le, ◌==◌, ◌||◌, ◌&&◌, if◌then◌else◌, Result, Ok, Err, Option, Some, None}
use Rattle.wasm_lang.specs.declared.fault.Fault.{Fault}
use Rattle.wasm_lang.specs.declared.fault.Row.{Row}
use Rattle.wasm_lang.specs.declared.fault.Row.TheVariants.{SectionSize, UnknownByte, Float, MemoryGrow, Limit}
use Rattle.wasm_lang.specs.Instructions.{Plain, local_get, local_set, local_tee, global_get, global_set, load, store, memory_size, memory_copy, memory_fill, const32, const64, Instruction, block, loop, if_block, else_mark, end_mark, br, br_if, br_table, call, call_indirect, plain}
use Rattle.wasm_lang.specs.Opcodes.{form_at}
use Rattle.wasm_lang.specs.Limits.{most_levels}
use Rattle.wasm_lang.specs.Reading.{Input, Field, ◌>>=◌, fault, expects, byte, u32, integer, exactly, onto, vec_field, block_type_field}

-- the opcodes of float instructions
abbrev pub is_float_opcode : ℕ → Bool
is_float_opcode b =
    is_one_of (0x2a ∷ 0x2b ∷ 0x38 ∷ 0x39 ∷ 0x43 ∷ 0x44 ∷ []) || is_within 0x5b 0x66 || is_within 0x8b 0xa6 || is_within 0xa8 0xab || is_within 0xae 0xbf
  where
    is_one_of : List ℕ → Bool
    is_one_of [] = false
    is_one_of (c ∷ cs) = (b == c) || is_one_of cs

    is_within : ℕ → ℕ → Bool
    is_within least most = nat_le least b && nat_le b most

-- why a byte is no opcode
unfoldable pub opcode_fault : ℕ → Row
opcode_fault b = if is_float_opcode b then Float else (if b == 0x40 then MemoryGrow else UnknownByte)

-- an alignment and an offset
abbrev pub access_field : Input → Field (ℕ × ℕ)
access_field i = u32 i >>= λ align. u32 align.1 >>= λ offset. Ok ((align.0, offset.0), offset.1)

-- the bytes 0 after the number that stands after 0xfc, at a place
abbrev pub copy_or_fill_on : (at number : ℕ) → Input → Field Plain
copy_or_fill_on at n i =
    if n == 10 then (exactly 0 i >>= λ a. onto (λ b. memory_copy) (exactly 0 a.1))
    else (if n == 11 then onto (λ a. memory_fill) (exactly 0 i)
    else fault UnknownByte at)

abbrev pub copy_or_fill : Input → Field Plain
copy_or_fill i = u32 i >>= λ n. copy_or_fill_on i.at n.0 n.1

-- what follows the opcode of a form
abbrev pub plain_immediates : Plain → Input → Field Plain
plain_immediates (local_get x) i = onto local_get (u32 i)
plain_immediates (local_set x) i = onto local_set (u32 i)
plain_immediates (local_tee x) i = onto local_tee (u32 i)
plain_immediates (global_get x) i = onto global_get (u32 i)
plain_immediates (global_set x) i = onto global_set (u32 i)
plain_immediates (load op align offset) i = onto (λ access. load op access.0 access.1) (access_field i)
plain_immediates (store op align offset) i = onto (λ access. store op access.0 access.1) (access_field i)
plain_immediates memory_size i = onto (λ b. memory_size) (exactly 0 i)
plain_immediates memory_copy i = copy_or_fill i
plain_immediates (const32 word) i = onto const32 (integer 32 i)
plain_immediates (const64 word) i = onto const64 (integer 64 i)
plain_immediates p i = Ok (p, i)

abbrev pub immediates : Instruction → Input → Field Instruction
immediates (block r) i = onto block (block_type_field i)
immediates (loop r) i = onto loop (block_type_field i)
immediates (if_block r) i = onto if_block (block_type_field i)
immediates (br l) i = onto br (u32 i)
immediates (br_if l) i = onto br_if (u32 i)
immediates (br_table ls l) i = vec_field u32 i >>= λ ls. u32 ls.1 >>= λ l. Ok (br_table ls.0 l.0, l.1)
immediates (call f) i = onto call (u32 i)
immediates (call_indirect t) i = u32 i >>= λ t. exactly 0 t.1 >>= λ b. Ok (call_indirect t.0, b.1)
immediates (plain p) i = onto plain (plain_immediates p i)
immediates form i = Ok (form, i)

-- what follows an opcode of a form; a byte of no form is refused at its place
abbrev pub by_form : (at byte : ℕ) → Option Instruction → Input → Field Instruction
by_form at b None i = fault (opcode_fault b) at
by_form at b (Some form) i = immediates form i

-- what follows a byte that stands at a place
unfoldable pub after_opcode : (at byte : ℕ) → Input → Field Instruction
after_opcode at b i = by_form at b (form_at b) i

abbrev pub instruction_field : Input → Field Instruction
instruction_field i = byte i >>= λ b. after_opcode i.at b.0 b.1

-- ---- expressions

-- how a block that stands open was opened: as the first arm of an if, which an else may follow, or in another way
pub data Opening : Type 0 where
  straight first_arm : Opening

abbrev pub may_turn : List Opening → Bool
may_turn (first_arm ∷ os) = true
may_turn _ = false

-- whether the next instruction may stand inside these blocks, the innermost first, by its opcode
abbrev pub may_stand : List Opening → Input → Result (Unit {0}) Fault
may_stand os i = by i.bytes
  where
    by : List ℕ → Result (Unit {0}) Fault
    by [] = Ok tt
    by (b ∷ bs) =
        if b == 0x05 then expects (may_turn os) UnknownByte i.at
        else (if nat_le 0x02 b && nat_le b 0x04 then expects (nat_lt (length os) most_levels) Limit i.at else Ok tt)

-- the blocks that stand open after an instruction; None where it closes the expression
abbrev pub opened : List Opening → Instruction → Option (List Opening)
opened os (block r) = Some (straight ∷ os)
opened os (loop r) = Some (straight ∷ os)
opened os (if_block r) = Some (first_arm ∷ os)
opened (o ∷ os) else_mark = Some (straight ∷ os)
opened (o ∷ os) end_mark = Some os
opened [] end_mark = None
opened os i = Some os

-- an instruction, and those that follow where it leaves these blocks open
abbrev pub code_on : Instruction × Input → (List Opening → Field (List Instruction)) → Option (List Opening) → Field (List Instruction)
code_on x rest None = Ok (x.0 ∷ [], x.1)
code_on x rest (Some os) = rest os >>= λ is. Ok (x.0 ∷ is.0, is.1)

-- The instructions of an expression from inside these blocks on. There are no more of them than bytes.
abbrev pub code_from : ℕ → List Opening → Input → Field (List Instruction)
code_from zero os i = fault SectionSize i.at
code_from (suc n) os i =
    may_stand os i >>= λ _.
    instruction_field i >>= λ x.
    code_on x (λ os. code_from n os x.1) (opened os x.0)

abbrev pub code_field : Input → Field (List Instruction)
code_field i = code_from (length i.bytes) [] i

-- ---- the instructions that bytes spell

-- an instruction, and those that follow
abbrev pub spelled_on : Field Instruction → (Input → List Instruction) → List Instruction
spelled_on (Ok x) rest = x.0 ∷ rest x.1
spelled_on (Err e) rest = []

-- so many at most
abbrev pub spelled_within : ℕ → Input → List Instruction
spelled_within zero i = []
spelled_within (suc n) i = spelled_on (instruction_field i) (λ j. spelled_within n j)

-- the instructions one after another, up to the end or to bytes that are none
unfoldable pub spelled : List ℕ → List Instruction
spelled bytes = spelled_within (length bytes) (record { at = 0; bytes = bytes })
