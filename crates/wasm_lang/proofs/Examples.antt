-- Worked examples, which the checker computes.
use Rattle.std.specs.Prelude.{◌≡◌, ℕ, List, [], ◌∷◌, ◌++◌, false, Ok, Err, None, refl, take}
use Rattle.std.specs.Str.{is_utf8, chars}
use Rattle.std.specs.Char.{encode_utf8}
use Rattle.sem_words.specs.declared.word.Bin.TheVariants.{Add}
use Rattle.wasm_lang.specs.declared.fault.NumberFault.TheVariants.{Illegal, Ends}
use Rattle.wasm_lang.specs.declared.fault.Row.TheVariants.{Magic, Truncated, Leb, SectionOrder, UnknownByte, Counts, Float, MemoryGrow}
use Rattle.wasm_lang.specs.declared.types.ValType.TheVariants.{I32, I64}
use Rattle.wasm_lang.specs.declared.types.ExportKind.TheVariants as exports
use Rattle.wasm_lang.specs.Instructions.{plain, local_get, bin64, sign_extend, memory_fill, if_block, else_mark, end_mark}
use Rattle.wasm_lang.specs.Modules.{WasmModule}
use Rattle.wasm_lang.specs.Numbers.{IsUnsigned}
use Rattle.wasm_lang.specs.Opcodes.{form_at}
use Rattle.wasm_lang.specs.Grammar.{header}
use Rattle.wasm_lang.specs.Reading.{unsigned_at, integer_at, fault}
use Rattle.wasm_lang.specs.ReadingCode.{after_opcode, opcode_fault, instruction_field, code_field}
use Rattle.wasm_lang.specs.ReadingModule.{read_module}
use Rattle.wasm_lang.proofs.Numbers.{unsigned_is}

-- ---- numbers

three_bytes : unsigned_at 32 (0xe5 ∷ 0x8e ∷ 0x26 ∷ []) ≡ Ok (624485, [])
three_bytes = refl

-- padding is legal, and what follows is left
padded : unsigned_at 32 (0x80 ∷ 0x80 ∷ 0x80 ∷ 0x80 ∷ 0x00 ∷ 0x07 ∷ []) ≡ Ok (0, 0x07 ∷ [])
padded = refl

padded_is_spelling : IsUnsigned 32 0 (0x80 ∷ 0x80 ∷ 0x80 ∷ 0x80 ∷ 0x00 ∷ []) []
padded_is_spelling = unsigned_is 32 0 (0x80 ∷ 0x80 ∷ 0x80 ∷ 0x80 ∷ 0x00 ∷ []) [] refl

-- the fifth byte of 32 bits has four
unused_bits : unsigned_at 32 (0x80 ∷ 0x80 ∷ 0x80 ∷ 0x80 ∷ 0x10 ∷ []) ≡ Err Illegal
unused_bits = refl

sixth_byte : unsigned_at 32 (0x80 ∷ 0x80 ∷ 0x80 ∷ 0x80 ∷ 0x80 ∷ 0x00 ∷ []) ≡ Err Illegal
sixth_byte = refl

unfinished : unsigned_at 32 (0x80 ∷ 0x80 ∷ []) ≡ Err Ends
unfinished = refl

-- -1 and -123456, as words of 32 bits
minus_one : integer_at 32 (0x7f ∷ []) ≡ Ok (0xffff_ffff, [])
minus_one = refl

minus_123456 : integer_at 32 (0xc0 ∷ 0xbb ∷ 0x78 ∷ []) ≡ Ok (0xfffe_1dc0, [])
minus_123456 = refl

-- the unused bits of a signed number are copies of its sign
minus_one_padded : integer_at 32 (0xff ∷ 0xff ∷ 0xff ∷ 0xff ∷ 0x7f ∷ []) ≡ Ok (0xffff_ffff, [])
minus_one_padded = refl

mixed_unused_bits : integer_at 32 (0xff ∷ 0xff ∷ 0xff ∷ 0xff ∷ 0x4f ∷ []) ≡ Err Illegal
mixed_unused_bits = refl

least_of_64_bits : integer_at 64 (0x80 ∷ 0x80 ∷ 0x80 ∷ 0x80 ∷ 0x80 ∷ 0x80 ∷ 0x80 ∷ 0x80 ∷ 0x80 ∷ 0x7f ∷ []) ≡ Ok (0x8000_0000_0000_0000, [])
least_of_64_bits = refl

-- ---- instructions

fills : instruction_field (record { at = 0; bytes = 0xfc ∷ 0x0b ∷ 0x00 ∷ [] }) ≡ Ok (plain memory_fill, record { at = 3; bytes = [] })
unfolding after_opcode form_at
fills = refl

no_other_number : instruction_field (record { at = 0; bytes = 0xfc ∷ 0x08 ∷ 0x00 ∷ [] }) ≡ fault UnknownByte 1
unfolding after_opcode form_at
no_other_number = refl

a_float : instruction_field (record { at = 7; bytes = 0x43 ∷ [] }) ≡ fault Float 7
unfolding after_opcode form_at opcode_fault
a_float = refl

grows : instruction_field (record { at = 7; bytes = 0x40 ∷ 0x00 ∷ [] }) ≡ fault MemoryGrow 7
unfolding after_opcode form_at opcode_fault
grows = refl

-- an else at another place than in the first arm of an if
second_else : code_field (record { at = 0; bytes = 0x04 ∷ 0x40 ∷ 0x05 ∷ 0x05 ∷ 0x0b ∷ 0x0b ∷ [] }) ≡ fault UnknownByte 3
unfolding after_opcode form_at
second_else = refl

two_arms : code_field (record { at = 0; bytes = 0x04 ∷ 0x40 ∷ 0x05 ∷ 0x0b ∷ 0x0b ∷ 0x0b ∷ [] }) ≡ Ok (if_block None ∷ else_mark ∷ end_mark ∷ end_mark ∷ [], record { at = 5; bytes = 0x0b ∷ [] })
unfolding after_opcode form_at
two_arms = refl

-- ---- modules

abbrev empty_module : WasmModule
empty_module = record { types = []; imports = []; functions = []; tables = []; memories = []; globals = []; exports = []; start = None; elements = []; bodies = []; segments = [] }

only_header : read_module header ≡ Ok empty_module
unfolding read_module
only_header = refl

five_bytes : read_module (take 5 header) ≡ fault Truncated 5
unfolding read_module
five_bytes = refl

other_magic : read_module (0x00 ∷ 0x62 ∷ []) ≡ fault Magic 1
unfolding read_module
other_magic = refl

-- a section of no types, with its count padded; and with a bit too many
padded_count : read_module (header ++ 0x01 ∷ 0x05 ∷ 0x80 ∷ 0x80 ∷ 0x80 ∷ 0x80 ∷ 0x00 ∷ []) ≡ Ok empty_module
unfolding read_module
padded_count = refl

wide_count : read_module (header ++ 0x01 ∷ 0x05 ∷ 0x80 ∷ 0x80 ∷ 0x80 ∷ 0x80 ∷ 0x10 ∷ []) ≡ fault Leb 10
unfolding read_module
wide_count = refl

data_count_of_none : read_module (header ++ 0x0c ∷ 0x01 ∷ 0x00 ∷ []) ≡ Ok empty_module
unfolding read_module
data_count_of_none = refl

data_count_of_one : read_module (header ++ 0x0c ∷ 0x01 ∷ 0x01 ∷ []) ≡ fault Counts 11
unfolding read_module
data_count_of_one = refl

-- the sections of memories and of types, in the wrong order; and an id that isn't one
wrong_order : read_module (header ++ 0x05 ∷ 0x01 ∷ 0x00 ∷ 0x01 ∷ 0x01 ∷ 0x00 ∷ []) ≡ fault SectionOrder 11
unfolding read_module
wrong_order = refl

no_section : read_module (header ++ 0x0d ∷ 0x00 ∷ []) ≡ fault UnknownByte 8
unfolding read_module
no_section = refl

-- the sum of two numbers of 64 bits, exported as `m`
abbrev adding_module : List ℕ
adding_module = 0x00 ∷ 0x61 ∷ 0x73 ∷ 0x6d ∷ 0x01 ∷ 0x00 ∷ 0x00 ∷ 0x00 ∷ 0x01 ∷ 0x07 ∷ 0x01 ∷ 0x60 ∷ 0x02 ∷ 0x7e ∷ 0x7e ∷ 0x01 ∷ 0x7e ∷ 0x03 ∷ 0x02 ∷ 0x01 ∷ 0x00 ∷ 0x07 ∷ 0x05 ∷ 0x01 ∷ 0x01 ∷ 0x6d ∷ 0x00 ∷ 0x00 ∷ 0x0a ∷ 0x09 ∷ 0x01 ∷ 0x07 ∷ 0x00 ∷ 0x20 ∷ 0x00 ∷ 0x20 ∷ 0x01 ∷ 0x7c ∷ 0x0b ∷ []

adds : read_module adding_module ≡ Ok (record {
  types = record { params = I64 ∷ I64 ∷ []; results = I64 ∷ [] } ∷ [];
  imports = [];
  functions = 0 ∷ [];
  tables = [];
  memories = [];
  globals = [];
  exports = record { name = 0x6d ∷ []; kind = exports.Func 0 } ∷ [];
  start = None;
  elements = [];
  bodies = record { locals = []; code = plain (local_get 0) ∷ plain (local_get 1) ∷ plain (bin64 Add) ∷ end_mark ∷ [] } ∷ [];
  segments = [];
})
unfolding read_module after_opcode form_at is_utf8 chars encode_utf8
adds = refl

-- its first 21 bytes have a function and no body, and its first 30 end in a section
no_bodies : read_module (take 21 adding_module) ≡ fault Counts 21
unfolding read_module after_opcode form_at
no_bodies = refl

cut_short : read_module (take 30 adding_module) ≡ fault Truncated 30
unfolding read_module after_opcode form_at is_utf8 chars encode_utf8
cut_short = refl

-- the low eight bits of a number of 32, extended with their sign and exported as `e`
abbrev extending_module : List ℕ
extending_module = header ++ 0x01 ∷ 0x06 ∷ 0x01 ∷ 0x60 ∷ 0x01 ∷ 0x7f ∷ 0x01 ∷ 0x7f ∷ 0x03 ∷ 0x02 ∷ 0x01 ∷ 0x00 ∷ 0x07 ∷ 0x05 ∷ 0x01 ∷ 0x01 ∷ 0x65 ∷ 0x00 ∷ 0x00 ∷ 0x0a ∷ 0x07 ∷ 0x01 ∷ 0x05 ∷ 0x00 ∷ 0x20 ∷ 0x00 ∷ 0xc0 ∷ 0x0b ∷ []

extends : read_module extending_module ≡ Ok (record empty_module {
  types = record { params = I32 ∷ []; results = I32 ∷ [] } ∷ [];
  functions = 0 ∷ [];
  exports = record { name = 0x65 ∷ []; kind = exports.Func 0 } ∷ [];
  bodies = record { locals = []; code = plain (local_get 0) ∷ plain (sign_extend false 8) ∷ end_mark ∷ [] } ∷ [];
})
unfolding read_module after_opcode form_at is_utf8 chars encode_utf8
extends = refl
