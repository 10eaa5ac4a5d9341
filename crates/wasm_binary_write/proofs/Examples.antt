-- Worked examples, which the checker computes.
use Rattle.std.specs.Prelude.{◌≡◌, [], ◌∷◌, ◌++◌, None, Some, refl}
use Rattle.sem_words.specs.declared.word.Bin.TheVariants.{Add}
use Rattle.wasm_lang.specs.declared.types.ValType.TheVariants.{I32, I64}
use Rattle.wasm_lang.specs.declared.types.ExportKind.TheVariants as exports
use Rattle.wasm_lang.specs.Instructions.{plain, local_get, const32, load, bin64, memory_fill, end_mark}
use Rattle.wasm_lang.specs.Modules.{WasmModule}
use Rattle.wasm_lang.specs.Opcodes.{narrow, wide}
use Rattle.wasm_lang.specs.Grammar.{header}
use Rattle.wasm_binary_write.specs.Opcodes.{opcode_of}
use Rattle.wasm_binary_write.specs.Spelling.{groups, unsigned, integer, instruction, vector, run, runs, spelling}

three_bytes : unsigned 624485 ≡ 0xe5 ∷ 0x8e ∷ 0x26 ∷ []
unfolding groups
three_bytes = refl

largest_of_one_byte : unsigned 127 ≡ 0x7f ∷ []
unfolding groups
largest_of_one_byte = refl

minus_one : integer 32 0xffff_ffff ≡ 0x7f ∷ []
unfolding groups
minus_one = refl

minus_123456 : integer 32 0xfffe_1dc0 ≡ 0xc0 ∷ 0xbb ∷ 0x78 ∷ []
unfolding groups
minus_123456 = refl

-- bit 6 of the last byte is the sign, so 64 takes two
sixty_four : integer 32 64 ≡ 0xc0 ∷ 0x00 ∷ []
unfolding groups
sixty_four = refl

least_of_64_bits : integer 64 0x8000_0000_0000_0000 ≡ 0x80 ∷ 0x80 ∷ 0x80 ∷ 0x80 ∷ 0x80 ∷ 0x80 ∷ 0x80 ∷ 0x80 ∷ 0x80 ∷ 0x7f ∷ []
unfolding groups
least_of_64_bits = refl

-- the alignment stands before the offset
loads : instruction (plain (load (narrow 4) 2 300)) ≡ 0x28 ∷ 0x02 ∷ 0xac ∷ 0x02 ∷ []
unfolding groups opcode_of instruction
loads = refl

-- a load of three bytes is no instruction
no_load : instruction (plain (load (wide 3) 0 0)) ≡ []
unfolding groups opcode_of instruction
no_load = refl

fills : instruction (plain memory_fill) ≡ 0xfc ∷ 0x0b ∷ 0x00 ∷ []
unfolding groups opcode_of instruction
fills = refl

-- three runs of locals
three_runs : vector run (runs (I32 ∷ I32 ∷ I64 ∷ I32 ∷ [])) ≡ 3 ∷ 2 ∷ 0x7f ∷ 1 ∷ 0x7e ∷ 1 ∷ 0x7f ∷ []
unfolding groups
three_runs = refl

abbrev empty_module : WasmModule
empty_module = record { types = []; imports = []; functions = []; tables = []; memories = []; globals = []; exports = []; start = None; elements = []; bodies = []; segments = [] }

only_header : spelling empty_module ≡ header
unfolding spelling
only_header = refl

starts : spelling (record empty_module { start = Some 0 }) ≡ header ++ 8 ∷ 1 ∷ 0 ∷ []
unfolding spelling groups
starts = refl

-- the sum of two numbers of 64 bits, exported as `m`
adds : spelling (record empty_module {
  types = record { params = I64 ∷ I64 ∷ []; results = I64 ∷ [] } ∷ [];
  functions = 0 ∷ [];
  exports = record { name = 0x6d ∷ []; kind = exports.Func 0 } ∷ [];
  bodies = record { locals = []; code = plain (local_get 0) ∷ plain (local_get 1) ∷ plain (bin64 Add) ∷ end_mark ∷ [] } ∷ [];
}) ≡ 0x00 ∷ 0x61 ∷ 0x73 ∷ 0x6d ∷ 0x01 ∷ 0x00 ∷ 0x00 ∷ 0x00 ∷ 0x01 ∷ 0x07 ∷ 0x01 ∷ 0x60 ∷ 0x02 ∷ 0x7e ∷ 0x7e ∷ 0x01 ∷ 0x7e ∷ 0x03 ∷ 0x02 ∷ 0x01 ∷ 0x00 ∷ 0x07 ∷ 0x05 ∷ 0x01 ∷ 0x01 ∷ 0x6d ∷ 0x00 ∷ 0x00 ∷ 0x0a ∷ 0x09 ∷ 0x01 ∷ 0x07 ∷ 0x00 ∷ 0x20 ∷ 0x00 ∷ 0x20 ∷ 0x01 ∷ 0x7c ∷ 0x0b ∷ []
unfolding spelling groups opcode_of instruction
adds = refl

-- a word of memory at the address that is given, exported as `l`, over five bytes of data
word_at : spelling (record empty_module {
  types = record { params = I32 ∷ []; results = I32 ∷ [] } ∷ [];
  functions = 0 ∷ [];
  memories = record { min = 1; max = None } ∷ [];
  exports = record { name = 0x6c ∷ []; kind = exports.Func 0 } ∷ [];
  bodies = record { locals = []; code = plain (local_get 0) ∷ plain (load (narrow 4) 2 0) ∷ end_mark ∷ [] } ∷ [];
  segments = record { memory = 0; offset = plain (const32 0) ∷ end_mark ∷ []; bytes = 1 ∷ 2 ∷ 3 ∷ 4 ∷ 5 ∷ [] } ∷ [];
}) ≡ 0x00 ∷ 0x61 ∷ 0x73 ∷ 0x6d ∷ 0x01 ∷ 0x00 ∷ 0x00 ∷ 0x00 ∷ 0x01 ∷ 0x06 ∷ 0x01 ∷ 0x60 ∷ 0x01 ∷ 0x7f ∷ 0x01 ∷ 0x7f ∷ 0x03 ∷ 0x02 ∷ 0x01 ∷ 0x00 ∷ 0x05 ∷ 0x03 ∷ 0x01 ∷ 0x00 ∷ 0x01 ∷ 0x07 ∷ 0x05 ∷ 0x01 ∷ 0x01 ∷ 0x6c ∷ 0x00 ∷ 0x00 ∷ 0x0a ∷ 0x09 ∷ 0x01 ∷ 0x07 ∷ 0x00 ∷ 0x20 ∷ 0x00 ∷ 0x28 ∷ 0x02 ∷ 0x00 ∷ 0x0b ∷ 0x0b ∷ 0x0b ∷ 0x01 ∷ 0x00 ∷ 0x41 ∷ 0x00 ∷ 0x0b ∷ 0x05 ∷ 0x01 ∷ 0x02 ∷ 0x03 ∷ 0x04 ∷ 0x05 ∷ []
unfolding spelling groups opcode_of instruction
word_at = refl
