-- Worked examples of canonical texts that the check computes.
use Rattle.std.specs.Prelude.{◌≡◌, true, false, List, [], ◌∷◌, ◌++◌, Some, None, codes, refl}
use Rattle.std.specs.List.{concat}
use Rattle.std.specs.Fmt.{digits}
use Rattle.sem_words.specs.declared.word.Bin.TheVariants.{Add}
use Rattle.wasm_lang.specs.declared.types.ValType.TheVariants.{I32, I64}
use Rattle.wasm_lang.specs.declared.types.ImportKind.TheVariants as imports
use Rattle.wasm_lang.specs.declared.types.ExportKind.TheVariants as exports
use Rattle.wasm_lang.specs.Instructions.{Instruction, local_get, const32, const64, load, store, bin64, plain, block, loop, if_block, else_mark, end_mark, br_if, br_table, call, call_indirect}
use Rattle.wasm_lang.specs.Modules.{WasmModule}
use Rattle.wat_lang.specs.Printing.{joined, code_pieces, string_text, canonical}

-- ---- strings and code

pub quotes_and_other_bytes : string_text (codes "a\"\\~" ++ 0 ∷ 127 ∷ 255 ∷ []) ≡ codes "\"a\\22\\5c~\\00\\7f\\ff\""
quotes_and_other_bytes = refl

pub constants_are_signed : joined false (code_pieces (plain (const32 0xffffffff) ∷ plain (const64 0x8000000000000000) ∷ plain (const32 7) ∷ end_mark ∷ [])) ≡ codes "i32.const -1\ni64.const -9223372036854775808\ni32.const 7\n"
unfolding digits
constants_are_signed = refl

pub offset_and_alignment_always_stand : joined false (code_pieces (
    plain (load (record { wide = true; size = 1; signed = true }) 0 16) ∷ plain (store (record { wide = false; size = 4; signed = false }) 2 0) ∷ end_mark ∷ []))
    ≡ codes "i64.load8_s offset=16 align=1\ni32.store offset=0 align=4\n"
unfolding digits
offset_and_alignment_always_stand = refl

pub blocks_and_branches : joined false (code_pieces (
    block None ∷ loop (Some I64) ∷ if_block (Some I32) ∷ else_mark ∷ end_mark ∷ br_if 1 ∷ br_table (0 ∷ 2 ∷ []) 1 ∷ call 3 ∷ call_indirect 4 ∷ end_mark ∷ end_mark ∷ end_mark ∷ []))
    ≡ concat (codes "block\nloop (result i64)\nif (result i32)\nelse\nend\nbr_if 1\n" ∷ codes "br_table 0 2 1\ncall 3\ncall_indirect (type 4)\nend\nend\n" ∷ [])
unfolding digits
blocks_and_branches = refl

-- ---- modules

abbrev pub nothing : WasmModule
nothing = record { types = []; imports = []; functions = []; tables = []; memories = []; globals = []; exports = []; start = None; elements = []; bodies = []; segments = [] }

pub empty_module : canonical nothing ≡ codes "(module\n)\n"
empty_module = refl

pub sum_of_two : canonical (record nothing {
  types = record { params = I64 ∷ I64 ∷ []; results = I64 ∷ [] } ∷ [];
  functions = 0 ∷ [];
  bodies = record { locals = []; code = plain (local_get 0) ∷ plain (local_get 1) ∷ plain (bin64 Add) ∷ end_mark ∷ [] } ∷ [];
  exports = record { name = codes "m"; kind = exports.Func 0 } ∷ [];
}) ≡ codes "(module\n(type (func (param i64 i64) (result i64)))\n(func (type 0)\nlocal.get 0\nlocal.get 1\ni64.add\n)\n(export \"m\" (func 0))\n)\n"
unfolding digits
sum_of_two = refl

abbrev pub constant : List Instruction
constant = plain (const32 8) ∷ end_mark ∷ []

abbrev pub every_section : WasmModule
every_section = record {
  types = record { params = []; results = [] } ∷ [];
  imports = record { module_name = codes "env"; name = codes "f"; kind = imports.Func 0 }
      ∷ record { module_name = codes "env"; name = codes "g"; kind = imports.Global (record { kind = I32; mutable = false }) } ∷ [];
  functions = 0 ∷ [];
  tables = record { min = 1; max = None } ∷ [];
  memories = record { min = 1; max = Some 2 } ∷ [];
  globals = record { kind = record { kind = I32; mutable = true }; init = constant } ∷ [];
  exports = record { name = codes "memory"; kind = exports.Memory 0 } ∷ record { name = []; kind = exports.Table 0 } ∷ [];
  start = Some 1;
  elements = record { table = 0; offset = constant; functions = 0 ∷ 1 ∷ [] } ∷ [];
  bodies = record { locals = I32 ∷ I64 ∷ []; code = end_mark ∷ [] } ∷ [];
  segments = record { memory = 0; offset = constant; bytes = 10 ∷ [] } ∷ [];
}

pub fields_in_order : canonical every_section ≡ concat (
    codes "(module\n(type (func))\n(import \"env\" \"f\" (func (type 0)))\n(import \"env\" \"g\" (global i32))\n(func (type 0) (local i32 i64)\n)\n"
    ∷ codes "(table 1 funcref)\n(memory 1 2)\n(global (mut i32) (i32.const 8))\n(export \"memory\" (memory 0))\n(export \"\" (table 0))\n(start 1)\n"
    ∷ codes "(elem (i32.const 8) func 0 1)\n(data (i32.const 8) \"\\0a\")\n)\n" ∷ [])
unfolding digits
fields_in_order = refl
