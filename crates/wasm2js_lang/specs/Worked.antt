-- Small modules of WebAssembly, what is asked of those of asm.js that stand for them, and some of asm.js that are, or aren't, what is asked.
use Rattle.std.specs.Prelude.{ℕ, true, false, List, [], ◌∷◌, Some, None, ℤ, pos, negsuc, codes, map}
use Rattle.session_lang.specs.Script.{CallPlain, ScriptPlain}
use Rattle.session_lang.specs.CallingForms.{ShapePlain}
use Rattle.wasm_lang.specs.declared.types.ValType.{ValType}
use Rattle.wasm_lang.specs.declared.types.ValType.TheVariants.{I32, I64}
use Rattle.wasm_lang.specs.declared.types.ImportKind.TheVariants as imports
use Rattle.wasm_lang.specs.declared.types.ExportKind.TheVariants as exports
use Rattle.sem_words.specs.declared.word.Bin.TheVariants.{RemU, Rotl}
use Rattle.sem_words.specs.Words.{rotl_of}
use Rattle.wasm_lang.specs.Instructions.{Instruction, plain, const32, local_get, load, memory_copy, bin32, bin64, call_indirect, end_mark}
use Rattle.wasm_lang.specs.Modules.{FunctionType, WasmModule}
use Rattle.asm_lang.specs.Trees.{number, member}
use Rattle.asm_lang.specs.Modules.{lit, Stmts, no_stmts, stmts, returns, Variable, Param, Function, Export, many, Module}
use Rattle.wasm2js_lang.specs.Tables.{a_function, empty, other, MaskedTable}
use Rattle.wasm2js_lang.specs.Calling.{Entry, entry}
use Rattle.wasm2js_lang.specs.Helpers.{Helper, turning}

abbrev pub type : List ValType → List ValType → FunctionType
type params results = record { params = params; results = results }

-- It imports a function. Function 1 is called through the table, where 1 stands at 0 and at 1, and 2, which is of another type, at 2.
-- Two of its types are one form. Of a table of five, the last two entries are empty.
abbrev pub small : WasmModule
small = record {
  types = type (I32 ∷ []) (I32 ∷ []) ∷ type (I64 ∷ I32 ∷ []) (I64 ∷ []) ∷ type (I32 ∷ []) (I32 ∷ []) ∷ [];
  imports = record { module_name = codes "env"; name = codes "p"; kind = imports.Func 1 } ∷ [];
  functions = 0 ∷ 1 ∷ 2 ∷ [];
  tables = record { min = 5; max = None } ∷ [];
  memories = [];
  globals = [];
  exports = record { name = codes "a-b"; kind = exports.Func 2 } ∷ record { name = codes "t"; kind = exports.Table 0 } ∷ record { name = codes "c"; kind = exports.Func 3 } ∷ [];
  start = None;
  elements =
      record { table = 0; offset = plain (const32 0) ∷ end_mark ∷ []; functions = 1 ∷ 2 ∷ 2 ∷ [] }
      ∷ record { table = 0; offset = plain (const32 1) ∷ end_mark ∷ []; functions = 1 ∷ [] }
      ∷ [];
  bodies =
      record { locals = []; code = plain (local_get 0) ∷ end_mark ∷ [] }
      ∷ record { locals = []; code = plain (local_get 0) ∷ end_mark ∷ [] }
      ∷ record { locals = []; code = plain (const32 5) ∷ plain (local_get 0) ∷ call_indirect 2 ∷ end_mark ∷ [] }
      ∷ [];
  segments = [];
}

-- one table of eight, under the lesser of the two numbers
abbrev pub small_tables : List MaskedTable
small_tables = record { function_type = 0; cells = a_function 1 ∷ a_function 1 ∷ other ∷ empty ∷ empty ∷ empty ∷ empty ∷ empty ∷ [] } ∷ []

abbrev pub small_shapes : List ShapePlain
small_shapes =
    record { key = codes "a-b"; wide = true ∷ false ∷ []; wide_result = true }
    ∷ record { key = codes "c"; wide = false ∷ []; wide_result = false }
    ∷ []

abbrev pub small_entries : List Entry
small_entries = entry (codes "$init") 0 false ∷ entry (codes "$hi") 0 true ∷ entry (codes "$x612d62") 3 true ∷ entry (codes "c") 1 true ∷ []

-- ---- a script, and the one with which a module of asm.js is called

abbrev pub call_line : List ℕ → List ℤ → ℕ → CallPlain
call_line name args line = record { name = name; args = args; line = line }

abbrev pub calling : List CallPlain → ScriptPlain
calling calls = record { globals = []; writes = []; calls = calls; replies = [] }

abbrev pub small_script : ScriptPlain
small_script = calling (call_line (codes "a-b") (negsuc 0 ∷ pos 7 ∷ []) 1 ∷ call_line (codes "c") (pos 1 ∷ []) 2 ∷ [])

abbrev pub small_split : ScriptPlain
small_split =
    calling (call_line (codes "$init") [] 0
    ∷ call_line (codes "$x612d62") (pos 4294967295 ∷ pos 4294967295 ∷ pos 7 ∷ []) 1
    ∷ call_line (codes "$hi") [] 1
    ∷ call_line (codes "c") (pos 1 ∷ []) 2
    ∷ [])

-- ---- a module of asm.js that is called as asked; what its functions do is no part of that

abbrev pub foreign_function : List ℕ → List ℕ → Variable
foreign_function name key = record { name = name; init = member (codes "foreign") key }

abbrev pub parameter : List ℕ → Param
parameter name = record { name = name; double = false }

abbrev pub taking : List ℕ → List (List ℕ) → Stmts → Function
taking name params body = record { name = name; params = map parameter params; locals = []; body = body }

-- `return n;`
abbrev pub giving : ℕ → Stmts
giving n = stmts (returns (Some (lit (pos n)))) no_stmts

abbrev pub exported_as : List ℕ → List ℕ → Export
exported_as key function = record { key = key; function = function }

-- .. where `$hi` gives this before any result of 64 bits
abbrev pub small_text : (high : ℕ) → Module
small_text high = record {
  name = None;
  params = codes "stdlib" ∷ codes "foreign" ∷ codes "heap" ∷ [];
  globals = foreign_function (codes "$trap") (codes "$trap") ∷ foreign_function (codes "$high") (codes "$high") ∷ foreign_function (codes "i0") (codes "p") ∷ [];
  functions =
      taking (codes "f2") (codes "x0" ∷ codes "X0" ∷ codes "x1" ∷ []) (giving 0)
      ∷ taking (codes "f3") (codes "x0" ∷ []) (giving 0)
      ∷ taking (codes "$init") [] no_stmts
      ∷ taking (codes "$hi") [] (giving high)
      ∷ [];
  tables = [];
  exports = many (exported_as (codes "$init") (codes "$init") ∷ exported_as (codes "$hi") (codes "$hi") ∷ exported_as (codes "$x612d62") (codes "f2") ∷ exported_as (codes "c") (codes "f3") ∷ []);
}

-- ---- a rotation of 64 bits, and a module of asm.js with a helper for it that has this body

abbrev pub rotating : WasmModule
rotating = record {
  types = type (I64 ∷ I64 ∷ []) (I64 ∷ []) ∷ [];
  imports = [];
  functions = 0 ∷ [];
  tables = [];
  memories = [];
  globals = [];
  exports = [];
  start = None;
  elements = [];
  bodies = record { locals = []; code = plain (local_get 0) ∷ plain (local_get 1) ∷ plain (bin64 Rotl) ∷ end_mark ∷ [] } ∷ [];
  segments = [];
}

-- ---- a copy of as many bytes as the remainder of two words of the memory says

abbrev pub load_of : ℕ → Instruction
load_of size = plain (load (record { wide = false; size = size; signed = false }) 0 0)

abbrev pub moving : WasmModule
moving = record rotating {
  types = type [] [] ∷ [];
  memories = record { min = 1; max = None } ∷ [];
  bodies =
      record {
        locals = [];
        code =
            plain (const32 0) ∷ plain (const32 4)
            ∷ plain (const32 8) ∷ load_of 4 ∷ plain (const32 12) ∷ load_of 2 ∷ plain (bin32 RemU)
            ∷ plain memory_copy ∷ end_mark ∷ [];
      } ∷ [];
}

abbrev pub rotation : Helper
rotation = turning (codes "$rotl") rotl_of

abbrev pub with_rotation : Stmts → Module
with_rotation body = record {
  name = None;
  params = [];
  globals = record { name = codes "$q"; init = number (pos 0) } ∷ [];
  functions = taking (codes "$rotl") (codes "x0" ∷ codes "x1" ∷ codes "x2" ∷ []) body ∷ [];
  tables = [];
  exports = many [];
}
