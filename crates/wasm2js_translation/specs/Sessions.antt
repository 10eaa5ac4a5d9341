-- Further modules of WebAssembly that are run in both languages: variables, control, calls, tables and the memory.
use Rattle.std.specs.Prelude.{ℕ, ◌+◌, ◌*◌, ◌^◌, Bool, false, true, List, [], ◌∷◌, ◌++◌, replicate, Some, None, ℤ, pos, negsuc, codes}
use Rattle.sem_words.specs.declared.word.Bin.TheVariants as bins
use Rattle.sem_words.specs.declared.word.Rel.TheVariants as rels
use Rattle.session_lang.specs.Script.{ScriptPlain}
use Rattle.session_lang.specs.CallingForms.{ShapePlain}
use Rattle.wasm_lang.specs.declared.types.ValType.TheVariants.{I32, I64}
use Rattle.wasm_lang.specs.declared.types.MemOp.{MemOp}
use Rattle.wasm_lang.specs.declared.types.ImportKind.TheVariants as imports
use Rattle.wasm_lang.specs.Instructions.{Instruction, block, loop, if_block, else_mark, end_mark, br, br_if, br_table, return, call, plain, global_get, global_set, local_tee, select, drop_operand, nop, eqz32, rel32, bin32, bin64, wrap, extend_u, load, store, memory_size, memory_fill}
use Rattle.wasm_lang.specs.Modules.{Imported, WasmModule}
use Rattle.wasm2js_translation.specs.Pieces.{type, body, get, set, int, long, from_env, exported, limits, bytes, global, nothing_at_all, alone}
use Rattle.wasm2js_translation.specs.Programs.{called, calls, replied, answered, shape}

-- ---- an imported global, own ones of both types, a choice of both, and a local that no code names

abbrev pub imported_base : Imported
imported_base = record { module_name = codes "env"; name = codes "base"; kind = imports.Global (record { kind = I32; mutable = false }) }

abbrev pub variables_code : List Instruction
variables_code =
    get 1 ∷ plain (local_tee 3) ∷ plain (global_get 2) ∷ get 0 ∷ plain select ∷ plain (global_set 2)
    ∷ get 0 ∷ plain (global_get 1) ∷ int 1 ∷ plain select ∷ plain (global_set 1)
    ∷ plain (global_get 0) ∷ call 0 ∷ plain (global_get 1) ∷ call 0 ∷ plain (global_get 2) ∷ call 1
    ∷ plain nop ∷ int 3 ∷ plain drop_operand ∷ get 3 ∷ []

abbrev pub variables : WasmModule
variables = record nothing_at_all {
  types = type (I32 ∷ []) [] ∷ type (I64 ∷ []) [] ∷ type (I32 ∷ I64 ∷ []) (I64 ∷ []) ∷ [];
  imports = from_env (codes "p") 0 ∷ from_env (codes "q") 1 ∷ imported_base ∷ [];
  functions = 2 ∷ [];
  globals = global I32 (plain (global_get 0)) ∷ global I64 (long (2 ^ 40 + 2 ^ 31)) ∷ [];
  exports = exported (codes "f") 2 ∷ [];
  bodies = body (I32 ∷ I64 ∷ []) variables_code ∷ [];
}

abbrev pub variables_shape : List ShapePlain
variables_shape = shape (false ∷ true ∷ []) true

abbrev pub variables_script : ScriptPlain
variables_script =
    record (answered 6 (called (pos 0 ∷ pos 9 ∷ []) 2 ∷ called (pos 5 ∷ negsuc 0 ∷ []) 3 ∷ []))
    { globals = record { name = codes "base"; value = negsuc 6; line = 1 } ∷ [] }

-- ---- turns of a loop, which is left and gone on with from inside; ifs; and branches out of the function

abbrev pub is_equal : ℕ → ℕ → List Instruction
is_equal x n = get x ∷ int n ∷ plain (rel32 rels.Eq) ∷ []

abbrev pub adds : ℕ → List Instruction → List Instruction
adds x code = get x ∷ [] ++ code ++ plain (bin32 bins.Add) ∷ set x ∷ []

-- local 1 adds up, local 2 counts the turns
abbrev pub turns_code : List Instruction
turns_code =
    block None ∷ loop None ∷ get 2 ∷ get 0 ∷ plain (rel32 rels.GeS) ∷ br_if 1
    ∷ adds 2 (int 1 ∷ [])
    ++ is_equal 2 3 ++ if_block None ∷ br 1 ∷ end_mark
    ∷ block None ∷ block None ∷ get 2 ∷ br_table (3 ∷ 0 ∷ 1 ∷ 2 ∷ []) 1
    ∷ end_mark ∷ adds 1 (int 100 ∷ [])
    ++ end_mark ∷ adds 1 (get 2 ∷ [])
    ++ br 0 ∷ end_mark ∷ end_mark
    ∷ get 1 ∷ is_equal 0 6 ++ br_if 0 ∷ plain drop_operand
    ∷ is_equal 0 4 ++ if_block (Some I32) ∷ get 1 ∷ else_mark ∷ is_equal 0 2 ++ if_block None ∷ int 77 ∷ return ∷ end_mark
    ∷ get 1 ∷ int 1000 ∷ plain (bin32 bins.Add) ∷ end_mark ∷ []

abbrev pub turning : WasmModule
turning = alone (type (I32 ∷ []) (I32 ∷ [])) (I32 ∷ I32 ∷ []) turns_code

abbrev pub turning_script : ScriptPlain
turning_script = calls (called (pos 6 ∷ []) 1 ∷ called (pos 4 ∷ []) 2 ∷ called (pos 2 ∷ []) 3 ∷ called (negsuc 0 ∷ []) 4 ∷ called (pos 5 ∷ []) 5 ∷ [])

-- ---- a branch by an index with more labels than one switch has cases: 512 leads past both blocks

abbrev pub many_labels : List ℕ
many_labels = replicate 512 0 ++ 1 ∷ []

abbrev pub branching : WasmModule
branching = alone (type (I32 ∷ []) (I32 ∷ [])) []
    (block None ∷ block None ∷ get 0 ∷ br_table many_labels 0 ∷ end_mark ∷ int 10 ∷ return ∷ end_mark ∷ int 20 ∷ [])

abbrev pub branching_script : ScriptPlain
branching_script = calls (called (pos 0 ∷ []) 1 ∷ called (pos 511 ∷ []) 2 ∷ called (pos 512 ∷ []) 3 ∷ called (pos 513 ∷ []) 4 ∷ called (negsuc 0 ∷ []) 5 ∷ [])

-- ---- a function that calls itself with a result of 64 bits, and imports that are called with words of both types, and exported

abbrev pub calling_code : List Instruction
calling_code =
    get 0 ∷ plain eqz32 ∷ if_block (Some I64) ∷ get 1 ∷ else_mark
    ∷ get 0 ∷ get 1 ∷ get 0 ∷ call 0 ∷ plain drop_operand
    ∷ get 0 ∷ plain extend_u ∷ get 0 ∷ int 1 ∷ plain (bin32 bins.Sub) ∷ get 1 ∷ long (2 ^ 32) ∷ plain (bin64 bins.Add) ∷ call 1 ∷ plain (bin64 bins.Add) ∷ end_mark ∷ []

abbrev pub calling : WasmModule
calling = record nothing_at_all {
  types = type (I32 ∷ I64 ∷ I32 ∷ []) (I32 ∷ []) ∷ type (I32 ∷ I64 ∷ []) (I64 ∷ []) ∷ [];
  imports = from_env (codes "p") 0 ∷ [];
  functions = 1 ∷ [];
  exports = exported (codes "f") 1 ∷ exported (codes "p again") 0 ∷ [];
  bodies = body [] calling_code ∷ [];
}

abbrev pub calling_shapes : List ShapePlain
calling_shapes = record { key = codes "p again"; wide = false ∷ true ∷ false ∷ []; wide_result = false } ∷ shape (false ∷ true ∷ []) true

abbrev pub calling_script : ScriptPlain
calling_script = answered 4 (called (pos 3 ∷ negsuc 0 ∷ []) 1 ∷ record { name = codes "p again"; args = pos 1 ∷ negsuc 1 ∷ pos 3 ∷ []; line = 2 } ∷ [])

-- ---- a module that imports `$trap` and `$high` itself

abbrev pub trapping : WasmModule
trapping = record nothing_at_all {
  types = type [] (I32 ∷ []) ∷ type (I32 ∷ []) [] ∷ type [] [] ∷ [];
  imports = from_env (codes "p") 0 ∷ from_env (codes "$high") 0 ∷ from_env (codes "$trap") 1 ∷ [];
  functions = 2 ∷ [];
  exports = exported (codes "f") 3 ∷ [];
  bodies = body [] (call 0 ∷ plain drop_operand ∷ call 1 ∷ call 2 ∷ []) ∷ [];
}

abbrev pub trapping_script : ScriptPlain
trapping_script = record (calls (called [] 1 ∷ [])) { replies = replied (9 * 2 ^ 32 + 1) [] ∷ [] }

-- ---- entries: of the right type, of another one, empty, past the table, and past all tables

abbrev pub entry_script : ℤ → ScriptPlain
entry_script z = calls (called (pos 0 ∷ []) 1 ∷ called (z ∷ []) 2 ∷ [])

abbrev pub entry_shape : List ShapePlain
entry_shape = shape (false ∷ []) true

-- ---- the memory: stores of all forms, and then loads of all forms, whose results go out

abbrev pub access : (wide : Bool) (size : ℕ) (signed : Bool) → MemOp
access wide size signed = record { wide = wide; size = size; signed = signed }

abbrev pub stores_narrow : (size offset : ℕ) → List Instruction
stores_narrow size offset = get 0 ∷ get 1 ∷ plain wrap ∷ plain (store (access false size false) 0 offset) ∷ []

abbrev pub stores_wide : (size offset : ℕ) → List Instruction
stores_wide size offset = get 0 ∷ get 1 ∷ plain (store (access true size false) 0 offset) ∷ []

-- p takes a word of 32 bits, and q one of 64

abbrev pub loads_narrow : (size : ℕ) (signed : Bool) (offset : ℕ) → List Instruction
loads_narrow size signed offset = get 0 ∷ plain (load (access false size signed) 0 offset) ∷ call 0 ∷ []

abbrev pub loads_wide : (size : ℕ) (signed : Bool) (offset : ℕ) → List Instruction
loads_wide size signed offset = get 0 ∷ plain (load (access true size signed) 0 offset) ∷ call 1 ∷ []

abbrev pub memory_code : List Instruction
memory_code =
    stores_narrow 4 0 ++ stores_narrow 1 5 ++ stores_narrow 2 6 ++ stores_wide 8 8 ++ stores_wide 1 17 ++ stores_wide 2 18 ++ stores_wide 4 20
    ++ loads_narrow 4 false 4 ++ loads_narrow 1 true 3 ++ loads_narrow 1 false 3 ++ loads_narrow 2 true 5 ++ loads_narrow 2 false 5
    ++ loads_wide 8 false 4 ++ loads_wide 1 true 8 ++ loads_wide 1 false 8 ++ loads_wide 2 true 13 ++ loads_wide 2 false 13 ++ loads_wide 4 true 8 ++ loads_wide 4 false 8
    ++ plain memory_size ∷ call 0 ∷ get 0 ∷ get 1 ∷ plain wrap ∷ int 6 ∷ plain memory_fill ∷ []

abbrev pub remembering : WasmModule
remembering = record nothing_at_all {
  types = type (I32 ∷ []) [] ∷ type (I64 ∷ []) [] ∷ type (I32 ∷ I64 ∷ []) [] ∷ [];
  imports = from_env (codes "p") 0 ∷ from_env (codes "q") 1 ∷ [];
  functions = 2 ∷ [];
  memories = limits 1 ∷ [];
  exports = exported (codes "f") 2 ∷ [];
  bodies = body [] memory_code ∷ [];
  segments = bytes 6 (1 ∷ 2 ∷ 3 ∷ 4 ∷ 5 ∷ 6 ∷ 255 ∷ 8 ∷ []) ∷ [];
}

abbrev pub memory_shape : List ShapePlain
memory_shape = shape (false ∷ true ∷ []) false

-- at a multiple of four, at another place, and where the third store passes the end
abbrev pub memory_script : ScriptPlain
memory_script =
    answered 26 (called (pos 8 ∷ pos 17293822569102704640 ∷ []) 1 ∷ called (pos 13 ∷ negsuc 81985529216486895 ∷ []) 2 ∷ called (pos 65529 ∷ pos 5 ∷ []) 3 ∷ [])
