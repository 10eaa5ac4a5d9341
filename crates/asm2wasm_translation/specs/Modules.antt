-- The module that a module of asm.js with a heap of some length is translated to.
use Rattle.std.specs.Prelude.{ℕ, ◌+◌, ◌-◌, max, true, List, [], ◌∷◌, ◌++◌, length, replicate, map, Option, Some, None, codes, if◌then◌else◌}
use Rattle.sem_words.specs.Words.{word_of}
use Rattle.wasm_lang.specs.declared.types.ValType.TheVariants.{I32}
use Rattle.wasm_lang.specs.declared.types.Limits.{Limits}
use Rattle.wasm_lang.specs.declared.types.ImportKind.{ImportKind}
use Rattle.wasm_lang.specs.declared.types.ImportKind.TheVariants as imports
use Rattle.wasm_lang.specs.Instructions.{Instruction, plain, const32, global_get, end_mark}
use Rattle.wasm_lang.specs.Modules.{FunctionType, Imported, GlobalEntry, ElementSegment, FunctionBody, WasmModule}
use Rattle.wasm_laws_trees.specs.Spelled.{closed, reach}
use Rattle.asm_lang.specs.Trees.{Init, number, foreign_int}
use Rattle.asm_lang.specs.Modules.{Variable, Function, Table, Module}
use Rattle.asm_lang_valid.specs.Scope.{Signature, signature_of}
use Rattle.asm_lang_valid.specs.Typed.{scope_of}
use Rattle.asm_lang_valid.specs.LimitRows.{ForeignCall, foreign_calls}
use Rattle.asm_lang_valid.specs.Refusal.{foreign_globals, has_heap}
use Rattle.asm2wasm_lang.specs.Heaps.{pages_for}
use Rattle.asm2wasm_lang.specs.Tables.{entries_of}
use Rattle.asm2wasm_lang.specs.Calling.{int_type, constant_int, exactly, exports_given}
use Rattle.asm2wasm_translation.specs.Numbers.{slot_of, int_variables, first_scratch, asked_signature, signatures, type_number}
use Rattle.asm2wasm_translation.specs.Bodies.{function_code}

abbrev pub type_for : Signature → FunctionType
type_for s = int_type s.params s.result

-- ---- imports: functions, then globals, then the memory

abbrev pub from_env : List ℕ → ImportKind → Imported
from_env name kind = record { module_name = codes "env"; name = name; kind = kind }

abbrev pub imported_function : Module → ForeignCall → Imported
imported_function m f = from_env f.name (imports.Func (type_number m (asked_signature f)))

abbrev pub imported_global : List ℕ → Imported
imported_global name = from_env name (imports.Global constant_int)

abbrev pub imported_memory : Module → ℕ → List Imported
imported_memory m size = if has_heap m then from_env (codes "memory") (imports.Memory (exactly (pages_for size))) ∷ [] else []

abbrev pub imports_of : Module → ℕ → List Imported
imports_of m size = map (imported_function m) (foreign_calls m) ++ (map imported_global (foreign_globals m) ++ imported_memory m size)

-- ---- globals

abbrev pub or_zero : Option ℕ → ℕ
or_zero None = 0
or_zero (Some i) = i

-- the first value of a variable: its literal, or the imported global of its name
abbrev pub first_value : Module → Init → Instruction
first_value m (number z) = plain (const32 (word_of 32 z))
first_value m (foreign_int f p) = plain (global_get (or_zero (slot_of (foreign_globals m) p)))
first_value m _ = plain (const32 0)

abbrev pub global_for : Module → Variable → GlobalEntry
global_for m v = record { kind = record { kind = I32; mutable = true }; init = first_value m v.init ∷ end_mark ∷ [] }

-- ---- the table, where there is one

abbrev pub table_for : Module → List Table → List Limits
table_for m [] = []
table_for m (t ∷ ts) = exactly (length (entries_of m)) ∷ []

abbrev pub elements_for : Module → List Table → List ElementSegment
elements_for m [] = []
elements_for m (t ∷ ts) =
    record { table = 0; offset = plain (const32 0) ∷ end_mark ∷ []; functions = map (λ i. length (foreign_calls m) + i) (entries_of m) } ∷ []

-- ---- functions: locals are those of the function, and as many scratch locals as its code names

abbrev pub body_for : Module → ℕ → Function → FunctionBody
body_for m size f =
    let code = function_code size (scope_of m f) in
    record { locals = replicate (max (first_scratch f) (reach code) - length f.params) I32; code = closed code }

abbrev pub translation : Module → (heap_length : ℕ) → WasmModule
translation m size = record {
  types = map type_for (signatures m);
  imports = imports_of m size;
  functions = map (λ f. type_number m (signature_of f)) m.functions;
  tables = table_for m m.tables;
  memories = [];
  globals = map (global_for m) (int_variables m.globals);
  exports = exports_given m;
  start = None;
  elements = elements_for m m.tables;
  bodies = map (body_for m size) m.functions;
  segments = [];
}
