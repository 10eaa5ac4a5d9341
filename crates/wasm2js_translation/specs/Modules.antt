-- The module of asm.js that a module of WebAssembly is translated to.
use Rattle.std.specs.Prelude.{ℕ, suc, ◌+◌, ◌-◌, ◌/◌, ◌%◌, ◌==◌, zero, Bool, true, ◌&&◌, List, [], ◌∷◌, ◌++◌, length, take, drop, Option, Some, None, slice_get, codes, pos, if◌then◌else◌}
use Rattle.std.specs.List.{flat_map}
use Rattle.sem_words.specs.Words.{signed_of}
use Rattle.heap_lang.specs.Numbers.{little_endian}
use Rattle.session_lang.specs.Imports.{low_word, high_word}
use Rattle.session_lang.specs.Names.{export_name}
use Rattle.wasm_lang.specs.declared.types.ValType.{ValType}
use Rattle.wasm_lang.specs.declared.types.ValType.TheVariants.{I32, I64}
use Rattle.wasm_lang.specs.declared.types.ExportKind.{ExportKind}
use Rattle.wasm_lang.specs.declared.types.ExportKind.TheVariants as exports
use Rattle.wasm_lang.specs.Instructions.{Instruction, plain, const32, const64, global_get}
use Rattle.wasm_lang.specs.Modules.{FunctionType, GlobalEntry, Exported, DataSegment, WasmModule}
use Rattle.wasm_lang_valid.specs.ModuleRules.{function_types, global_types, has_table, has_memory}
use Rattle.wasm_lang_valid.specs.Typing.{Context, result_of}
use Rattle.wasm_lang_valid.specs.Profile.{constant_offset, or_zero, memory_bytes}
use Rattle.wasm_lang_exec.specs.Code.{Trees}
use Rattle.wasm_lang_exec.specs.Reductions.{Callee, an_import, a_function, callees}
use Rattle.wasm_lang_exec.specs.Fits.{GlobalImport, global_imports}
use Rattle.asm_lang.specs.Trees.{Init, number, foreign_int, member, math, view}
use Rattle.asm_lang.specs.Modules as text
use Rattle.asm_lang.specs.Modules.{Expr, lit, call, store, Exprs, no_exprs, exprs, Stmt, returns, Variable, Function, Export, many, Module}
use Rattle.wasm2js_lang.specs.Parts.Functions.{is_long, is_asked}
use Rattle.wasm2js_translation.specs.Names.{Name, numbered, function, foreign, global_low, global_high, fixed, view_of_bytes, view_of_signed_bytes, view_of_words, imul, clz32, trap, high, spare_high, result_high, data_words, data_zeros, init, last_high, spelled}
use Rattle.wasm2js_translation.specs.Words as terms
use Rattle.wasm2js_translation.specs.Words.{Term, tell, simple_statement, signed_number, put_in, name_of}
use Rattle.wasm2js_translation.specs.Pairs.{names_of, local_pair, literal}
use Rattle.wasm2js_translation.specs.Actions.{low}
use Rattle.wasm2js_translation.specs.Helpers.{zero_variable, function_of, wide_helpers, division_helpers, memory_helpers, kept}
use Rattle.wasm2js_translation.specs.Bodies.{word_in, signed_word, high_result, body_stmts}
use Rattle.wasm2js_translation.specs.Rooms.{body_room, declared_names}
use Rattle.wasm2js_translation.specs.Tables.{cell_count, tables_for, stubs}

-- ---- functions

abbrev pub param_names : (x : ℕ) → List ValType → List Name
param_names x [] = []
param_names x (t ∷ ts) = names_of t (local_pair x) ++ param_names (suc x) ts

-- what the code of a function of this type, with these further locals, may refer to
abbrev pub context_of : WasmModule → FunctionType → List ValType → Context
context_of m t more = record {
  types = m.types;
  functions = function_types m;
  table = has_table m;
  memory = has_memory m;
  globals = global_types m;
  locals = t.params ++ more;
  labels = [];
  returns = result_of t;
}

abbrev pub own_function : WasmModule → (k : ℕ) → FunctionType → List ValType → Trees → Function
own_function m k t more code =
    let c = context_of m t more in
    function_of (numbered function k) (param_names 0 t.params) (declared_names (body_room c code) (length t.params) more)
    (body_stmts (memory_bytes m) (cell_count m) c code)

-- what is sent out are signed numbers
abbrev pub sent : List Name → Exprs
sent [] = no_exprs
sent (n ∷ ns) = exprs (signed_number (word_in n)) (sent ns)

-- the high word of a result of 64 bits is asked for by a further call
abbrev pub wrapper_body : Option ValType → Expr → List Stmt
wrapper_body None e = text.plain e ∷ []
wrapper_body (Some I32) e = returns (Some (signed_number e)) ∷ []
wrapper_body (Some I64) e =
    put_in (low 0) (signed_number e) ∷ put_in high_result (signed_number (call (name_of high) no_exprs)) ∷ returns (Some (signed_word 0)) ∷ []

abbrev pub wrapper_locals : Option ValType → List Name
wrapper_locals (Some I64) = low 0 ∷ []
wrapper_locals r = []

-- a function that calls the imported one
abbrev pub wrapper : (k : ℕ) → FunctionType → Function
wrapper k t =
    let params = param_names 0 t.params in
    function_of (numbered function k) params (wrapper_locals (result_of t)) (wrapper_body (result_of t) (call (spelled (numbered foreign k)) (sent params)))

abbrev pub function_for : WasmModule → (k : ℕ) → Option Callee → List Function
function_for m k None = []
function_for m k (Some (an_import name t)) = wrapper k t ∷ []
function_for m k (Some (a_function t more code)) = own_function m k t more code ∷ []

-- the source's functions from number k on
abbrev pub functions_from : WasmModule → (k : ℕ) → List (Option Callee) → List Function
functions_from m k [] = []
functions_from m k (c ∷ cs) = function_for m k c ++ functions_from m (suc k) cs

-- ---- the start of a session: segments, and then the start function

abbrev pub set_byte : (at byte : ℕ) → Stmt
set_byte at byte = text.plain (store (name_of view_of_bytes) (lit (pos at)) (lit (pos byte)))

-- the word of four bytes, where the place is a multiple of four
abbrev pub set_word : (at : ℕ) → List ℕ → Stmt
set_word at bytes = text.plain (store (name_of view_of_words) (lit (pos (at / 4))) (lit (signed_of 32 (little_endian bytes))))

abbrev pub set_bytes : (at : ℕ) → List ℕ → List Stmt
set_bytes at [] = []
set_bytes at (x ∷ xs) = set_byte at x ∷ set_bytes (at + 1) xs

-- whole words while there are four bytes more
abbrev pub set_words : (at : ℕ) → List ℕ → List Stmt
set_words at (w ∷ x ∷ y ∷ z ∷ bytes) = set_word at (w ∷ x ∷ y ∷ z ∷ []) ∷ set_words (at + 4) bytes
set_words at bytes = set_bytes at bytes

-- the words of four bytes each
abbrev pub words_in : List ℕ → List Term
words_in (w ∷ x ∷ y ∷ z ∷ bytes) = terms.number (signed_of 32 (little_endian (w ∷ x ∷ y ∷ z ∷ []))) ∷ words_in bytes
words_in bytes = []

-- sixteen words by one call
abbrev pub put_chunk : (at : ℕ) → List ℕ → Stmt
put_chunk at bytes = simple_statement (tell data_words (literal at ∷ words_in bytes))

abbrev pub are_zeros : List ℕ → Bool
are_zeros [] = true
are_zeros (x ∷ xs) = (x == 0) && are_zeros xs

-- zeros from one place to another, if there are any
abbrev pub set_zeros : (from to : ℕ) → List Stmt
set_zeros from to = if from == to then [] else simple_statement (tell data_zeros (literal from ∷ literal to ∷ [])) ∷ []

-- 64 bytes, where zeros wait from a place on until other bytes come; and from where zeros wait after them
abbrev pub chunk_stmts : (from at : ℕ) → List ℕ → List Stmt
chunk_stmts from at bytes = if are_zeros bytes then [] else set_zeros from at ++ put_chunk at bytes ∷ []

abbrev pub waits_from : (from at : ℕ) → List ℕ → ℕ
waits_from from at bytes = if are_zeros bytes then from else at + 64

-- so many times 64 bytes, and then the rest
abbrev pub put_chunks : (count from at : ℕ) → List ℕ → List Stmt
put_chunks zero from at bytes = set_zeros from at ++ set_words at bytes
put_chunks (suc n) from at bytes =
    let chunk = take 64 bytes in chunk_stmts from at chunk ++ put_chunks n (waits_from from at chunk) (at + 64) (drop 64 bytes)

-- where a segment is long, and where it isn't
abbrev pub put_run : (long : Bool) (at : ℕ) → List ℕ → List Stmt
put_run long at bytes = if long then put_chunks (length bytes / 64) at at bytes else set_words at bytes

-- how far it is to the next multiple of four
abbrev pub to_word : ℕ → ℕ
to_word at = (4 - at % 4) % 4

abbrev pub set_run : (long : Bool) (at : ℕ) → List ℕ → List Stmt
set_run long at bytes = set_bytes at (take (to_word at) bytes) ++ put_run long (at + to_word at) (drop (to_word at) bytes)

-- those of a module that can be translated lie at constant places
abbrev pub segment_stmts : DataSegment → List Stmt
segment_stmts d = set_run (is_long d) (or_zero (constant_offset d.offset)) d.bytes

abbrev pub start_stmts : Option ℕ → List Stmt
start_stmts None = []
start_stmts (Some f) = text.plain (call (spelled (numbered function f)) no_exprs) ∷ []

abbrev pub init_function : WasmModule → Function
init_function m = function_of (fixed init) [] [] (flat_map segment_stmts m.segments ++ start_stmts m.start)

-- the high word of the last result of 64 bits
abbrev pub high_function : Function
high_function = function_of (fixed last_high) [] [] (returns (Some (signed_number (word_in high_result))) ∷ [])

-- what a module may have of helpers, and what it has of them
abbrev pub all_helpers : WasmModule → List Function
all_helpers m = wide_helpers ++ division_helpers ++ (if has_memory m then memory_helpers (memory_bytes m) else [])

abbrev pub helpers : WasmModule → List Function
helpers m = kept (is_asked m) (all_helpers m)

abbrev pub functions_of : WasmModule → List Function
functions_of m = helpers m ++ functions_from m 0 (callees m) ++ stubs m ++ init_function m ∷ high_function ∷ []

-- ---- variables of the module

abbrev pub stdlib_name : List ℕ
stdlib_name = codes "stdlib"

abbrev pub foreign_name : List ℕ
foreign_name = codes "foreign"

abbrev pub heap_name : List ℕ
heap_name = codes "heap"

abbrev pub variable : Name → Init → Variable
variable n i = record { name = spelled n; init = i }

abbrev pub view_variables : List Variable
view_variables =
    variable (fixed view_of_bytes) (view stdlib_name (codes "Uint8Array") heap_name)
    ∷ variable (fixed view_of_signed_bytes) (view stdlib_name (codes "Int8Array") heap_name)
    ∷ variable (fixed view_of_words) (view stdlib_name (codes "Int32Array") heap_name) ∷ []

abbrev pub fixed_variables : List Variable
fixed_variables =
    variable (fixed imul) (math stdlib_name (codes "imul"))
    ∷ variable (fixed clz32) (math stdlib_name (codes "clz32"))
    ∷ variable (fixed trap) (member foreign_name (codes "$trap"))
    ∷ variable (fixed high) (member foreign_name (codes "$high"))
    ∷ zero_variable (fixed spare_high) ∷ zero_variable (fixed result_high) ∷ []

-- the imported functions
abbrev pub foreign_variables : (k : ℕ) → List (Option Callee) → List Variable
foreign_variables k (Some (an_import name t) ∷ cs) = variable (numbered foreign k) (member foreign_name name) ∷ foreign_variables (suc k) cs
foreign_variables k cs = []

abbrev pub word_variable : Name → (word : ℕ) → Variable
word_variable n w = variable n (number (signed_of 32 w))

-- an int that the host gives
abbrev pub given_variable : Name → Option GlobalImport → Variable
given_variable n None = zero_variable n
given_variable n (Some g) = variable n (foreign_int foreign_name g.name)

abbrev pub imported_variables : (k : ℕ) → List GlobalImport → List Variable
imported_variables k [] = []
imported_variables k (g ∷ gs) = given_variable (numbered global_low k) (Some g) ∷ imported_variables (suc k) gs

-- global k by its first value: a constant, or an imported global
abbrev pub first_values : List GlobalImport → (k : ℕ) → List Instruction → List Variable
first_values given k (plain (const32 n) ∷ is) = word_variable (numbered global_low k) n ∷ []
first_values given k (plain (const64 n) ∷ is) = word_variable (numbered global_low k) (low_word n) ∷ word_variable (numbered global_high k) (high_word n) ∷ []
first_values given k (plain (global_get x) ∷ is) = given_variable (numbered global_low k) (slice_get given x) ∷ []
first_values given k is = []

abbrev pub own_variables : List GlobalImport → (k : ℕ) → List GlobalEntry → List Variable
own_variables given k [] = []
own_variables given k (g ∷ gs) = first_values given k g.init ++ own_variables given (suc k) gs

abbrev pub global_variables : WasmModule → List Variable
global_variables m =
    let given = global_imports m.imports in imported_variables 0 given ++ own_variables given (length given) m.globals

abbrev pub variables_of : WasmModule → List Variable
variables_of m = (if has_memory m then view_variables else []) ++ fixed_variables ++ foreign_variables 0 (callees m) ++ global_variables m

-- ---- exports: the functions alone

abbrev pub export : List ℕ → Name → Export
export key n = record { key = key; function = spelled n }

abbrev pub export_for : List ℕ → ExportKind → List Export
export_for name (exports.Func f) = export (export_name name) (numbered function f) ∷ []
export_for name _ = []

abbrev pub exports_of : WasmModule → List Export
exports_of m = export (codes "$init") (fixed init) ∷ export (codes "$hi") (fixed last_high) ∷ flat_map (λ (e : Exported). export_for e.name e.kind) m.exports

-- ---- the module

abbrev pub translated : WasmModule → Module
translated m = record {
  name = Some (codes "wasm");
  params = stdlib_name ∷ foreign_name ∷ heap_name ∷ [];
  globals = variables_of m;
  functions = functions_of m;
  tables = tables_for m;
  exports = many (exports_of m);
}
