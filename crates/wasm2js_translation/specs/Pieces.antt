-- Small modules of WebAssembly, with scripts for them.
use Rattle.std.specs.Prelude.{ℕ, false, true, List, [], ◌∷◌, ◌++◌, replicate, Some, None, codes}
use Rattle.sem_words.specs.declared.word.Bin.{Bin}
use Rattle.sem_words.specs.declared.word.Bin.TheVariants as bins
use Rattle.sem_words.specs.declared.word.Rel.TheVariants as rels
use Rattle.wasm_lang.specs.declared.types.ValType.{ValType}
use Rattle.wasm_lang.specs.declared.types.ValType.TheVariants.{I32, I64}
use Rattle.wasm_lang.specs.declared.types.Limits.{Limits}
use Rattle.wasm_lang.specs.declared.types.ImportKind.TheVariants as imports
use Rattle.wasm_lang.specs.declared.types.ExportKind.TheVariants as exports
use Rattle.wasm_lang.specs.declared.types.MemOp.{MemOp}
use Rattle.wasm_lang.specs.Instructions.{Instruction, unreachable, block, loop, if_block, else_mark, end_mark, br_if, br_table, return, call, call_indirect, plain, const32, const64, local_get, local_set, local_tee, drop_operand, eqz32, rel32, bin32, bin64, extend_s, load, store, memory_copy, memory_fill}
use Rattle.wasm_lang.specs.Modules.{FunctionType, Imported, GlobalEntry, Exported, ElementSegment, DataSegment, FunctionBody, WasmModule}

-- ---- parts of modules

abbrev pub type : List ValType → List ValType → FunctionType
type ps rs = record { params = ps; results = rs }

abbrev pub body : List ValType → List Instruction → FunctionBody
body locals code = record { locals = locals; code = code ++ end_mark ∷ [] }

abbrev pub get : ℕ → Instruction
get x = plain (local_get x)

abbrev pub set : ℕ → Instruction
set x = plain (local_set x)

abbrev pub tee : ℕ → Instruction
tee x = plain (local_tee x)

abbrev pub int : ℕ → Instruction
int n = plain (const32 n)

abbrev pub long : ℕ → Instruction
long n = plain (const64 n)

-- from the module `env`
abbrev pub from_env : List ℕ → (type : ℕ) → Imported
from_env name t = record { module_name = codes "env"; name = name; kind = imports.Func t }

abbrev pub exported : List ℕ → (function : ℕ) → Exported
exported name f = record { name = name; kind = exports.Func f }

abbrev pub limits : ℕ → Limits
limits n = record { min = n; max = None }

abbrev pub offset : ℕ → List Instruction
offset n = int n ∷ end_mark ∷ []

abbrev pub elements : (at : ℕ) → List ℕ → ElementSegment
elements at fs = record { table = 0; offset = offset at; functions = fs }

abbrev pub bytes : (at : ℕ) → List ℕ → DataSegment
bytes at bs = record { memory = 0; offset = offset at; bytes = bs }

abbrev pub global : ValType → Instruction → GlobalEntry
global t i = record { kind = record { kind = t; mutable = true }; init = i ∷ end_mark ∷ [] }

abbrev pub nothing_at_all : WasmModule
nothing_at_all = record {
  types = [];
  imports = [];
  functions = [];
  tables = [];
  memories = [];
  globals = [];
  exports = [];
  start = None;
  elements = [];
  bodies = [];
  segments = [];
}

-- the function `f` alone, of this type
abbrev pub alone : FunctionType → List ValType → List Instruction → WasmModule
alone t locals code = record nothing_at_all { types = t ∷ []; functions = 0 ∷ []; exports = exported (codes "f") 0 ∷ []; bodies = body locals code ∷ [] }

-- .. with a page of memory
abbrev pub with_page : FunctionType → List Instruction → WasmModule
with_page t code = record (alone t [] code) { memories = limits 1 ∷ [] }

abbrev pub word_of_32 : MemOp
word_of_32 = record { wide = false; size = 4; signed = false }

abbrev pub word_of_64 : MemOp
word_of_64 = record { wide = true; size = 8; signed = false }

-- ---- code

-- an i32 at three bytes past the argument
abbrev pub loading : WasmModule
loading = with_page (type (I32 ∷ []) (I32 ∷ [])) (get 0 ∷ plain (load word_of_32 0 3) ∷ [])

-- the sum of the i32 eight bytes past the argument, of the one before it, and of one at four times a number below 4,096
abbrev pub summing : WasmModule
summing =
    with_page (type (I32 ∷ I32 ∷ []) (I32 ∷ []))
    (get 0 ∷ plain (load word_of_32 0 8) ∷ get 0 ∷ plain (load word_of_32 0 4) ∷ plain (bin32 bins.Add)
    ∷ get 1 ∷ int 4095 ∷ plain (bin32 bins.And) ∷ int 2 ∷ plain (bin32 bins.Shl) ∷ plain (load word_of_32 0 16) ∷ plain (bin32 bins.Add) ∷ [])

-- the i32 at the multiple of four that is next below the argument, loaded where this opens a block
abbrev pub rounding_down : List Instruction → WasmModule
rounding_down opens =
    with_page (type (I32 ∷ []) (I32 ∷ []))
    (get 0 ∷ int 4294967292 ∷ plain (bin32 bins.And) ∷ set 0 ∷ opens
    ++ get 0 ∷ plain (load word_of_32 0 0) ∷ set 0 ∷ end_mark ∷ get 0 ∷ [])

-- an i64 at the argument
abbrev pub storing : WasmModule
storing = with_page (type (I32 ∷ I64 ∷ []) []) (get 0 ∷ get 1 ∷ plain (store word_of_64 0 0) ∷ [])

-- the result of the outer block is 10 where the argument is 1, and else 20
abbrev pub choosing : WasmModule
choosing = alone (type (I32 ∷ []) (I32 ∷ [])) []
    (block (Some I32)
    ∷ int 7
    ∷ block (Some I32)
    ∷ int 10 ∷ get 0 ∷ br_table (0 ∷ 1 ∷ []) 0
    ∷ end_mark
    ∷ plain (bin32 bins.Add) ∷ plain drop_operand ∷ int 20
    ∷ end_mark ∷ [])

-- with a segment of 512 bytes
abbrev pub listing : WasmModule
listing = record (with_page (type [] []) []) { segments = bytes 0 (replicate 512 1) ∷ [] }

-- with helpers of each kind, asked for by code that isn't reached
abbrev pub asking_all : WasmModule
asking_all = with_page (type [] [])
    (unreachable
    ∷ plain (bin64 bins.Shl) ∷ plain drop_operand ∷ plain (bin32 bins.DivS) ∷ plain drop_operand
    ∷ plain (load word_of_64 0 0) ∷ plain drop_operand ∷ plain memory_copy ∷ plain memory_fill ∷ [])

abbrev pub adding : WasmModule
adding = alone (type (I64 ∷ I64 ∷ []) (I64 ∷ [])) [] (get 0 ∷ get 1 ∷ plain (bin64 bins.Add) ∷ [])

-- the argument shifted or rotated by a constant
abbrev pub turning_by : Bin → ℕ → WasmModule
turning_by op n = alone (type (I64 ∷ []) (I64 ∷ [])) [] (get 0 ∷ long n ∷ plain (bin64 op) ∷ [])

-- a word made of the argument
abbrev pub of_the_argument : List Instruction → WasmModule
of_the_argument code = alone (type (I32 ∷ []) (I32 ∷ [])) [] code

abbrev pub sum_of_two : Instruction
sum_of_two = plain (bin32 bins.Add)

-- the argument's word and two
abbrev pub two_more : List Instruction
two_more = get 0 ∷ int 2 ∷ sum_of_two ∷ []

abbrev pub leave : Instruction
leave = return

-- a block that is left where the argument is below five, and else sets it to one
abbrev pub leaving_a_block : List Instruction
leaving_a_block = block None ∷ get 0 ∷ int 5 ∷ plain (rel32 rels.LtU) ∷ br_if 0 ∷ int 1 ∷ set 0 ∷ end_mark ∷ []

-- gives the argument, at a branch that is taken where it is 0, and else at its end
abbrev pub leaving_with_zero : List Instruction
leaving_with_zero = get 0 ∷ get 0 ∷ plain eqz32 ∷ br_if 0 ∷ []

-- three functions, a table of three entries, and calls of an entry by two types of one form and by a further type
abbrev pub tabled : WasmModule
tabled = record nothing_at_all {
  types = type (I32 ∷ []) (I64 ∷ []) ∷ type (I32 ∷ []) [] ∷ type (I32 ∷ []) (I64 ∷ []) ∷ [];
  functions = 0 ∷ 1 ∷ 0 ∷ 1 ∷ [];
  tables = limits 3 ∷ [];
  exports = exported (codes "f") 2 ∷ exported (codes "g") 3 ∷ [];
  elements = elements 0 (0 ∷ 1 ∷ []) ∷ [];
  bodies =
      body [] (get 0 ∷ plain extend_s ∷ [])
      ∷ body [] []
      ∷ body [] (int 5 ∷ get 0 ∷ call_indirect 2 ∷ [])
      ∷ body [] (int 6 ∷ get 0 ∷ call_indirect 1 ∷ []) ∷ [];
}

-- the first function is called with the argument, a number and a sum, while a number waits below them
abbrev pub passing : WasmModule
passing = record nothing_at_all {
  types = type (I32 ∷ I32 ∷ I32 ∷ []) (I32 ∷ []) ∷ type (I32 ∷ []) (I32 ∷ []) ∷ [];
  functions = 0 ∷ 1 ∷ [];
  exports = exported (codes "f") 1 ∷ [];
  bodies = body [] (get 1 ∷ []) ∷ body [] (int 9 ∷ get 0 ∷ int 5 ∷ two_more ++ call 0 ∷ sum_of_two ∷ []) ∷ [];
}
