-- What small pairs show after some reductions, as the checker computes it.
use Rattle.std.proofs.Common.{◌≡◌, ℕ, List, [], ◌∷◌, Some, None, refl}
use Rattle.std.specs.Prelude.{ℤ, pos, codes, true}
use Rattle.sem_words.specs.declared.word.Bin.TheVariants.{Add}
use Rattle.sem_words.specs.declared.word.Word.TheVariants.{W32}
use Rattle.sem_words.specs.declared.word.TrapKind.TheVariants as kinds
use Rattle.session_lang.specs.Script.{ReplyLinePlain, ScriptPlain, give}
use Rattle.session_lang.specs.Observation.{import_called, call_gave, done, trapped, running, ended}
use Rattle.wasm_lang.specs.declared.types.ValType.TheVariants.{I32}
use Rattle.wasm_lang.specs.declared.types.ExportKind.TheVariants as exports
use Rattle.wasm_lang.specs.declared.types.ImportKind.TheVariants as imports
use Rattle.wasm_lang.specs.Instructions.{Instruction, plain, local_get, global_get, global_set, bin32, const32, end_mark, call, call_indirect}
use Rattle.wasm_lang.specs.Modules.{FunctionType, Imported, Exported, WasmModule}
use Rattle.wasm_link_lang.specs.Fits.{misfit}
use Rattle.wasm_link_lang.specs.Pairs.{Pair, next, end_of}
use Rattle.wasm_link_lang.specs.Refusal.{refusal}
use Rattle.wasm_link_lang.specs.Session.{pair}

abbrev pub int_to_int : FunctionType
int_to_int = record { params = I32 ∷ []; results = I32 ∷ [] }

abbrev pub to_nothing : FunctionType
to_nothing = record { params = []; results = [] }

-- a module without anything
abbrev pub empty : WasmModule
empty = record {
  types = [];
  imports = [];
  functions = [];
  tables = [];
  memories = [];
  globals = [];
  exports = [];
  start = None;
  elements = [];
  bodies = [];
  segments = [];
}

-- a function of the module `env`
abbrev pub from_env : List ℕ → Imported
from_env name = record { module_name = codes "env"; name = name; kind = imports.Func 0 }

abbrev pub exported : List ℕ → ℕ → Exported
exported name f = record { name = name; kind = exports.Func f }

-- the module with one function, of an int to an int, with this code
abbrev pub with_code : List Instruction → WasmModule → WasmModule
with_code code m = record m { types = int_to_int ∷ []; functions = 0 ∷ []; bodies = record { locals = []; code = code } ∷ [] }

abbrev pub called_once : List ℕ → ℤ → List ReplyLinePlain → ScriptPlain
called_once name argument replies = record { globals = []; writes = []; calls = record { name = name; args = argument ∷ []; line = 1 } ∷ []; replies = replies }

-- ---- a function of the one is called by the other, and is no event

-- `inc` adds 1
abbrev pub library : WasmModule
library = record (with_code (plain (local_get 0) ∷ plain (const32 1) ∷ plain (bin32 Add) ∷ end_mark ∷ []) empty) { exports = exported (codes "inc") 0 ∷ [] }

-- `two` calls `inc` twice
abbrev pub program : WasmModule
program = record (with_code (plain (local_get 0) ∷ call 0 ∷ call 0 ∷ end_mark ∷ []) empty) { imports = from_env (codes "inc") ∷ []; exports = exported (codes "two") 1 ∷ [] }

abbrev pub both : Pair
both = record { first = library; second = program }

-- the library's function is at 0, the program's import at 1 and its function at 2
binds_to_it : next both 1 ≡ Some 0
binds_to_it = refl

it_is_itself : next both 0 ≡ None
it_is_itself = refl

stands_for_it : end_of both 1 ≡ Some 0
stands_for_it = refl

is_linked : refusal both ≡ None
is_linked = refl

its_script_fits : misfit both (called_once (codes "two") (pos 5) []) ≡ None
its_script_fits = refl

-- instantiated, entered, the argument, and for each of the two calls: the call, the argument, the sum and the end; then the end
calls_it_twice : pair both (called_once (codes "two") (pos 5) []) 12 ≡ ended (call_gave (W32 7) ∷ []) done []
calls_it_twice = refl

goes_on : pair both (called_once (codes "two") (pos 5) []) 11 ≡ running []
goes_on = refl

-- either module's exports may be called
calls_the_library : pair both (called_once (codes "inc") (pos 5) []) 10 ≡ ended (call_gave (W32 6) ∷ []) done []
calls_the_library = refl

-- the order of the two changes numbers and no more
the_other_way : pair (record { first = program; second = library }) (called_once (codes "two") (pos 5) []) 12 ≡ ended (call_gave (W32 7) ∷ []) done []
the_other_way = refl

-- ---- an import that leads on to one that isn't bound is answered by the host

-- exports its import `out` as `inc`
abbrev pub passes_on : WasmModule
passes_on = record (with_code (end_mark ∷ []) empty) { imports = from_env (codes "out") ∷ []; exports = exported (codes "inc") 0 ∷ []; functions = []; bodies = [] }

asks_the_host :
    pair (record { first = passes_on; second = program }) (called_once (codes "two") (pos 5) (record { reply = give 6 []; line = 2 } ∷ record { reply = give 9 []; line = 3 } ∷ [])) 20
    ≡ ended (import_called (codes "out") (W32 5 ∷ []) ∷ import_called (codes "out") (W32 6 ∷ []) ∷ call_gave (W32 9) ∷ []) done []
asks_the_host = refl

-- ---- each module's code sees its own table

-- a table of one function that adds, called by the function `c` of this name at the index that it is given
abbrev pub with_table : List ℕ → List ℕ → ℕ → WasmModule
with_table adds calls n = record empty {
  types = int_to_int ∷ [];
  functions = 0 ∷ 0 ∷ [];
  tables = record { min = 1; max = None } ∷ [];
  exports = exported adds 0 ∷ exported calls 1 ∷ [];
  elements = record { table = 0; offset = plain (const32 0) ∷ end_mark ∷ []; functions = 0 ∷ [] } ∷ [];
  bodies =
      record { locals = []; code = plain (local_get 0) ∷ plain (const32 n) ∷ plain (bin32 Add) ∷ end_mark ∷ [] }
      ∷ record { locals = []; code = plain (const32 40) ∷ plain (local_get 0) ∷ call_indirect 0 ∷ end_mark ∷ [] } ∷ [];
}

abbrev pub two_tables : Pair
two_tables = record { first = with_table (codes "a") (codes "b") 1; second = with_table (codes "d") (codes "c") 2 }

its_own_entry : pair two_tables (called_once (codes "c") (pos 0) []) 20 ≡ ended (call_gave (W32 42) ∷ []) done []
its_own_entry = refl

the_firsts_entry : pair two_tables (called_once (codes "b") (pos 0) []) 20 ≡ ended (call_gave (W32 41) ∷ []) done []
the_firsts_entry = refl

past_its_table : pair two_tables (called_once (codes "c") (pos 1) []) 20 ≡ ended [] (trapped kinds.TableEntry) []
past_its_table = refl

past_the_firsts_table : pair two_tables (called_once (codes "b") (pos 1) []) 20 ≡ ended [] (trapped kinds.TableEntry) []
past_the_firsts_table = refl

before_its_table : pair two_tables (called_once (codes "c") (pos 4294967295) []) 20 ≡ ended [] (trapped kinds.TableEntry) []
before_its_table = refl

-- ---- both start functions run, the first's first, and each sees its own global

-- its start puts this number into its one global, which `name` gives
abbrev pub with_start : List ℕ → List ℕ → ℕ → WasmModule
with_start name out n = record empty {
  types = to_nothing ∷ int_to_int ∷ [];
  imports = record { module_name = codes "env"; name = out; kind = imports.Func 1 } ∷ [];
  functions = 0 ∷ 1 ∷ [];
  globals = record { kind = record { kind = I32; mutable = true }; init = plain (const32 0) ∷ end_mark ∷ [] } ∷ [];
  exports = exported name 2 ∷ [];
  start = Some 1;
  bodies =
      record { locals = []; code = plain (const32 n) ∷ call 0 ∷ plain (global_set 0) ∷ end_mark ∷ [] }
      ∷ record { locals = []; code = plain (global_get 0) ∷ end_mark ∷ [] } ∷ [];
}

abbrev pub two_starts : Pair
two_starts = record { first = with_start (codes "a") (codes "x") 1; second = with_start (codes "b") (codes "y") 2 }

starts_in_order :
    pair two_starts (called_once (codes "b") (pos 0) (record { reply = give 6 []; line = 2 } ∷ record { reply = give 9 []; line = 3 } ∷ [])) 30
    ≡ ended (import_called (codes "x") (W32 1 ∷ []) ∷ import_called (codes "y") (W32 2 ∷ []) ∷ call_gave (W32 9) ∷ []) done []
starts_in_order = refl

-- ---- segments are tested against the one memory

abbrev pub with_bytes : List ℕ → ℕ → List ℕ → WasmModule
with_bytes name offset bytes = record (with_code (plain (local_get 0) ∷ end_mark ∷ []) empty) {
  imports = record { module_name = codes "env"; name = codes "memory"; kind = imports.Memory (record { min = 0; max = None }) } ∷ [];
  exports = exported name 0 ∷ [];
  segments = record { memory = 0; offset = plain (const32 offset) ∷ end_mark ∷ []; bytes = bytes } ∷ [];
}

outside_both : pair (record { first = with_bytes (codes "a") 0 []; second = with_bytes (codes "b") 1 (7 ∷ []) }) (called_once (codes "a") (pos 0) []) 1 ≡ ended [] (trapped kinds.Segment) []
outside_both = refl
