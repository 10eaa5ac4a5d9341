-- What is computed of the small modules: their code, and what is seen of sessions in both languages.
use Rattle.std.specs.Prelude.{◌≡◌, ℕ, ◌-◌, ◌^◌, pos, false, List, [], ◌∷◌, ◌++◌, Some, None, map, take, replicate}
use Rattle.sem_words.specs.declared.word.Word.TheVariants.{W32}
use Rattle.sem_words.specs.declared.word.Bin.TheVariants as bins
use Rattle.sem_words.specs.declared.word.Rel.TheVariants as rels
use Rattle.session_lang.specs.Script.{ScriptPlain}
use Rattle.session_lang.specs.Observation.{EventPlain, import_called, call_gave, EndPlain, done}
use Rattle.session_lang.specs.CallingForms.{script_to_wasm, event_to_wasm, end_to_wasm}
use Rattle.wasm_lang.specs.declared.types.ValType.TheVariants.{I32, I64}
use Rattle.wasm_lang.specs.declared.types.MemOp.{MemOp}
use Rattle.wasm_lang.specs.Instructions.{Instruction, block, loop, if_block, else_mark, end_mark, br, br_if, br_table, plain, const32, local_get, local_set, local_tee, bin32, rel32, eqz32, wrap, store}
use Rattle.wasm_lang.specs.Modules.{FunctionBody, WasmModule}
use Rattle.wasm_lang_exec.specs.Session.{wasm}
use Rattle.asm_lang.specs.Modules.{var, returns, Module}
use Rattle.asm_lang_exec.specs.Session.{asm}
use Rattle.asm_lang_exec.specs.Fits.{misfit}
use Rattle.wasm_laws_trees.specs.Spelled.{flat}
use Rattle.asm_lang_valid.specs.Typed.{scope_of}
use Rattle.asm2wasm_translation.specs.Bodies.{first_clause, long_code}
use Rattle.asm2wasm_lang.specs.Allowed.{or_nothing}
use Rattle.asm2wasm_translation.specs.Modules.{translation}
use Rattle.asm2wasm_translation.specs.Pieces.{signed, module_of, called, calls_alone, function, f, x, y, int_variable, few_cases, switching}

-- ---- code

-- a body with so many i32 locals
abbrev pub body : ℕ → List Instruction → FunctionBody
body locals code = record { locals = replicate locals I32; code = code ++ end_mark ∷ [] }

abbrev pub get : ℕ → Instruction
get x = plain (local_get x)

abbrev pub set : ℕ → Instruction
set x = plain (local_set x)

abbrev pub tee : ℕ → Instruction
tee x = plain (local_tee x)

abbrev pub number : ℕ → Instruction
number n = plain (const32 n)

abbrev pub word_access : MemOp
word_access = record { wide = false; size = 4; signed = false }

-- y into the element of 32 bits at the place x, where it lies in 4,096 bytes
abbrev pub guarded_store : (x y : ℕ) → List Instruction
guarded_store x y =
    set y ∷ tee x ∷ number 4096 ∷ plain (rel32 rels.LtU) ∷ if_block None ∷ get x ∷ get y ∷ plain (store word_access 2 0) ∷ end_mark ∷ []

-- without the lowest two bits
abbrev pub aligned : ℕ → List Instruction
aligned x = get x ∷ number (2 ^ 32 - 4) ∷ plain (bin32 bins.And) ∷ []

-- both places, the value, the inner store, its value, and the outer store
abbrev pub storing_code : List Instruction
storing_code = aligned 0 ++ aligned 1 ++ (get 2 ∷ []) ++ guarded_store 3 4 ++ (get 4 ∷ []) ++ guarded_store 3 4

-- element 3 begins at 12, and the word of -1 is past each heap
abbrev pub literal_indices_code : List Instruction
literal_indices_code = (number (2 ^ 32 - 1) ∷ number 12 ∷ get 0 ∷ []) ++ guarded_store 1 2 ++ (get 2 ∷ []) ++ guarded_store 1 2

abbrev pub dividing_code : List Instruction
dividing_code =
    get 0 ∷ get 1 ∷ set 3 ∷ set 2 ∷ get 3 ∷ number 1 ∷ plain (bin32 bins.Add) ∷ number 1 ∷ plain (rel32 rels.GtU)
    ∷ if_block (Some I32) ∷ get 2 ∷ get 3 ∷ plain (bin32 bins.DivS) ∷ else_mark ∷ get 2 ∷ get 3 ∷ plain (bin32 bins.Mul) ∷ end_mark ∷ []

-- leaves the loop where the condition doesn't hold
abbrev pub tested : ℕ → List Instruction
tested x = get x ∷ plain eqz32 ∷ br_if 1 ∷ []

-- the inner loop goes on with the next turn of the outer one
abbrev pub continuing_code : List Instruction
continuing_code =
    block None ∷ block None ∷ loop None ∷ [] ++ tested 0 ++ block None
    ∷ (block None ∷ loop None ∷ [] ++ tested 1 ++ block None ∷ br 3 ∷ end_mark ∷ br 0 ∷ end_mark ∷ end_mark ∷ [])
    ++ end_mark ∷ br 0 ∷ end_mark ∷ end_mark ∷ end_mark ∷ []

abbrev pub is_equal : ℕ → ℕ → List Instruction
is_equal x n = get x ∷ number n ∷ plain (rel32 rels.Eq) ∷ []

abbrev pub few_code : List Instruction
few_code =
    get 0 ∷ set 2 ∷ block None ∷ block None ∷ block None ∷ block None ∷ []
    ++ is_equal 2 1 ++ br_if 0 ∷ [] ++ is_equal 2 5 ++ br_if 1 ∷ br 2
    ∷ end_mark ∷ number 1 ∷ set 1 ∷ end_mark ∷ br 1 ∷ end_mark ∷ number 3 ∷ set 1 ∷ end_mark ∷ []

abbrev pub dense_code : List Instruction
dense_code =
    get 0 ∷ set 2 ∷ block None ∷ block None ∷ block None ∷ block None ∷ block None
    ∷ get 2 ∷ number 10 ∷ plain (bin32 bins.Sub) ∷ br_table (0 ∷ 1 ∷ 3 ∷ 2 ∷ []) 4
    ∷ end_mark ∷ end_mark ∷ end_mark ∷ end_mark ∷ end_mark ∷ []

-- the two parts of a long switch, of few cases here
abbrev pub first_code : List Instruction
first_code =
    block None ∷ number 0 ∷ set 3 ∷ [] ++ is_equal 2 1 ++ br_if 0 ∷ number 1 ∷ set 3 ∷ [] ++ is_equal 2 5 ++ br_if 0 ∷ number 2 ∷ set 3 ∷ end_mark ∷ []

abbrev pub clause_code : ℕ → List Instruction → List Instruction
clause_code j inside = get 3 ∷ number j ∷ plain (rel32 rels.LeU) ∷ if_block None ∷ inside ++ number 0 ∷ set 3 ∷ end_mark ∷ []

abbrev pub all_clauses_code : List Instruction
all_clauses_code = clause_code 0 (number 1 ∷ set 1 ∷ []) ++ clause_code 1 (br 1 ∷ []) ++ clause_code 2 (number 3 ∷ set 1 ∷ [])

abbrev pub first_part : List Instruction
first_part = flat (first_clause 2 3 few_cases)

abbrev pub clauses_part : List Instruction
clauses_part = flat (long_code 4096 (scope_of (switching few_cases) (function f (x ∷ []) (int_variable 0 y ∷ []) [])) [] 0 few_cases)

-- ---- `x=x|0;return x|0;`, and a module whose function takes 64 bits in place of 32, and wraps them

abbrev pub giving_back : Module
giving_back = module_of [] (function f (x ∷ []) [] (returns (Some (signed (var x))) ∷ []) ∷ []) []

abbrev pub wide_export : WasmModule
wide_export = record (translation giving_back 4096) {
  types = record { params = I64 ∷ []; results = I32 ∷ [] } ∷ [];
  bodies = body 0 (get 0 ∷ plain wrap ∷ []) ∷ [];
}

-- f of 7
abbrev pub of_seven : ScriptPlain
of_seven = calls_alone (called (pos 7 ∷ []) 1 ∷ [])

-- ---- sessions

abbrev pub gave : ℕ → EventPlain
gave w = call_gave (W32 w)

abbrev pub imported : List ℕ → List ℕ → EventPlain
imported n ws = import_called n (map W32 ws)

-- the script fits; with so many units the session of asm.js ends with these events and this heap, and with so many reductions that of the
-- translation ends with the same, and with a memory that begins with the heap
pub record IsAlike (m : Module) (size : ℕ) (script : ScriptPlain) (units reductions : ℕ) (events : List EventPlain) (end : EndPlain) (heap : List ℕ) : Type 0 where
  pub fits : misfit m size script ≡ None
  pub source : asm m size script units ≡ Some (record { events = events; end = Some end; heap = heap })
  pub target_events : (wasm (translation m size) (script_to_wasm script) reductions).events ≡ map event_to_wasm events
  pub target_end : (wasm (translation m size) (script_to_wasm script) reductions).end ≡ Some (end_to_wasm end)
  pub target_heap : take size (wasm (translation m size) (script_to_wasm script) reductions).heap ≡ heap

-- the script fits, both sessions come to their ends, and they show the same, whatever it is
pub record ShowsSame (m : Module) (size : ℕ) (script : ScriptPlain) (units reductions : ℕ) : Type 0 where
  pub fits : misfit m size script ≡ None
  pub source_end : (or_nothing (asm m size script units)).end ≡ Some done
  pub target_end : (wasm (translation m size) (script_to_wasm script) reductions).end ≡ Some done
  pub events : (wasm (translation m size) (script_to_wasm script) reductions).events ≡ map event_to_wasm (or_nothing (asm m size script units)).events
  pub heap : take size (wasm (translation m size) (script_to_wasm script) reductions).heap ≡ (or_nothing (asm m size script units)).heap
