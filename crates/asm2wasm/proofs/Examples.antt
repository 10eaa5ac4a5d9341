-- The table of a small module with two tables, and modules that don't stand for their text: one whose segment has the functions of a table in
-- another order, one without a function, one that divides without a guard, and one that traps by a byte past the heap.
use Rattle.std.proofs.Common.{◌≡◌, ℕ, ◌+◌, false, List, [], ◌∷◌, length, map, Some, None, refl, ap}
use Rattle.std.specs.Prelude.{pos}
use Rattle.heap_lang.specs.Heap.{load_bytes, run_at, with_run}
use Rattle.sem_words.specs.declared.word.Bin.TheVariants as bins
use Rattle.sem_words.specs.declared.word.TrapKind.TheVariants as kinds
use Rattle.sem_words.specs.declared.js_value.JsOp.TheVariants.{Div}
use Rattle.session_lang.specs.Script.{ScriptPlain}
use Rattle.wasm_lang.specs.Instructions.{plain, const32, local_get, bin32, load, if_block, unreachable, end_mark}
use Rattle.wasm_lang.specs.Modules.{ElementSegment, WasmModule}
use Rattle.asm_lang.specs.Modules.{binary, returns, var, Table, Module}
use Rattle.asm_lang_valid.specs.declared.meaning.Element.TheVariants.{Uint8}
use Rattle.asm_lang_valid.specs.LimitRows.{foreign_calls}
use Rattle.asm_lang_exec.specs.Fits.{misfit}
use Rattle.asm2wasm_lang.specs.Calling.{exactly}
use Rattle.asm2wasm_lang.specs.Tables.{entries_of, bases_of}
use Rattle.asm2wasm_translation.specs.Modules.{translation}
use Rattle.asm2wasm_translation.specs.Values.{access}
use Rattle.asm2wasm_translation.specs.Pieces.{a, b, f, r, t, x, y, int, signed, function, module_of, alone, called, calls_alone, tabled, continuing}
use Rattle.asm2wasm_lang.specs.Parts.{NeverTraps, HasFunctions, tables_for, segments_for, HasTables}

-- ---- two tables, after one foreign function

abbrev table : List ℕ → List (List ℕ) → Table
table name members = record { name = name; members = members }

abbrev two_tables : Module
two_tables = module_of tabled.globals tabled.functions (table t (a ∷ b ∷ []) ∷ table r (f ∷ b ∷ []) ∷ [])

abbrev segment : List ℕ → ElementSegment
segment fs = record { table = 0; offset = plain (const32 0) ∷ end_mark ∷ []; functions = fs }

bases : bases_of two_tables ≡ 0 ∷ 2 ∷ []
bases = refl

one_table : tables_for two_tables.tables (length (entries_of two_tables)) ≡ exactly 4 ∷ []
one_table = refl

one_segment : segments_for two_tables.tables (map (λ n. length (foreign_calls two_tables) + n) (entries_of two_tables)) ≡ segment (1 ∷ 2 ∷ 3 ∷ 2 ∷ []) ∷ []
one_segment = refl

no_table : tables_for continuing.tables (length (entries_of continuing)) ≡ []
no_table = refl

-- ---- another order

abbrev turned : WasmModule
turned = record (translation tabled 4096) { elements = segment (2 ∷ 1 ∷ []) ∷ [] }

abbrev first_functions : List ElementSegment → List ℕ
first_functions [] = []
first_functions (s ∷ ss) = s.functions

turned_has_not : HasTables tabled turned → ⊥
turned_has_not h = let e : 2 ∷ 1 ∷ [] ≡ 1 ∷ 2 ∷ [] = ap first_functions h.segment in cc e

-- ---- no function

without_functions : HasFunctions tabled 4096 (record (translation tabled 4096) { functions = [] }) → ⊥
without_functions h = let e = h.as_many in cc e

-- ---- a quotient without a guard

abbrev quotient : Module
quotient = module_of [] (function f (x ∷ y ∷ []) [] (returns (Some (signed (binary Div (signed (var x)) (signed (var y))))) ∷ []) ∷ []) []

abbrev unguarded : WasmModule
unguarded = record (translation quotient 4096) {
  bodies = record { locals = []; code = plain (local_get 0) ∷ plain (local_get 1) ∷ plain (bin32 bins.DivS) ∷ end_mark ∷ [] } ∷ [];
}

-- 7 by 0
abbrev by_zero : ScriptPlain
by_zero = calls_alone (called (pos 7 ∷ pos 0 ∷ []) 1 ∷ [])

unguarded_traps : NeverTraps unguarded → ⊥
unguarded_traps never = never by_zero refl 10 kinds.ZeroDivisor refl

-- ---- a byte past the heap

-- `return 0`, in a module with a heap
abbrev still : Module
still = alone [] [] (returns (Some (int 0)) ∷ [])

-- it traps where the first byte past the heap isn't 0
abbrev peeking : WasmModule
peeking = record (translation still 4096) {
  bodies = record {
    locals = [];
    code = plain (const32 4096) ∷ plain (load (access Uint8 false) 0 0) ∷ if_block None ∷ unreachable ∷ end_mark ∷ plain (const32 0) ∷ end_mark ∷ [];
  } ∷ [];
}

-- it fits the module, whose memory is a page, and not the text
abbrev beyond : ScriptPlain
beyond = record (calls_alone (called [] 2 ∷ [])) { writes = record { at = 4096; bytes = 1 ∷ []; line = 1 } ∷ [] }

beyond_fits_no_text : misfit still 4096 beyond ≡ Some 1
beyond_fits_no_text = refl

peeking_traps : NeverTraps peeking → ⊥
unfolding load_bytes run_at with_run
peeking_traps never = never beyond refl 10 kinds.Unreachable refl
