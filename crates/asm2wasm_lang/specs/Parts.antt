-- What is proved of a module of WebAssembly that is written for one of asm.js, beyond what it shows: its sessions never trap, its functions and its
-- table are those of the text by number, it can be read and, where the text is short, written, and where the text is small, translated back.
use Rattle.std.specs.Prelude.{◌≡◌, ◌≢◌, ℕ, ◌+◌, true, List, [], ◌∷◌, length, map, Some, None, slice_get}
use Rattle.sem_words.specs.declared.word.TrapKind.{TrapKind}
use Rattle.session_lang.specs.Script.{ScriptPlain}
use Rattle.session_lang.specs.Observation.{trapped}
use Rattle.wasm_lang.specs.declared.types.Limits.{Limits}
use Rattle.wasm_lang.specs.Instructions.{plain, const32, end_mark}
use Rattle.wasm_lang.specs.Limits.{IsWithinReader}
use Rattle.wasm_lang.specs.Modules.{ElementSegment, WasmModule}
use Rattle.wasm_lang.specs.Shape.{IsShaped, IsWritable}
use Rattle.wasm_lang_valid.specs.ModuleRules.{imported_functions}
use Rattle.wasm_lang_valid.specs.Profile.{IsInProfile}
use Rattle.wasm_lang_exec.specs.Session.{first_store, entries_fit, with_entries, wasm}
use Rattle.wasm_lang_exec.specs.Fits.{misfit}
use Rattle.asm_lang.specs.Modules.{Function, Table, Module}
use Rattle.asm_lang_valid.specs.LimitRows.{foreign_calls}
use Rattle.asm_lang_valid.specs.Refusal.{function_number}
use Rattle.asm2wasm_lang.specs.Allowed.{IsAllowed, IsBounded}
use Rattle.asm2wasm_lang.specs.Calling.{exactly}
use Rattle.asm2wasm_lang.specs.Tables.{entries_of, bases_of}
use Rattle.asm2wasm_lang.specs.Alone.{exporting, exporting_number}
use Rattle.asm2wasm_lang.specs.Small.{IsSmall}
use Rattle.asm2wasm_lang.specs.Short.{IsOfShortText}

-- no session of a script that fits the module ends with a trap, also where the script fits no text, since it writes past the heap
abbrev pub NeverTraps : WasmModule → Type 0
NeverTraps w = (s : ScriptPlain) → misfit w s ≡ None → (n : ℕ) (kind : TrapKind) → (wasm w s n).end ≢ Some (trapped kind)

-- ---- functions

-- Function n of the text is function n after the imported ones, also where no export reaches it: the two modules, each with that function as
-- its one export, show the same.
pub record HasFunctions (m : Module) (size : ℕ) (w : WasmModule) : Type 0 where
  pub imported : length (imported_functions w.imports) ≡ length (foreign_calls m)
  pub as_many : length w.functions ≡ length m.functions
  pub each : (n : ℕ) (f : Function) → slice_get m.functions n ≡ Some f → IsAllowed (exporting f m) size (exporting_number f.name (length (foreign_calls m) + n) w)

-- ---- the table

-- one table with so many entries for the tables of a text, and none where it has none
abbrev pub tables_for : List Table → ℕ → List Limits
tables_for [] n = []
tables_for (t ∷ ts) n = exactly n ∷ []

-- one segment that puts these functions at the table's front, and none where the text has no table
abbrev pub segments_for : List Table → List ℕ → List ElementSegment
segments_for [] fs = []
segments_for (t ∷ ts) fs = record { table = 0; offset = plain (const32 0) ∷ end_mark ∷ []; functions = fs } ∷ []

-- The tables of the text stand in one table, end to end. As a session begins, the entry at a place of a text's table stands so many
-- entries after where that table begins.
pub record HasTables (m : Module) (w : WasmModule) : Type 0 where
  pub table : w.tables ≡ tables_for m.tables (length (entries_of m))
  pub segment : w.elements ≡ segments_for m.tables (map (λ n. length (foreign_calls m) + n) (entries_of m))
  pub fits : (s : ScriptPlain) → entries_fit (first_store w s) w.elements ≡ true
  pub filled : (s : ScriptPlain) (n i base : ℕ) (t : Table) (name : List ℕ)
      → slice_get m.tables n ≡ Some t → slice_get (bases_of m) n ≡ Some base → slice_get t.members i ≡ Some name
      → slice_get (with_entries w.elements (first_store w s)).table (base + i) ≡ Some (Some (length (foreign_calls m) + function_number m.functions name))

-- ---- the whole

pub record StandsFor (m : Module) (size : ℕ) (w : WasmModule) : Type 0 where
  pub allowed : IsAllowed m size w
  pub bounded : IsBounded m size w
  pub never_traps : NeverTraps w
  pub within : IsWithinReader w
  pub shaped : IsShaped w
  pub writable : IsOfShortText m → IsWritable w
  pub functions : HasFunctions m size w
  pub tables : HasTables m w
  pub profile : IsSmall m → IsInProfile w
