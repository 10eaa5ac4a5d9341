-- What holds of masked tables, and what isn't allowed.
use Rattle.std.specs.Prelude.{◌≡◌, ◌≢◌, ℕ, ◌<◌, ◌≤◌, true, length, Option, Some, slice_get}
use Rattle.session_lang.specs.Script.{ScriptPlain}
use Rattle.wasm_lang.specs.Modules.{FunctionType, WasmModule}
use Rattle.wasm_lang_valid.specs.Measures.{called_types, is_among}
use Rattle.wasm_lang_valid.specs.Profile.{table_length, padded, IsInProfile}
use Rattle.wasm_lang_exec.specs.Session.{with_entries, first_store}
use Rattle.asm_lang.specs.Modules.{no_stmts}
use Rattle.wasm2js_lang.specs.Tables.{empty, cell, entries_of, cells_of, masked}
use Rattle.wasm2js_lang.specs.Allowed.{IsAllowed}
use Rattle.wasm2js_lang.specs.Helpers.{HasHelpers}
use Rattle.wasm2js_lang.specs.Worked.{small, small_text, giving, rotating, with_rotation}

-- a type that a call names has a table, under the least number of that type
pub record HasTable (w : WasmModule) (t : FunctionType) : Type 0 where
  pub number : ℕ
  pub place : ℕ
  pub is_there : slice_get (masked w) place ≡ Some (record { function_type = number; cells = cells_of w t })
  pub is_number : slice_get w.types number ≡ Some t
  pub is_least : (k : ℕ) → k < number → slice_get w.types k ≢ Some t

abbrev pub CalledTypesHaveTables : Type 0
CalledTypesHaveTables = (w : WasmModule) (k : ℕ) (t : FunctionType) → slice_get w.types k ≡ Some t → is_among t (called_types w.types w.bodies) ≡ true → HasTable w t

-- an index finds the cell of the entry there
abbrev pub CellsAreOfEntries : Type 0
CellsAreOfEntries = (w : WasmModule) (t : FunctionType) (i : ℕ) (e : Option ℕ) → slice_get (entries_of w) i ≡ Some e → slice_get (cells_of w t) i ≡ Some (cell w t e)

-- .. and past the table an empty one, up to a power of two
pub record ArePadded (w : WasmModule) (t : FunctionType) : Type 0 where
  pub entries : length (entries_of w) ≡ table_length w
  pub long : length (cells_of w t) ≡ padded (table_length w)
  pub past : (i : ℕ) → table_length w ≤ i → i < padded (table_length w) → slice_get (cells_of w t) i ≡ Some empty

abbrev pub CellsArePadded : Type 0
CellsArePadded = (w : WasmModule) (t : FunctionType) → IsInProfile w → ArePadded w t

-- the entries are those of the table as a session begins
abbrev pub EntriesAreTheTable : Type 0
EntriesAreTheTable = (w : WasmModule) (s : ScriptPlain) → IsInProfile w → (with_entries w.elements (first_store w s)).table ≡ entries_of w

-- ---- what isn't allowed

-- a high word other than 0 before any result of 64 bits
abbrev pub HighWordsBeginAsZero : Type 0
HighWordsBeginAsZero = IsAllowed small (small_text 7) → ⊥

-- a helper without a body, and one that gives 0 whatever it takes
abbrev pub EmptyHelpersAreRefused : Type 0
EmptyHelpersAreRefused = HasHelpers rotating (with_rotation no_stmts) → ⊥

abbrev pub IdleHelpersAreRefused : Type 0
IdleHelpersAreRefused = HasHelpers rotating (with_rotation (giving 0)) → ⊥
