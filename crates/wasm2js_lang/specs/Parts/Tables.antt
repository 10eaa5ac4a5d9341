-- The tables of a module of asm.js that stands for one of WebAssembly.
use Rattle.std.specs.Prelude.{◌≡◌, ◌↔◌, ℕ, ◌^◌, ◌≤◌, Bool, false, ◌&&◌, not, List, [], ◌∷◌, length, take, filter, Option, Some, None, slice_get}
use Rattle.std.specs.List.{range_with_len}
use Rattle.sem_words.specs.declared.word.TrapKind.TheVariants.{TableEntry, OtherType}
use Rattle.sem_words.specs.Words.{trap_code}
use Rattle.wasm_lang.specs.Modules.{FunctionType, WasmModule}
use Rattle.wasm_lang_valid.specs.Measures.{called_types, is_among}
use Rattle.wasm_lang_valid.specs.Profile.{table_length}
use Rattle.asm_lang.specs.Modules.{Function, Table, Module}
use Rattle.asm_lang_valid.specs.Scope.{a_function as a_function_of, module_meaning}
use Rattle.wasm2js_lang.specs.Tables.{Cell, a_function, empty, other, cell, entries_of}
use Rattle.wasm2js_lang.specs.Parts.Functions.{place_of, Traps}

-- ---- which types have a table: those of a form that a call of an entry names, each form under its least number

abbrev pub has_table : WasmModule → (number : ℕ) → Option FunctionType → Bool
has_table w number None = false
has_table w number (Some t) = is_among t (called_types w.types w.bodies) && not (is_among t (take number w.types))

abbrev pub table_types : WasmModule → List ℕ
table_types w = filter (λ number. has_table w number (slice_get w.types number)) (range_with_len 0 (length w.types))

-- ---- the table of a type

-- the least power of two that is no less than n
pub record IsLeastPower (size n : ℕ) : Type 0 where
  pub exponent : ℕ
  pub is_power : size ≡ 2 ^ exponent
  pub holds : n ≤ size
  pub least : (k : ℕ) → n ≤ 2 ^ k → size ≤ 2 ^ k

-- what a call that names this type finds at an index as a session begins; nothing past the end of the source's table
abbrev pub entry_in : Option (Option ℕ) → Option ℕ
entry_in None = None
entry_in (Some e) = e

abbrev pub found_at : WasmModule → FunctionType → (index : ℕ) → Cell
found_at w t index = cell w t (entry_in (slice_get (entries_of w) index))

-- a function of the type is the function that stands for it; else the call traps
abbrev pub IsFor : WasmModule → Module → Cell → Function → Type 0
IsFor w a (a_function f) g = slice_get a.functions (place_of w f) ≡ Some g
IsFor w a empty g = Traps a (trap_code TableEntry) g
IsFor w a other g = Traps a (trap_code OtherType) g

pub record IsMember (w : WasmModule) (a : Module) (found : Cell) (name : List ℕ) : Type 0 where
  pub function : Function
  pub is_named : module_meaning a name ≡ a_function_of function
  pub is_for : IsFor w a found function

pub record IsTableOf (w : WasmModule) (a : Module) (number : ℕ) (table : Table) : Type 0 where
  pub type : FunctionType
  pub is_type : slice_get w.types number ≡ Some type
  pub long : IsLeastPower (length table.members) (table_length w)
  pub members : (i : ℕ) (name : List ℕ) → slice_get table.members i ≡ Some name → IsMember w a (found_at w type i) name
  -- two members are one function exactly where a call finds the same
  pub alike : (i j : ℕ) (m n : List ℕ) → slice_get table.members i ≡ Some m → slice_get table.members j ≡ Some n → (m ≡ n) ↔ (found_at w type i ≡ found_at w type j)

-- ---- all tables, in order, and no other

abbrev pub AreTablesOf : WasmModule → Module → (numbers : List ℕ) → List Table → Type 0
AreTablesOf w a [] [] = Unit {0}
AreTablesOf w a (n ∷ ns) (t ∷ ts) = IsTableOf w a n t × AreTablesOf w a ns ts
AreTablesOf w a _ _ = ⊥

abbrev pub HasTables : WasmModule → Module → Type 0
HasTables w a = AreTablesOf w a (table_types w) a.tables
