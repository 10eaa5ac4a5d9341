-- Which functions for missing entries are needed.
use Rattle.std.specs.Prelude.{◌≡◌, ℕ, ◌+◌, ◌<◌, Bool, false, ◌&&◌, ◌||◌, ◌==◌, if◌then◌else◌, List, [], ◌∷◌, ◌++◌, length, slice_get, Some}
use Rattle.std.specs.List.{list_any}
use Rattle.wasm_lang.specs.Modules.{FunctionType}
use Rattle.asm_lang.specs.Modules.{Function}
use Rattle.wasm2js_translation.specs.Names.{no_entry, other_entry}
use Rattle.wasm2js_lang.specs.Tables.{Cell, MaskedTable}
use Rattle.wasm2js_translation.specs.Tables.{stub_number, stub_function, is_empty, is_other}
use Rattle.wasm2js_stubs.specs.declared.needs.Needed.{Needed}

abbrev pub nothing : Needed
nothing = record { empty = false; other = false }

abbrev pub joined : Needed → Needed → Needed
joined a b = record { empty = a.empty || b.empty; other = a.other || b.other }

abbrev pub joined_where : Bool → Needed → Needed → Needed
joined_where test a b = if test then joined a b else a

-- ---- by the number of a stub, in a module with these types

abbrev pub stub_in : List FunctionType → MaskedTable → ℕ
stub_in types t = stub_number (slice_get types t.function_type)

abbrev pub needed_in : List FunctionType → List MaskedTable → (Cell → Bool) → (stub : ℕ) → Bool
needed_in types ts test stub = list_any (λ t. (stub_in types t == stub) && list_any test t.cells) ts

abbrev pub needs_at : List FunctionType → List MaskedTable → (stub : ℕ) → Needed
needs_at types ts stub = record { empty = needed_in types ts is_empty stub; other = needed_in types ts is_other stub }

-- for so many stubs, the first one number 0
pub record AreNeeds (count : ℕ) (types : List FunctionType) (ts : List MaskedTable) (needs : List Needed) : Type 0 where
  pub as_many : length needs ≡ count
  pub each : (k : ℕ) → k < count → slice_get needs k ≡ Some (needs_at types ts k)

abbrev pub needs_of : List Cell → Needed
needs_of cells = record { empty = list_any is_empty cells; other = list_any is_other cells }

-- ---- the functions that are needed, from a number on

abbrev pub functions_at : (stub : ℕ) → Needed → List Function
functions_at stub n = (if n.empty then stub_function no_entry 5 stub ∷ [] else []) ++ (if n.other then stub_function other_entry 6 stub ∷ [] else [])

abbrev pub functions_from : (stub : ℕ) → List Needed → List Function
functions_from stub [] = []
functions_from stub (n ∷ ns) = functions_at stub n ++ functions_from (stub + 1) ns
