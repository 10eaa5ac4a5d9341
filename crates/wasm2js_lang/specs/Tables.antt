-- The one table of a module as several, each for the calls that name one form of type.
use Rattle.std.specs.Prelude.{◌≡◌, ◌↔◌, ℕ, suc, ◌-◌, Bool, false, ◌&&◌, not, if◌then◌else◌, List, [], ◌∷◌, ◌++◌, length, map, replicate, Option, Some, None, slice_get}
use Rattle.wasm_lang.specs.Modules.{FunctionType, ElementSegment, WasmModule}
use Rattle.wasm_lang_valid.specs.Measures.{called_types, same_type, is_among}
use Rattle.wasm_lang_valid.specs.ModuleRules.{type_of_function}
use Rattle.wasm_lang_valid.specs.Profile.{constant_offset, or_zero, table_length, padded}
use Rattle.wasm_lang_exec.specs.Session.{replaced}
use Rattle.asm_lang.specs.Modules.{Table}

-- what a call finds: a function of the type that it names, nothing, or a function of another type
pub data Cell : Type 0 where
  a_function : (function : ℕ) → Cell
  empty : Cell
  other : Cell

-- the number of the type, and the cells
pub record MaskedTable : Type 0 where
  pub function_type : ℕ
  pub cells : List Cell

-- ---- the entries of the table as a session begins: elements that stand later win, and offsets are constants

abbrev pub with_elements : List ElementSegment → List (Option ℕ) → List (Option ℕ)
with_elements [] entries = entries
with_elements (e ∷ es) entries = with_elements es (replaced (or_zero (constant_offset e.offset)) (map Some e.functions) entries)

abbrev pub entries_of : WasmModule → List (Option ℕ)
entries_of w = with_elements w.elements (replicate (table_length w) None)

-- ---- cells

abbrev pub has_form : FunctionType → Option FunctionType → Bool
has_form t None = false
has_form t (Some u) = same_type t u

abbrev pub cell : WasmModule → FunctionType → Option ℕ → Cell
cell w t None = empty
cell w t (Some f) = if has_form t (type_of_function w f) then a_function f else other

-- up to a power of two, so that an index can be masked
abbrev pub cells_of : WasmModule → FunctionType → List Cell
cells_of w t = map (cell w t) (entries_of w) ++ replicate (padded (table_length w) - length (entries_of w)) empty

-- ---- tables: one for each form that a call names, under the least number of a type of that form, in the order of these numbers

-- the types from number `n` on, where those before them are these
abbrev pub masked_from : WasmModule → (n : ℕ) → (before types : List FunctionType) → List MaskedTable
masked_from w n before [] = []
masked_from w n before (t ∷ ts) =
    if is_among t (called_types w.types w.bodies) && not (is_among t before)
    then record { function_type = n; cells = cells_of w t } ∷ masked_from w (suc n) (before ++ t ∷ []) ts
    else masked_from w (suc n) (before ++ t ∷ []) ts

abbrev pub masked : WasmModule → List MaskedTable
masked w = masked_from w 0 [] w.types

-- ---- a table of asm.js stands for a masked one: as many members as cells, two of them one function exactly where their cells are equal

pub record StandsFor (table : Table) (masked : MaskedTable) : Type 0 where
  pub as_long : length table.members ≡ length masked.cells
  pub alike : (i j : ℕ) (f g : List ℕ) (c d : Cell)
      → slice_get table.members i ≡ Some f → slice_get table.members j ≡ Some g → slice_get masked.cells i ≡ Some c → slice_get masked.cells j ≡ Some d
      → (f ≡ g) ↔ (c ≡ d)

abbrev pub StandForAll : List Table → List MaskedTable → Type 0
StandForAll [] [] = Unit {0}
StandForAll (t ∷ ts) (m ∷ ms) = StandsFor t m × StandForAll ts ms
StandForAll _ _ = ⊥
