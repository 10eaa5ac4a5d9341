-- The forms of the types before, and the table of a type.
use Rattle.std.specs.Prelude.{◌≡◌, ℕ, Bool, ◌&&◌, not, List, [], ◌∷◌, ◌++◌}
use Rattle.std.specs.Global.{Vec}
use Rattle.wasm_lang.specs.Modules.{FunctionType, WasmModule}
use Rattle.wasm_lang_valid.specs.Measures.{is_among}
use Rattle.wasm_validate_bodies.specs.declared.called.Called.{Called}
use Rattle.wasm_validate_bodies.specs.Calls.{form, holds, IsCalled}
use Rattle.wasm2js_lang.specs.Tables.{MaskedTable, cells_of}

-- these are the forms of those types
abbrev pub AreForms : List (Vec ℕ) → List FunctionType → Type 0
AreForms keys types = (t : FunctionType) → holds keys (form t) ≡ is_among t types

-- calls name the form of a type, and no type before has it
abbrev pub IsWanted : Called → List (Vec ℕ) → FunctionType → Bool → Type 0
IsWanted c keys t wanted = (types named others : List FunctionType) → IsCalled c types named → AreForms keys others → wanted ≡ is_among t named && not (is_among t others)

-- the form of a type came to these
abbrev pub IsOneMore : (old new : List (Vec ℕ)) → FunctionType → Type 0
IsOneMore old new t = (others : List FunctionType) → AreForms old others → AreForms new (others ++ t ∷ [])

abbrev pub table_of : WasmModule → (number : ℕ) → FunctionType → MaskedTable
table_of w n t = record { function_type = n; cells = cells_of w t }
