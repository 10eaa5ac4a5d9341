-- The limits of asm.js, for a translated module.
use Rattle.std.specs.Prelude.{◌≡◌, ℕ, ◌+◌, ◌≤◌, List, [], ◌∷◌, length}
use Rattle.std.specs.List.{AllByRecursion}
use Rattle.wasm_lang.specs.Modules.{WasmModule}
use Rattle.asm_lang.specs.Modules.{Table}
use Rattle.asm_lang_valid.specs.LimitRows.{most_functions, most_globals, most_foreign_calls, most_members, most_entries, longest_name, member_length, limit_rows}
use Rattle.wasm2js_translation.specs.Modules.{functions_of, variables_of, translated}
use Rattle.wasm2js_translation.specs.Tables.{tables_for}
use Rattle.wasm2js_laws_acceptance.specs.FunctionsFunctions.{uses_of, AreFineFunctions, IsSource}

-- the members of all tables together
abbrev pub member_count : List Table → ℕ
member_count [] = 0
member_count (t ∷ ts) = length t.members + member_count ts

pub record AreFew (w : WasmModule) : Type 0 where
  pub variables : length (variables_of w) ≤ most_globals
  pub functions : length (functions_of w) ≤ most_functions
  pub calls : length (uses_of w) ≤ most_foreign_calls
  pub members : AllByRecursion (λ (t : Table). length t.members ≤ most_members) (tables_for w)
  pub entries : member_count (tables_for w) ≤ most_entries

abbrev pub CountsAreFew : Type 0
CountsAreFew = (w : WasmModule) → IsSource w → AreFew w

-- the names of foreign members
abbrev pub NamesAreShort : Type 0
NamesAreShort = (w : WasmModule) → IsSource w → AllByRecursion (λ v. member_length (translated w) v.init ≤ longest_name) (variables_of w)

-- where each function keeps the limits by itself
abbrev pub LimitsHold : Type 0
LimitsHold = (w : WasmModule) → IsSource w → AreFineFunctions (translated w) (uses_of w) → limit_rows (translated w) ≡ []
