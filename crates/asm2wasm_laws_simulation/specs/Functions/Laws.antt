-- What holds of calls of a translated module's own functions.
use Rattle.std.specs.Prelude.{◌≡◌, ℕ, ◌+◌, ◌*◌, ◌≤◌, true, Some, slice_get}
use Rattle.wasm_laws_trees.specs.Spelled.{size}
use Rattle.asm_lang.specs.Modules.{Function}
use Rattle.asm_lang_valid.specs.Typed.{scope_of}
use Rattle.asm_lang_exec.specs.Meaning.{call_at}
use Rattle.asm2wasm_lang.specs.Allowed.{most_nodes}
use Rattle.asm2wasm_translation.specs.Bodies.{function_code}
use Rattle.asm2wasm_translation.specs.Modules.{translation}
use Rattle.asm2wasm_laws_acceptance.specs.Laws.{table_entries}
use Rattle.asm2wasm_laws_preservation.specs.Kept.{Surroundings}
use Rattle.asm2wasm_laws_preservation.specs.Made.{CallsKept, OwnKept}
use Rattle.asm2wasm_laws_preservation.specs.Laws.{AreAccepted}

-- the surroundings are those of a function of an accepted module's translation, whose table has the entries that the text says
pub record AreTranslated (s : Surroundings) : Type 0 where
  pub accepted : AreAccepted s
  pub target : s.target ≡ translation s.home s.heap
  pub entries : s.fixed.entries ≡ table_entries s.home

-- a unit is worth the code of any function of the module, with the call and the end of its frame
abbrev pub UnitsPay : Surroundings → Type 0
UnitsPay s = (n : ℕ) (g : Function) → slice_get s.home.functions n ≡ Some g → size (function_code s.heap (scope_of s.home g)) + 2 ≤ s.worth

-- a call of a function of the module shows its meaning, where calls may lie as deep as units are left
abbrev pub FunctionsAreKept : Type 0
FunctionsAreKept = (s : Surroundings) (limit bound : ℕ) → AreTranslated s → UnitsPay s → limit ≤ bound → OwnKept s limit (call_at true s.home bound)

-- .. and so does each other call
abbrev pub CallsInModulesAreKept : Type 0
CallsInModulesAreKept = (s : Surroundings) (limit bound : ℕ) → AreTranslated s → UnitsPay s → limit ≤ bound → CallsKept s limit (call_at true s.home bound)

-- the nodes and clauses of the largest function say what is enough to pay for each
abbrev pub NodesPay : Type 0
NodesPay = (s : Surroundings) → 14 * most_nodes s.home.functions + 2 ≤ s.worth → UnitsPay s
