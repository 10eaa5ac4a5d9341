-- The statements of code.
use Rattle.std.specs.Prelude.{◌≡◌, ℕ, ◌+◌, true, List, [], Option, Some, slice_get, is_some}
use Rattle.wasm_lang.specs.declared.types.ValType.{ValType}
use Rattle.wasm_lang.specs.Modules.{FunctionType}
use Rattle.wasm_lang_valid.specs.Typing.{Context}
use Rattle.wasm_lang_exec.specs.Code.{unreachable, block, loop, if_block, br, br_if, br_table, return, call, call_indirect, plain, Trees, ε, ◌▹◌}
use Rattle.wasm_laws_sound.specs.Trees.{IsTyped}
use Rattle.wasm_laws_trees.specs.Spelled.{tree_levels}
use Rattle.asm_lang_valid.specs.Typing.{Scope, Around, result_of}
use Rattle.wasm2js_laws_scopes.specs.Provided.{Called, AsksAmong, Provides, HasRoom}
use Rattle.wasm2js_translation.specs.Bodies.{Aim, stmts_of}
use Rattle.wasm2js_translation.specs.Rooms.{room_of}
use Rattle.wasm2js_laws_typed.specs.Laws.{IsFormed}
use Rattle.wasm2js_laws_typed.specs.Constructs.{AllFine, AreAims, LeavesResult, labels_for}

-- instructions are formed, and the types that calls of entries name, and the helpers, are among those that are called
module _ (types : List FunctionType) (is_called : Called) where
  abbrev pub IsFormedCode : Trees → Type 0
  IsFormedCode ε = Unit {0}
  IsFormedCode (plain p ▹ code) = (IsFormed p × AsksAmong is_called.helpers p) × IsFormedCode code
  IsFormedCode (block r body ▹ code) = IsFormedCode body × IsFormedCode code
  IsFormedCode (loop r body ▹ code) = IsFormedCode body × IsFormedCode code
  IsFormedCode (if_block r first second ▹ code) = IsFormedCode first × IsFormedCode second × IsFormedCode code
  IsFormedCode (call_indirect n ▹ code) = ((t : FunctionType) → slice_get types n ≡ Some t → is_called.types t ≡ true) × IsFormedCode code
  IsFormedCode (unreachable ▹ code) = IsFormedCode code
  IsFormedCode (br k ▹ code) = IsFormedCode code
  IsFormedCode (br_if k ▹ code) = IsFormedCode code
  IsFormedCode (br_table ks d ▹ code) = IsFormedCode code
  IsFormedCode (return ▹ code) = IsFormedCode code
  IsFormedCode (call f ▹ code) = IsFormedCode code

-- each block adds 1 to the height
abbrev pub CodeIsFine : Type 0
CodeIsFine =
    (s : Scope) (c : Context) (is_called : Called) (bytes cells : ℕ) → Provides s c is_called bytes cells → result_of s ≡ is_some c.returns
    → (code : Trees) (labels : List (Option ValType)) (ls : List Aim) (b : ℕ) (before after : List ValType) (a : Around) → IsTyped (record c { labels = labels }) code before after
    → IsFormedCode c.types is_called code → AreAims c.returns labels ls b → LeavesResult ls after → a.labels ≡ labels_for ls → HasRoom s c (room_of c code b before)
    → AllFine s a (30 + tree_levels code) (stmts_of bytes cells c code ls b before [] [])
