-- Configurations of a pair, and those of the linked module that stand for them.
use Rattle.std.specs.Prelude.{◌≡◌, ℕ, zero, suc, ◌+◌, ◌<◌, ◌≤◌, nat_lt, if◌then◌else◌, List, ◌++◌, length, map, Option, Some, None, option_map, slice_get, slice_set}
use Rattle.sem_words.specs.declared.word.Word.{Word}
use Rattle.wasm_lang.specs.declared.types.ValType.{ValType}
use Rattle.wasm_lang.specs.Instructions as flat
use Rattle.wasm_lang.specs.Instructions.{Plain, Instruction, local_get, local_set, local_tee, global_get, global_set}
use Rattle.wasm_lang.specs.Modules.{FunctionType}
use Rattle.wasm_lang_exec.specs.Code.{Trees}
use Rattle.wasm_lang_exec.specs.Store.{Store}
use Rattle.wasm_lang_exec.specs.Plain.{Effect, goes, traps, sticks}
use Rattle.wasm_lang_exec.specs.Reductions.{Callee, an_import, a_function, Config, Code, Label, Frame}
use Rattle.wasm_link_laws_sessions.specs.Each.{EachIn}
use Rattle.wasm_link_lang.specs.Pairs.{Pair}
use Rattle.wasm_link_lang.specs.Reductions.{entries}
use Rattle.wasm_link_code.specs.Numbers.{number, global_number}
use Rattle.wasm_link_code.specs.Trees.{moved_tree}
use Rattle.wasm_link_laws_modules.specs.Kept.{type_at}

-- how many entries the other module's table has, for code that names the type at an address
abbrev pub other_entries : Pair → ℕ → ℕ
other_entries w t = if nat_lt t (length w.first.types) then entries w.second else entries w.first

-- the address of a function
abbrev pub IsFunction : Pair → ℕ → Type 0
IsFunction w a = (t : FunctionType) × (type_at w a ≡ Some t)

-- a guard has a word of room
abbrev pub HasRoom : (other room : ℕ) → Type 0
HasRoom zero room = Unit {0}
HasRoom (suc n) room = 1 ≤ room

abbrev pub PlainInRange : (locals globals : ℕ) → Plain → Type 0
PlainInRange k g (local_get x) = x < k
PlainInRange k g (local_set x) = x < k
PlainInRange k g (local_tee x) = x < k
PlainInRange k g (global_get x) = x < g
PlainInRange k g (global_set x) = x < g
PlainInRange k g p = Unit {0}

-- an instruction of a body with so many locals and globals, and so much room past the locals
abbrev pub InRange : Pair → (globals locals room : ℕ) → Instruction → Type 0
InRange w g k room (flat.call a) = IsFunction w a
InRange w g k room (flat.call_indirect t) = HasRoom (other_entries w t) room
InRange w g k room (flat.plain p) = PlainInRange k g p
InRange w g k room i = Unit {0}

-- ---- stores

-- the globals in their new order, and the functions of the table by their new numbers
abbrev pub store_of : Pair → (List Word → List Word) → Store → Store
store_of w order s = record { memory = s.memory; globals = order s.globals; table = map (option_map (number w)) s.table; events = s.events; replies = s.replies }

abbrev pub moved_effect : Pair → (List Word → List Word) → (room : List Word) → Effect → Effect
moved_effect w order room (goes values locals s) = goes values (locals ++ room) (store_of w order s)
moved_effect w order room (traps kind) = traps kind
moved_effect w order room sticks = sticks

-- a global stands at its new number, where there are so many
pub record KeepsGlobals (w : Pair) (g : ℕ) (order : List Word → List Word) : Type 0 where
  pub get : (gs : List Word) (x : ℕ) → length gs ≡ g → x < g → slice_get (order gs) (global_number w x) ≡ slice_get gs x
  pub put : (gs : List Word) (x : ℕ) (v : Word) → length gs ≡ g → x < g → slice_set (order gs) (global_number w x) v ≡ order (slice_set gs x v)

-- ---- configurations

module _ (w : Pair) (g : ℕ) where
  abbrev pub Fine : (k room : ℕ) → Trees → Type 0
  Fine k room code = EachIn (InRange w g k room) code

  -- the pair's configuration in a frame with k locals, and the linked one with this room past them
  abbrev pub IsAlike : Config → (k room : ℕ) → Config → Type 0
  IsAlike (Code values code) k room c = Fine k room code × (c ≡ Code values (moved_tree w k code))
  IsAlike (Label values n more inside code) k room c =
      Fine k room more × Fine k room code × (inside' : Config) × IsAlike inside k room inside' × (c ≡ Label values n (moved_tree w k more) inside' (moved_tree w k code))
  IsAlike (Frame values n inner inside code) k room c =
      Fine k room code × (rest : List Word) × (inside' : Config) × IsAlike inside (length inner) (length rest) inside' × (c ≡ Frame values n (inner ++ rest) inside' (moved_tree w k code))

  -- what is called of the pair, and of the linked module
  abbrev pub IsAlikeCallee : Option Callee → Option Callee → Type 0
  IsAlikeCallee None c = c ≡ None
  IsAlikeCallee (Some (an_import name t)) c = c ≡ Some (an_import name t)
  IsAlikeCallee (Some (a_function t more body)) c =
      (extra : List ValType) × Fine (length t.params + length more) (length extra) body
      × (c ≡ Some (a_function t (more ++ extra) (moved_tree w (length t.params + length more) body)))
