-- Each instruction that doesn't access the memory, and code whose accesses and calls are kept.
use Rattle.std.specs.Prelude.{◌≡◌, ℕ, ◌≤◌, Bool, true, false, List}
use Rattle.wasm_lang.specs.declared.types.ValType.{ValType}
use Rattle.wasm_lang.specs.Instructions.{Plain, load, store, memory_copy, memory_fill}
use Rattle.wasm_lang_exec.specs.Code.{call, call_indirect, plain, Trees}
use Rattle.wasm_laws_sound.specs.Trees.{IsTyped}
use Rattle.wasm_laws_drive.specs.Contexts.{Surrounding}
use Rattle.asm_lang_exec.specs.Runs.{Part}
use Rattle.asm_lang_exec.specs.Values.{Calls}
use Rattle.asm_lang_exec.specs.Meaning.{Completion}
use Rattle.asm_laws_continuation.specs.Laws.{AllFollow}
use Rattle.wasm2js_translation.specs.Bodies.{Aim, comes_to_end}
use Rattle.wasm2js_laws_places.specs.Straight.{Words, Helping}
use Rattle.wasm2js_laws_places.specs.Helped.{AreHelpers}
use Rattle.wasm2js_laws_typed.specs.Laws.{IsFormed}
use Rattle.wasm2js_laws_preservation.specs.ControlControl.{Function, IsFair, MayStand, under_aims, AreNested, Exits, IsKeptLate}
use Rattle.wasm2js_laws_preservation.specs.ControlLaws.{IsKeptFirst}
use Rattle.wasm2js_laws_preservation.specs.InstructionsPlain.{Supports, Always}

abbrev pub accesses_memory : Plain → Bool
accesses_memory (load op align offset) = true
accesses_memory (store op align offset) = true
accesses_memory memory_copy = true
accesses_memory memory_fill = true
accesses_memory p = false

-- the code of each other instruction does what the instruction does
abbrev pub EachIs : Type 0
EachIs = (p : Plain) → accesses_memory p ≡ false → IsFormed p → Always p

-- a function whose helpers do what they should
pub record IsHelped (f : Function) : Type 0 where
  pub fair : IsFair f
  pub calls : Calls
  pub follow : AllFollow calls f.calls
  pub helping : Helping
  pub helpers : AreHelpers f.scope calls f.bound f.setting.bytes helping
  pub supports : Supports f helping

-- each is kept
abbrev pub EachIsKept : Type 0
EachIsKept = (f : Function) → IsHelped f → (p : Plain) → accesses_memory p ≡ false → IsKeptFirst f (plain p)

-- where accesses to the memory and calls are kept too, so is all typed code that may stand in the function
abbrev pub AllIsKept : Type 0
AllIsKept =
    (f : Function) → IsHelped f → ((p : Plain) → accesses_memory p ≡ true → IsKeptFirst f (plain p)) → ((g : ℕ) → IsKeptFirst f (call g)) → ((t : ℕ) → IsKeptFirst f (call_indirect t))
    → (most : ℕ) (code : Trees) (ls : List Aim) (b : ℕ) (ts after : List ValType) (around : List Surrounding) (before : Words) (next : Completion → Part (Unit {0}))
    → most ≤ f.bound → IsTyped (under_aims f.context ls) code ts after → MayStand f code b ts → AreNested ls b → Exits f most ls b after (comes_to_end code) around before next
    → IsKeptLate f most code ls b ts around before next
