-- Accesses to the memory, in a function whose helpers on the memory do what they should.
use Rattle.std.specs.Prelude.{◌≡◌, ℕ, ◌+◌, ◌≤◌, Bool, true, false, List}
use Rattle.wasm_lang.specs.declared.types.ValType.{ValType}
use Rattle.wasm_lang.specs.Instructions.{Plain, memory_copy, memory_fill}
use Rattle.wasm_lang_exec.specs.Code.{call, call_indirect, plain, Trees}
use Rattle.wasm_laws_sound.specs.Trees.{IsTyped}
use Rattle.wasm_laws_drive.specs.Contexts.{Surrounding}
use Rattle.asm_lang_exec.specs.Runs.{Part}
use Rattle.asm_lang_exec.specs.Meaning.{Completion}
use Rattle.wasm2js_translation.specs.Bodies.{Aim, comes_to_end}
use Rattle.wasm2js_laws_places.specs.Straight.{Words, Helping}
use Rattle.wasm2js_laws_preservation.specs.ControlControl.{Function, MayStand, under_aims, AreNested, Exits, IsKeptLate}
use Rattle.wasm2js_laws_preservation.specs.ControlLaws.{IsKeptFirst}
use Rattle.wasm2js_laws_preservation.specs.LoadsLaws.{AreReaders}
use Rattle.wasm2js_laws_preservation.specs.StoresLaws.{AreWriters}
use Rattle.wasm2js_laws_preservation.specs.RunsLaws.{AreMovers}
use Rattle.wasm2js_laws_preservation.specs.ComputedLaws.{accesses_memory, IsHelped}

-- in a memory of so many bytes
pub record AreOnMemory (bytes : ℕ) (helping : Helping) : Type 0 where
  pub readers : AreReaders helping
  pub writers : AreWriters helping
  pub movers : AreMovers bytes helping

-- what may take as many units as the memory has bytes
abbrev pub moves_run : Plain → Bool
moves_run memory_copy = true
moves_run memory_fill = true
moves_run p = false

-- copies and fills where a reduction may pay for a loop over the whole memory, and loads and stores anyway
abbrev pub AccessesAreKept : Type 0
AccessesAreKept =
    (f : Function) → (helped : IsHelped f) → AreOnMemory f.setting.bytes helped.helping
    → (p : Plain) → accesses_memory p ≡ true → (moves_run p ≡ true → f.setting.bytes + 80 ≤ f.pace) → IsKeptFirst f (plain p)

-- so all typed code that may stand in the function is kept, where calls are
abbrev pub AllIsKept : Type 0
AllIsKept =
    (f : Function) → (helped : IsHelped f) → AreOnMemory f.setting.bytes helped.helping → f.setting.bytes + 80 ≤ f.pace
    → ((g : ℕ) → IsKeptFirst f (call g)) → ((t : ℕ) → IsKeptFirst f (call_indirect t))
    → (most : ℕ) (code : Trees) (ls : List Aim) (b : ℕ) (ts after : List ValType) (around : List Surrounding) (before : Words) (next : Completion → Part (Unit {0}))
    → most ≤ f.bound → IsTyped (under_aims f.context ls) code ts after → MayStand f code b ts → AreNested ls b → Exits f most ls b after (comes_to_end code) around before next
    → IsKeptLate f most code ls b ts around before next
