-- Code whose accesses to the memory are kept where they occur.
use Rattle.std.specs.Prelude.{◌≡◌, ℕ, ◌≤◌, Bool, true, false, List, Some}
use Rattle.std.specs.List.{AllByRecursion}
use Rattle.wasm_lang.specs.declared.types.ValType.{ValType}
use Rattle.wasm_lang.specs.Instructions as flat
use Rattle.wasm_lang.specs.Instructions.{Plain, Instruction}
use Rattle.wasm_lang_exec.specs.Code.{unreachable, block, loop, if_block, br, br_if, br_table, return, call, call_indirect, plain, Trees, ε, ◌▹◌, tree_of}
use Rattle.wasm_laws_sound.specs.Trees.{IsTyped}
use Rattle.wasm_laws_drive.specs.Contexts.{Surrounding}
use Rattle.asm_lang_exec.specs.Runs.{Part}
use Rattle.asm_lang_exec.specs.Meaning.{Completion}
use Rattle.wasm2js_translation.specs.Bodies.{Aim, comes_to_end}
use Rattle.wasm2js_laws_places.specs.Straight.{Words}
use Rattle.wasm2js_laws_preservation.specs.ControlControl.{Function, MayStand, under_aims, AreNested, Exits, IsKeptLate}
use Rattle.wasm2js_laws_preservation.specs.ControlLaws.{IsKeptFirst}
use Rattle.wasm2js_laws_preservation.specs.ComputedLaws.{accesses_memory, IsHelped}

-- it holds of each plain instruction in the code
module _ (P : Plain → Type 0) where
  abbrev pub AllPlain : Trees → Type 0
  AllPlain ε = Unit {0}
  AllPlain (plain p ▹ code) = P p × AllPlain code
  AllPlain (block r body ▹ code) = AllPlain body × AllPlain code
  AllPlain (loop r body ▹ code) = AllPlain body × AllPlain code
  AllPlain (if_block r first second ▹ code) = AllPlain first × AllPlain second × AllPlain code
  AllPlain (unreachable ▹ code) = AllPlain code
  AllPlain (br k ▹ code) = AllPlain code
  AllPlain (br_if k ▹ code) = AllPlain code
  AllPlain (br_table ks d ▹ code) = AllPlain code
  AllPlain (return ▹ code) = AllPlain code
  AllPlain (call g ▹ code) = AllPlain code
  AllPlain (call_indirect t ▹ code) = AllPlain code

-- an instruction is kept if it accesses the memory
abbrev pub AccessIsKept : Function → Plain → Type 0
AccessIsKept f p = accesses_memory p ≡ true → IsKeptFirst f (plain p)

-- where calls and the accesses to the memory in it are kept, so is typed code that may stand in the function
abbrev pub OccurringAreKept : Type 0
OccurringAreKept =
    (f : Function) → IsHelped f → ((g : ℕ) → IsKeptFirst f (call g)) → ((t : ℕ) → IsKeptFirst f (call_indirect t))
    → (most : ℕ) (code : Trees) (ls : List Aim) (b : ℕ) (ts after : List ValType) (around : List Surrounding) (before : Words) (next : Completion → Part (Unit {0}))
    → AllPlain (AccessIsKept f) code
    → most ≤ f.bound → IsTyped (under_aims f.context ls) code ts after → MayStand f code b ts → AreNested ls b → Exits f most ls b after (comes_to_end code) around before next
    → IsKeptLate f most code ls b ts around before next

-- no plain instruction of which the test is true
abbrev pub IsNone : (Plain → Bool) → Instruction → Type 0
IsNone test (flat.plain p) = test p ≡ false
IsNone test i = Unit {0}

-- the tree of an expression has the instructions of the expression
abbrev pub NoneInTrees : Type 0
NoneInTrees = (test : Plain → Bool) (code : List Instruction) (trees : Trees) → AllByRecursion (IsNone test) code → tree_of code ≡ Some trees → AllPlain (λ p. test p ≡ false) trees
