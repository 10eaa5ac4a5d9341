-- Blocks, loops and ifs keep what their parts keep.
use Rattle.std.specs.Prelude.{ℕ, ◌≤◌, List}
use Rattle.wasm_lang.specs.declared.types.ValType.{ValType}
use Rattle.wasm_lang_exec.specs.Code.{Tree, block, loop, if_block, br_if, return, call, plain, Trees, ◌▹◌}
use Rattle.wasm_laws_sound.specs.Trees.{IsTyped}
use Rattle.wasm_laws_drive.specs.Contexts.{Surrounding}
use Rattle.asm_lang_exec.specs.Runs.{Part}
use Rattle.asm_lang_exec.specs.Meaning.{Completion}
use Rattle.wasm2js_translation.specs.Bodies.{Aim, comes_to_end}
use Rattle.wasm2js_laws_places.specs.Straight.{Words}
use Rattle.wasm2js_laws_preservation.specs.ControlControl.{Function, IsFair, MayStand, under_aims, AreNested, Exits, IsKept, IsKeptLate}

-- instructions that open no block
abbrev pub OpensNone : Tree → Type 0
OpensNone (block r body) = ⊥
OpensNone (loop r body) = ⊥
OpensNone (if_block r first second) = ⊥
OpensNone t = Unit {0}

-- how code is kept, with what stands round it
abbrev pub Keeping : Type 1
Keeping = (f : Function) (most : ℕ) → Trees → List Aim → (b : ℕ) → List ValType → List Surrounding → (before : Words) → (Completion → Part (Unit {0})) → Type 0

-- an instruction is kept where it may stand, with whatever code after it that is kept
abbrev pub IsKeptBefore : Keeping → (f : Function) → Tree → Type 0
IsKeptBefore Kept f t =
    (most : ℕ) (code : Trees) (ls : List Aim) (b : ℕ) (ts after : List ValType) (around : List Surrounding) (before : Words) (next : Completion → Part (Unit {0}))
    → most ≤ f.bound → IsTyped (under_aims f.context ls) (t ▹ code) ts after → MayStand f (t ▹ code) b ts → AreNested ls b → Exits f most ls b after (comes_to_end (t ▹ code)) around before next
    → ((us : List ValType) → IsTyped (under_aims f.context ls) code us after → MayStand f code b us → Exits f most ls b after (comes_to_end code) around before next → Kept f most code ls b us around before next)
    → Kept f most (t ▹ code) ls b ts around before next

-- words may wait before a plain one, and after it, and variables be known there; before a branch by a condition, a return and a call too, which
-- read operands' words where they wait; all are written before each other one, and nothing is known
abbrev pub IsKeptFirst : (f : Function) → Tree → Type 0
IsKeptFirst f (plain p) = IsKeptBefore IsKeptLate f (plain p)
IsKeptFirst f (br_if k) = IsKeptBefore IsKeptLate f (br_if k)
IsKeptFirst f return = IsKeptBefore IsKeptLate f return
IsKeptFirst f (call g) = IsKeptBefore IsKeptLate f (call g)
IsKeptFirst f t = IsKeptBefore IsKept f t

-- where each instruction that opens no block is kept, all code that may stand there is
abbrev pub CodeIsKept : Type 0
CodeIsKept =
    (f : Function) → IsFair f → ((t : Tree) → OpensNone t → IsKeptFirst f t)
    → (most : ℕ) (code : Trees) (ls : List Aim) (b : ℕ) (ts after : List ValType) (around : List Surrounding) (before : Words) (next : Completion → Part (Unit {0}))
    → most ≤ f.bound → IsTyped (under_aims f.context ls) code ts after → MayStand f code b ts → AreNested ls b → Exits f most ls b after (comes_to_end code) around before next
    → IsKeptLate f most code ls b ts around before next
