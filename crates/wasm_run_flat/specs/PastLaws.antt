-- What stands past a block of a flat body.
use Rattle.std.specs.Prelude.{◌≡◌, ℕ, ◌+◌, List, slice_get, Option, Some}
use Rattle.wasm_lang.specs.declared.types.ValType.{ValType}
use Rattle.wasm_lang.specs.Instructions as flat
use Rattle.wasm_lang.specs.Instructions.{Instruction}
use Rattle.wasm_lang_exec.specs.Code.{block, loop, if_block}
use Rattle.wasm_run_flat.specs.Jumps.{past_end, other_arm}
use Rattle.wasm_run_flat.specs.Places.{code_at, Stands}
use Rattle.wasm_run_flat.specs.Laws.{IsNext}
use Rattle.wasm_run_flat.specs.declared.target.Target.{Target}

-- the code from the block on is the block, with what stands inside it, before what stands past its end

abbrev pub PastBlock : Type 0
PastBlock =
    (body : List Instruction) (at : ℕ) (ts : List Target) (r : Option ValType)
    → Stands body at ts → slice_get body at ≡ Some (flat.block r) → IsNext body at (past_end body at) ts (block r (code_at body (at + 1)))

abbrev pub PastLoop : Type 0
PastLoop =
    (body : List Instruction) (at : ℕ) (ts : List Target) (r : Option ValType)
    → Stands body at ts → slice_get body at ≡ Some (flat.loop r) → IsNext body at (past_end body at) ts (loop r (code_at body (at + 1)))

abbrev pub PastIf : Type 0
PastIf =
    (body : List Instruction) (at : ℕ) (ts : List Target) (r : Option ValType)
    → Stands body at ts → slice_get body at ≡ Some (flat.if_block r)
    → IsNext body at (past_end body at) ts (if_block r (code_at body (at + 1)) (code_at body (other_arm body at)))
