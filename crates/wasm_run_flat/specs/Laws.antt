-- From one place of a flat body to the next that a machine comes to.
use Rattle.std.specs.Prelude.{◌≡◌, ℕ, ◌+◌, ◌<◌, List, [], ◌∷◌, drop, length, slice_get, Option, Some}
use Rattle.wasm_lang.specs.declared.types.ValType.{ValType}
use Rattle.wasm_lang.specs.Instructions as flat
use Rattle.wasm_lang.specs.Instructions.{Instruction}
use Rattle.wasm_lang_exec.specs.Code.{Tree, block, loop, if_block, Trees, ε, ◌▹◌, ◌⊕◌, one, tree_of}
use Rattle.wasm_run_flat.specs.Reading.{single}
use Rattle.wasm_run_flat.specs.Jumps.{past_end, other_arm}
use Rattle.wasm_run_flat.specs.Places.{code_at, after_at, place_of, continuation, Stands}
use Rattle.wasm_run_flat.specs.declared.target.Target.{Target}
use Rattle.wasm_run_flat.specs.declared.target.Target.TheVariants.{Past, Again}

-- ---- where a machine begins

pub record Begins (body : List Instruction) (tree : Trees) : Type 0 where
  pub code : code_at body 0 ≡ tree
  pub after : after_at body 0 ≡ []
  pub stands : Stands body 0 []

-- the tree of an expression stands at its first place
abbrev pub TreeStands : Type 0
TreeStands = (body : List Instruction) (tree : Trees) → tree_of body ≡ Some tree → Begins body tree

-- what stands anywhere is followed by an end at least, and there is a code after each block that is open
abbrev pub StandsInside : Type 0
StandsInside = (body : List Instruction) (at : ℕ) (ts : List Target) → Stands body at ts → at < length body

abbrev pub CodesAfter : Type 0
CodesAfter = (body : List Instruction) (at : ℕ) (ts : List Target) → Stands body at ts → length (after_at body at) ≡ length ts

-- ---- an instruction that opens and closes nothing

pub record IsNext (body : List Instruction) (at next : ℕ) (ts : List Target) (x : Tree) : Type 0 where
  pub code : code_at body at ≡ x ▹ code_at body next
  pub after : after_at body at ≡ after_at body next
  pub stands : Stands body next ts

abbrev pub SingleGoesOn : Type 0
SingleGoesOn =
    (body : List Instruction) (at : ℕ) (ts : List Target) (i : Instruction) (x : Tree)
    → Stands body at ts → slice_get body at ≡ Some i → single i ≡ Some x → IsNext body at (at + 1) ts x

-- ---- a block is entered

-- the tree stands at `at`, and at `inside` what a block of it has inside, with one label more
pub record IsOpened (body : List Instruction) (at inside : ℕ) (ts : List Target) (target : Target) (tree : Tree) : Type 0 where
  -- the code after the block
  pub next : Trees
  pub code : code_at body at ≡ tree ▹ next
  pub after : after_at body inside ≡ next ∷ after_at body at
  pub stands : Stands body inside (target ∷ ts)

abbrev pub BlockOpens : Type 0
BlockOpens =
    (body : List Instruction) (at : ℕ) (ts : List Target) (r : Option ValType)
    → Stands body at ts → slice_get body at ≡ Some (flat.block r)
    → IsOpened body at (at + 1) ts (Past (past_end body at)) (block r (code_at body (at + 1)))

abbrev pub LoopOpens : Type 0
LoopOpens =
    (body : List Instruction) (at : ℕ) (ts : List Target) (r : Option ValType)
    → Stands body at ts → slice_get body at ≡ Some (flat.loop r)
    → IsOpened body at (at + 1) ts (Again at) (loop r (code_at body (at + 1)))

-- an if without else has an empty second arm, which stands at its end
abbrev pub FirstArmOpens : Type 0
FirstArmOpens =
    (body : List Instruction) (at : ℕ) (ts : List Target) (r : Option ValType)
    → Stands body at ts → slice_get body at ≡ Some (flat.if_block r)
    → IsOpened body at (at + 1) ts (Past (past_end body at)) (if_block r (code_at body (at + 1)) (code_at body (other_arm body at)))

abbrev pub SecondArmOpens : Type 0
SecondArmOpens =
    (body : List Instruction) (at : ℕ) (ts : List Target) (r : Option ValType)
    → Stands body at ts → slice_get body at ≡ Some (flat.if_block r)
    → IsOpened body at (other_arm body at) ts (Past (past_end body at)) (if_block r (code_at body (at + 1)) (code_at body (other_arm body at)))

-- what a branch to it goes on with
abbrev pub BlockGoesOn : Type 0
BlockGoesOn = (body : List Instruction) (place : ℕ) → continuation body (Past place) ≡ ε

abbrev pub LoopGoesOn : Type 0
LoopGoesOn =
    (body : List Instruction) (at : ℕ) (ts : List Target) (r : Option ValType)
    → Stands body at ts → slice_get body at ≡ Some (flat.loop r) → continuation body (Again at) ≡ one (loop r (code_at body (at + 1)))

-- ---- a block is left at its end, or at the end of its first arm

-- `place` is past the block
pub record IsLeft (body : List Instruction) (at place : ℕ) (ts : List Target) : Type 0 where
  pub code : code_at body at ≡ ε
  pub after : after_at body at ≡ code_at body place ∷ after_at body place
  pub stands : Stands body place ts

abbrev pub EndLeaves : Type 0
EndLeaves =
    (body : List Instruction) (at : ℕ) (t : Target) (ts : List Target)
    → Stands body at (t ∷ ts) → slice_get body at ≡ Some flat.end_mark → IsLeft body at (at + 1) ts

abbrev pub ElseLeaves : Type 0
ElseLeaves =
    (body : List Instruction) (at : ℕ) (t : Target) (ts : List Target)
    → Stands body at (t ∷ ts) → slice_get body at ≡ Some flat.else_mark → IsLeft body at (past_end body at) ts

-- the body's own end
pub record IsDone (body : List Instruction) (at : ℕ) : Type 0 where
  pub code : code_at body at ≡ ε
  pub after : after_at body at ≡ []

abbrev pub LastEnds : Type 0
LastEnds = (body : List Instruction) (at : ℕ) → Stands body at [] → slice_get body at ≡ Some flat.end_mark → IsDone body at

-- an else stands in a block
abbrev pub ElseStandsInside : Type 0
ElseStandsInside = (body : List Instruction) (at : ℕ) → Stands body at [] → slice_get body at ≡ Some flat.else_mark → ⊥

-- ---- a branch

-- out of k blocks and to the next one: its target, its continuation before the code after it
pub record IsBranch (body : List Instruction) (at k : ℕ) (ts : List Target) (t : Target) : Type 0 where
  -- the code after that block
  pub next : Trees
  pub was_next : slice_get (after_at body at) k ≡ Some next
  pub code : code_at body (place_of t) ≡ continuation body t ⊕ next
  pub after : after_at body (place_of t) ≡ drop (k + 1) (after_at body at)
  pub stands : Stands body (place_of t) (drop (k + 1) ts)

abbrev pub BranchGoesOn : Type 0
BranchGoesOn =
    (body : List Instruction) (at : ℕ) (ts : List Target) (k : ℕ) (t : Target)
    → Stands body at ts → slice_get ts k ≡ Some t → IsBranch body at k ts t
