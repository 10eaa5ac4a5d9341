-- The open blocks that a list of frames and a list of operands stand for.
use Rattle.std.specs.Prelude.{◌≡◌, ℕ, ◌-◌, ◌≤◌, List, [], ◌∷◌, length, take, drop, reverse, Result, Err}
use Rattle.wasm_lang_valid.specs.declared.rule.Rule.{Rule}
use Rattle.wasm_validate_bodies.specs.declared.fault.Fault.{Fault}
use Rattle.wasm_validate_bodies.specs.declared.fault.Fault.TheVariants.{Broken, Memory}
use Rattle.wasm_validate_bodies.specs.declared.frame.Frame.{Frame}
use Rattle.wasm_lang_valid.specs.State.{Operand, Level}

-- the operands above this height, the top first
abbrev pub over : ℕ → List Operand → List Operand
over height items = reverse (drop height items)

-- the open blocks, the innermost first; the operands lie the bottom first
abbrev pub levels : List Frame → List Operand → List Level
levels [] items = []
levels (f ∷ fs) items =
    record { opening = f.opening; result = f.result; endless = f.endless; operands = over f.height items } ∷ levels fs (take f.height items)

-- no frame stands above the ones in it
abbrev pub Rise : List Frame → ℕ → Type 0
Rise [] n = Unit {0}
Rise (f ∷ fs) n = (f.height ≤ n) × Rise fs f.height

-- the operands under this height are as before
pub record IsKept (height : ℕ) (before after : List Operand) : Type 0 where
  pub below : take height after ≡ take height before
  pub within : height ≤ length after

-- the fault is that of this
abbrev pub FaultIs : {A : Type 0} → Fault → Result A Rule → Type 0
FaultIs (Broken rule) expected = expected ≡ Err rule
FaultIs Memory expected = Unit {0}

-- the frames around the innermost one, of those that lie the innermost last
abbrev pub outer : List Frame → List Frame
outer frames = reverse (take (length frames - 1) frames)
