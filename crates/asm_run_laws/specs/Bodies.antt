-- Where a statement leaves a function's code.
use Rattle.std.specs.Prelude.{◌≡◌, ℕ, ◌+◌, ◌≤◌, List, ◌∷◌, length, Option}
use Rattle.asm_lang_exec.specs.Runs.{Place, Part}
use Rattle.asm_lang_exec.specs.Meaning.{Completion, normal, broken, continued, returned}
use Rattle.asm_run_code.specs.declared.op.Op.{Op}
use Rattle.asm_run_code.specs.declared.op.Op.TheVariants.{Give}
use Rattle.asm_run_code.specs.Slots.{get}
use Rattle.asm_run_code.specs.Values.{Before}
use Rattle.asm_run_code.specs.Bodies.{Around, break_address, continue_address}
use Rattle.asm_run_laws.specs.Frames.{Setting, Frame, Ends, state, Standing, Kept, Does, word}

-- at the code that comes after it, where a jump goes, or at the operation that gives the function's value
pub record Gives (x : Frame) (w here : ℕ) (new : List ℕ) : Type 0 where
  pub slot : ℕ
  pub rest : List Op
  pub ends : Ends x.whole (Give slot ∷ rest)
  pub there : here ≡ length (Give slot ∷ rest)
  pub value : get new (x.base + slot) ≡ w

abbrev pub LeftAt : Frame → List Around → (at : ℕ) → Completion → (here : ℕ) → List ℕ → Type 0
LeftAt x around at normal here new = here ≡ at
LeftAt x around at (broken n) here new = here ≡ break_address around n
LeftAt x around at (continued n) here new = here ≡ continue_address around n
LeftAt x around at (returned v) here new = Gives x (word v) here new

pub record Left (s : Setting) (x : Frame) (d : ℕ) (around : List Around) (at : ℕ) (old : List ℕ) (e : Completion) (q : Place) (here : ℕ) (new : List ℕ) : Type 0 where
  pub standing : Standing s x new q
  pub kept : Kept x d old new
  pub there : LeftAt x around at e here new

-- jumps go forward from here
pub record Under (around : List Around) (at : ℕ) : Type 0 where
  pub breaks : (n : Option (List ℕ)) → break_address around n ≤ at
  pub continues : (n : Option (List ℕ)) → continue_address around n ≤ at

pub record Executed (s : Setting) (x : Frame) (limit d : ℕ) (around : List Around) (code : Before) (part : Part Completion) : Type 0 where
  pub by : (rest : List Op) (ws : List ℕ) (p : Place) → Ends x.whole (code rest) → Under around (length rest) → Standing s x ws p → p.units ≤ limit
      → Does s x (Left s x d around (length rest) ws) p.units (state x (length (code rest)) ws p) (part p)
