-- The machine as plain values.
use Rattle.std.specs.Prelude.{ℕ, List, [], ◌∷◌}
use Rattle.sem_words.specs.declared.word.Word.{Word}
use Rattle.wasm_lang_exec.specs.Store.{Store}
use Rattle.wasm_laws_drive.specs.Drive.{State}
use Rattle.wasm_run_flat.specs.declared.target.Target.{Target}

-- a label: where a branch to it goes on, how many operands it carries, and how many stand below those of the block round it
pub record LabelPlain : Type 0 where
  pub target : Target
  pub arity : ℕ
  pub floor : ℕ

-- a function that was entered: the function, place and locals of its caller, the count of its results, and how many operands stand
-- below the caller's
pub record FramePlain : Type 0 where
  pub function : ℕ
  pub at : ℕ
  pub locals : List Word
  pub arity : ℕ
  pub floor : ℕ

pub data EnclosingPlain : Type 0 where
  of_label : LabelPlain → EnclosingPlain
  of_frame : FramePlain → EnclosingPlain

-- The operands of the innermost block and those below them stand with the topmost first, and what encloses the innermost code with
-- the innermost first.
pub record MachinePlain : Type 0 where
  pub values : List Word
  pub below : List Word
  pub locals : List Word
  pub function : ℕ
  pub at : ℕ
  pub enclosing : List EnclosingPlain
  pub store : Store

-- .. with so many reductions left
abbrev pub state_of : MachinePlain → ℕ → State
state_of v n = record { values = v.values; locals = v.locals; store = v.store; left = n }

-- where branches to the labels of the innermost function go on
abbrev pub targets_of : List EnclosingPlain → List Target
targets_of [] = []
targets_of (of_label b ∷ es) = b.target ∷ targets_of es
targets_of (of_frame f ∷ es) = []
