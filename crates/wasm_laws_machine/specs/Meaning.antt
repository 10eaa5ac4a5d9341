-- What the machine stands for: surroundings with trees of code, and an outcome of them.
use Rattle.std.specs.Prelude.{◌≡◌, ℕ, ◌+◌, List, [], ◌∷◌, ◌++◌, drop, length, Option}
use Rattle.sem_words.specs.declared.word.Word.{Word}
use Rattle.wasm_lang.specs.Instructions.{Instruction}
use Rattle.wasm_lang.specs.Modules.{WasmModule}
use Rattle.wasm_lang_exec.specs.Code.{Trees, ε}
use Rattle.wasm_lang_exec.specs.Reductions.{Callee}
use Rattle.wasm_laws_drive.specs.Drive.{Outcome, Branch, Leave}
use Rattle.wasm_laws_drive.specs.Contexts.{Surrounding, in_label, in_frame, closed}
use Rattle.wasm_laws_drive.specs.Steps.{goes_with, in_call}
use Rattle.wasm_run_flat.specs.Places.{code_at, after_at, continuation, Stands}
use Rattle.wasm_run_flat.specs.declared.target.Target.{Target}
use Rattle.wasm_laws_machine.specs.Machine.{LabelPlain, FramePlain, EnclosingPlain, of_label, of_frame, MachinePlain, state_of, targets_of}

-- the operands of the block round a label or a frame are the topmost of those below it; the others are as many as its floor
pub record IsBelow (floor : ℕ) (below values rest : List Word) : Type 0 where
  pub parts : below ≡ values ++ rest
  pub count : length rest ≡ floor

-- a label or a frame encloses it, of this or an outer function
abbrev pub IsEnclosed : List EnclosingPlain → Type 0
IsEnclosed [] = ⊥
IsEnclosed (e ∷ es) = Unit {0}

pub record IsLabel (b : LabelPlain) (body : List Instruction) (code : Trees) (below : List Word) (around : List Surrounding) (es : List EnclosingPlain) (Outer : List Word → List Surrounding → Type 0) : Type 0 where
  pub values : List Word
  pub rest : List Word
  pub outer : List Surrounding
  pub operands : IsBelow b.floor below values rest
  pub stands_for : around ≡ in_label values b.arity (continuation body b.target) code ∷ outer
  pub is_inside : IsEnclosed es
  pub round : Outer rest outer

pub record IsFrame (f : FramePlain) (code : Trees) (below : List Word) (around : List Surrounding) (Place : Type 0) (Outer : List Word → List Surrounding → Type 0) : Type 0 where
  pub values : List Word
  pub rest : List Word
  pub outer : List Surrounding
  pub operands : IsBelow f.floor below values rest
  pub stands_for : around ≡ in_frame values f.arity code f.locals ∷ outer
  pub is_place : Place
  pub round : Outer rest outer

-- The bodies of functions, by their numbers.
module _ (bodies : ℕ → List Instruction) where
  -- where nothing encloses it, the host called, and no code is left
  abbrev pub code_in : List EnclosingPlain → ℕ → ℕ → Trees
  code_in [] function at = ε
  code_in (e ∷ es) function at = code_at (bodies function) at

  -- the code after each label of the function
  abbrev pub codes_in : List EnclosingPlain → ℕ → ℕ → List Trees
  codes_in [] function at = []
  codes_in (e ∷ es) function at = after_at (bodies function) at

  abbrev pub IsPlace : List EnclosingPlain → ℕ → ℕ → Type 0
  IsPlace [] function at = Unit {0}
  IsPlace (e ∷ es) function at = Stands (bodies function) at (targets_of (e ∷ es))

  -- what encloses code of a function stands for these surroundings, over these operands; the codes after its labels are given
  abbrev pub Encloses : List EnclosingPlain → ℕ → List Trees → List Word → List Surrounding → Type 0
  Encloses [] function codes below around = around ≡ []
  Encloses (of_label b ∷ es) function [] below around = ⊥
  Encloses (of_label b ∷ es) function (code ∷ codes) below around = IsLabel b (bodies function) code below around es (Encloses es function codes)
  Encloses (of_frame f ∷ es) function [] below around =
      IsFrame f (code_in es f.function f.at) below around (IsPlace es f.function f.at) (Encloses es f.function (codes_in es f.function f.at))
  Encloses (of_frame f ∷ es) function (code ∷ codes) below around = ⊥

  -- the machine stands at a place of a function, in some surroundings of which this holds
  pub record Within (v : MachinePlain) (Holds : List Surrounding → Type 0) : Type 0 where
    pub around : List Surrounding
    pub is_place : IsPlace v.enclosing v.function v.at
    pub round : Encloses v.enclosing v.function (codes_in v.enclosing v.function v.at) v.below around
    pub holds : Holds around

  -- A branch or a return is on its way out of labels; these codes come after those that are left, and `floor` operands stand below
  -- the block inside the next one.
  pub record Leaving (v : MachinePlain) (floor : ℕ) (Holds : List Trees → List Surrounding → Type 0) : Type 0 where
    pub is_inside : IsEnclosed v.enclosing
    pub codes : List Trees
    pub around : List Surrounding
    pub over : List Word
    pub rest : List Word
    pub operands : IsBelow floor v.below over rest
    pub round : Encloses v.enclosing v.function codes rest around
    pub holds : Holds codes around

  -- so many labels of the place where the machine stands are left
  pub record HaveLeft (v : MachinePlain) (codes : List Trees) : Type 0 where
    pub gone : ℕ
    pub targets : List Target
    pub is_place : Stands (bodies v.function) v.at targets
    pub are_codes : codes ≡ drop gone (after_at (bodies v.function) v.at)
    pub are_targets : targets_of v.enclosing ≡ drop gone targets

  module _ (m : WasmModule) where
    -- with so many reductions left, the outcome is that of the code at which the machine stands
    abbrev pub Shows : MachinePlain → ℕ → Outcome → Type 0
    Shows v n r = Within v (λ around. r ≡ goes_with m around (code_in v.enclosing v.function v.at) (state_of v n))

    -- .. and it isn't back at the host
    abbrev pub Runs : MachinePlain → ℕ → Outcome → Type 0
    Runs v n r = IsEnclosed v.enclosing × Shows v n r

    -- .. that of a call of this function, before that code
    abbrev pub Calls : MachinePlain → Option Callee → ℕ → Outcome → Type 0
    Calls v c n r = Within v (λ around. r ≡ in_call m around c (code_in v.enclosing v.function v.at) (state_of v n))

    -- .. that of a branch to the label that many labels out
    abbrev pub Branches : MachinePlain → ℕ → ℕ → ℕ → Outcome → Type 0
    Branches v floor k n r = Leaving v floor (λ codes around. HaveLeft v codes × (r ≡ closed m around (Branch k (state_of v n))))

    -- .. that of a return
    abbrev pub Returns : MachinePlain → ℕ → ℕ → Outcome → Type 0
    Returns v floor n r = Leaving v floor (λ codes around. r ≡ closed m around (Leave (state_of v n)))
