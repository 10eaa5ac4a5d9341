-- When code of WebAssembly keeps what a part of asm.js does: from each place of a function's run the reductions of the code show the
-- part's run, and no more of them stand beside the units than the code has instructions.
use Rattle.std.specs.Prelude.{◌≡◌, ℕ, ◌≤◌, Bool, true, false, List, [], ◌∷◌, ◌++◌, length, map, reverse, take}
use Rattle.sem_words.specs.declared.word.Word.{Word}
use Rattle.sem_words.specs.declared.word.Word.TheVariants.{W32}
use Rattle.sem_words.specs.declared.js_value.JsValue.{JsValue}
use Rattle.sem_words.specs.JsValues.{to_uint32_of}
use Rattle.wasm_lang.specs.Modules.{WasmModule}
use Rattle.wasm_lang_exec.specs.Code.{Trees}
use Rattle.wasm_laws_drive.specs.Drive.{Next, at}
use Rattle.wasm_laws_trees.specs.Spelled.{size}
use Rattle.asm_types.specs.declared.value_type.ValueType.{ValueType}
use Rattle.asm_types.specs.Values.{fits_of}
use Rattle.asm_lang.specs.Modules.{Function, Module}
use Rattle.asm_lang_exec.specs.Runs.{Place, Part}
use Rattle.asm2wasm_laws_run.specs.Sim.{Steps, Sim}
use Rattle.asm2wasm_laws_run.specs.State.{Fixed, words, store_of, Holds, EndsAlike, run_from}

-- ---- what a result leaves on the stack

abbrev pub word : JsValue → Word
word v = W32 (to_uint32_of v)

abbrev pub a_value : JsValue → List Word
a_value v = word v ∷ []

-- the last one on top
abbrev pub values : List JsValue → List Word
values vs = reverse (map word vs)

abbrev pub no_value : {A : Type 0} → A → List Word
no_value a = []

-- the value where it is wanted
abbrev pub result : Bool → JsValue → List Word
result true v = a_value v
result false v = []

abbrev pub Fits : ValueType → JsValue → Type 0
Fits t v = fits_of t v ≡ true

-- ---- a translated function's surroundings

-- what stays the same while an expression runs: the translated module, what no run changes, what a unit is worth, the function and how
-- many scratch locals its code has
pub record Surroundings : Type 0 where
  pub target : WasmModule
  pub fixed : Fixed
  pub worth : ℕ
  pub home : Module
  pub heap : ℕ
  pub within : Function
  pub scratch : ℕ

-- a result with this property has come: its words are over the stack, and the scratch locals below depth d are as they were
pub record Shown {A : Type 0} (s : Surroundings) (d : ℕ) (has : A → Type 0) (on : A → List Word) (scratch stack : List Word) (a : A) (p : Place) (later : Steps) : Type 0 where
  pub is : has a
  pub holds : Holds s.fixed s.home s.heap s.within p
  pub scratch_then : List Word
  pub as_many : length scratch_then ≡ length scratch
  pub kept : take d scratch_then ≡ take d scratch
  pub shown : (k : ℕ) → later k ≡ Next (at (on a ++ stack) (words p.locals ++ scratch_then) (store_of s.fixed p) k)

-- code that finds these words on the stack keeps a part, where no more units are left than the limit
pub record Keeps {A : Type 0} (s : Surroundings) (limit d : ℕ) (from : List Word) (has : A → Type 0) (on : A → List Word) (code : Trees) (part : Part A) : Type 0 where
  pub by : (p : Place) (scratch stack : List Word) → Holds s.fixed s.home s.heap s.within p → length scratch ≡ s.scratch → p.units ≤ limit
      → Sim s.worth (EndsAlike s.fixed s.home s.heap) (Shown s d has on scratch stack) (size code) p.units (run_from s.target s.fixed (from ++ stack) code scratch p) (part p)
