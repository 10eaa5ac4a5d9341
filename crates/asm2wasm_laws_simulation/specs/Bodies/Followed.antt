-- When code of WebAssembly keeps what a statement of asm.js does: how its reductions end says how the statement completes. A
-- statement begins with no value on the stack, and every scratch local is free.
use Rattle.std.specs.Prelude.{◌≡◌, ℕ, ◌≤◌, Bool, List, [], ◌++◌, length}
use Rattle.sem_words.specs.declared.word.Word.{Word}
use Rattle.wasm_lang.specs.Modules.{WasmModule}
use Rattle.wasm_lang_exec.specs.Code.{Trees}
use Rattle.wasm_lang_exec.specs.Store.{Store}
use Rattle.wasm_lang_exec.specs.Reductions.{Code}
use Rattle.wasm_laws_drive.specs.Drive.{Outcome, Next, Branch, Leave, at, drive}
use Rattle.wasm_laws_trees.specs.Spelled.{size}
use Rattle.asm_lang_exec.specs.Runs.{Place, Part}
use Rattle.asm_lang_exec.specs.Meaning.{Completion, normal, broken, continued, returned}
use Rattle.asm2wasm_translation.specs.Bodies.{Label, break_label, continue_label}
use Rattle.asm2wasm_laws_run.specs.Sim.{Steps, Sim}
use Rattle.asm2wasm_laws_run.specs.State.{words, store_of, Holds, EndsAlike}
use Rattle.asm2wasm_laws_preservation.specs.Kept.{result, Surroundings}

-- what comes of code, by its locals, its store and the reductions that are left
abbrev pub Course : Type 0
Course = List Word → Store → ℕ → Outcome

abbrev pub on_code : WasmModule → List Word → Trees → Course
on_code w values code locals st k = drive w k (Code values code) locals st

-- a result with this property has come, and what comes of the code is what it leads to; each scratch local may have changed
pub record Arrived {A : Type 0} (s : Surroundings) (has : A → Type 0) (on : A → Course) (scratch : List Word) (a : A) (p : Place) (later : Steps) : Type 0 where
  pub is : has a
  pub holds : Holds s.fixed s.home s.heap s.within p
  pub scratch_then : List Word
  pub as_many : length scratch_then ≡ length scratch
  pub shown : (k : ℕ) → later k ≡ on a (words p.locals ++ scratch_then) (store_of s.fixed p) k

-- code takes this course where a part is run, in so many reductions that no unit pays for
pub record Follows {A : Type 0} (s : Surroundings) (limit more : ℕ) (course : Course) (has : A → Type 0) (on : A → Course) (part : Part A) : Type 0 where
  pub by : (p : Place) (scratch : List Word) → Holds s.fixed s.home s.heap s.within p → length scratch ≡ s.scratch → p.units ≤ limit
      → Sim s.worth (EndsAlike s.fixed s.home s.heap) (Arrived s has on scratch) more p.units (course (words p.locals ++ scratch) (store_of s.fixed p)) (part p)

abbrev pub Any : {A : Type 0} → A → Type 0
Any a = Unit {0}

-- what the code of a statement comes to under these labels, in a function that has a result or none: values where it completes
-- normally, and else a branch or a return
abbrev pub ends_as : List Label → Bool → Completion → Course
ends_as ls wanted normal locals st k = Next (at [] locals st k)
ends_as ls wanted (broken n) locals st k = Branch (break_label ls n) (at [] locals st k)
ends_as ls wanted (continued n) locals st k = Branch (continue_label ls n) (at [] locals st k)
ends_as ls wanted (returned v) locals st k = Leave (at (result wanted v) locals st k)

-- code keeps a part of a function's body, and no more reductions stand beside the units than the code has instructions
abbrev pub KeepsEnd : Surroundings → (limit : ℕ) → List Label → Bool → Trees → Part Completion → Type 0
KeepsEnd s limit ls wanted code part = Follows s limit (size code) (on_code s.target [] code) Any (ends_as ls wanted) part
