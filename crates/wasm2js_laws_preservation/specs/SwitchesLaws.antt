-- A branch by an index is kept.
use Rattle.std.specs.Prelude.{ℕ, List}
use Rattle.wasm_lang_exec.specs.Code.{br_table}
use Rattle.wasm2js_laws_preservation.specs.ControlControl.{Function, IsFair}
use Rattle.wasm2js_laws_preservation.specs.ControlLaws.{IsKeptFirst}

abbrev pub IndexedBranchesAreKept : Type 0
IndexedBranchesAreKept = (f : Function) → IsFair f → (ks : List ℕ) (d : ℕ) → IsKeptFirst f (br_table ks d)
