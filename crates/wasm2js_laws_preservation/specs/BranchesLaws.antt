-- Branches, returns and traps are kept.
use Rattle.wasm_lang_exec.specs.Code.{Tree, unreachable, br, br_if, return}
use Rattle.wasm2js_laws_terms.specs.Sound.{HasTrap}
use Rattle.wasm2js_laws_preservation.specs.ControlControl.{Function, IsFair}
use Rattle.wasm2js_laws_preservation.specs.ControlLaws.{IsKeptFirst}

abbrev pub IsBranch : Tree → Type 0
IsBranch unreachable = Unit {0}
IsBranch (br k) = Unit {0}
IsBranch (br_if k) = Unit {0}
IsBranch return = Unit {0}
IsBranch t = ⊥

abbrev pub BranchesAreKept : Type 0
BranchesAreKept = (f : Function) → IsFair f → HasTrap f.scope → (t : Tree) → IsBranch t → IsKeptFirst f t
