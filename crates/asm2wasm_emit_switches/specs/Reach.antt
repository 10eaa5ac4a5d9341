-- How many locals instructions name.
use Rattle.std.specs.Prelude.{◌≡◌, ℕ, max, List, [], ◌∷◌}
use Rattle.wasm_lang.specs.Instructions.{Instruction, plain}
use Rattle.wasm_lang_exec.specs.Code.{Trees}
use Rattle.wasm_laws_trees.specs.Spelled.{flat, reach, plain_reach}

abbrev pub plain_reach_of : Instruction → ℕ
plain_reach_of (plain p) = plain_reach p
plain_reach_of i = 0

abbrev pub farthest : List Instruction → ℕ
farthest [] = 0
farthest (i ∷ is) = max (plain_reach_of i) (farthest is)

abbrev pub ReachIsFarthest : Type 0
ReachIsFarthest = (code : Trees) → farthest (flat code) ≡ reach code
