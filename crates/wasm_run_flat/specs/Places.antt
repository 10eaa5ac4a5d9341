-- What stands at the places of a flat body, and what a machine that runs it has round the code there.
--
-- For a machine at the place `at`, whose labels have these targets, the innermost first, `Stands body at targets` is the invariant. Its
-- innermost code is `code_at body at`. What surrounds it comes of the labels and of the codes in `after_at body at` side by side, the
-- innermost first: for a label of this target and arity and the code beside it
--     in_label values arity (continuation body target) code
-- where `values` are the operands of the block *outside* it: from that block's own height up to the label's height.
use Rattle.std.specs.Prelude.{◌≡◌, ℕ, List, [], ◌∷◌, drop, map, Option, Some, None}
use Rattle.wasm_lang.specs.Instructions.{Instruction}
use Rattle.wasm_lang_exec.specs.Code.{Trees, ε, ◌▹◌, one}
use Rattle.wasm_run_flat.specs.Reading.{Level, to_end, code_of, put, read}
use Rattle.wasm_run_flat.specs.declared.target.Target.{Target}
use Rattle.wasm_run_flat.specs.declared.target.Target.TheVariants.{Past, Again}

-- ---- what is read from a place on

abbrev pub levels_of : Option (List Level) → List Level
levels_of None = []
levels_of (Some ls) = ls

abbrev pub levels_at : List Instruction → ℕ → List Level
levels_at body at = levels_of (read (drop at body))

abbrev pub first_code : List Level → Trees
first_code [] = ε
first_code (l ∷ ls) = code_of l

abbrev pub outer_codes : List Level → List Trees
outer_codes [] = []
outer_codes (l ∷ ls) = map code_of ls

-- the code of the innermost block from the place on
unfoldable pub code_at : List Instruction → ℕ → Trees
code_at body at = first_code (levels_at body at)

-- the codes after the blocks that are open there, the innermost first
unfoldable pub after_at : List Instruction → ℕ → List Trees
after_at body at = outer_codes (levels_at body at)

-- ---- where a branch goes on

abbrev pub place_of : Target → ℕ
place_of (Past at) = at
place_of (Again at) = at

abbrev pub first_of : Trees → Trees
first_of ε = ε
first_of (x ▹ xs) = one x

-- what it does there before the code after the block: nothing, or the loop again
unfoldable pub continuation : List Instruction → Target → Trees
continuation body (Past at) = ε
continuation body (Again at) = first_of (code_at body at)

-- ---- the targets of the blocks that are open at a place

abbrev pub put_first : Trees → List Level → List Level
put_first xs [] = []
put_first xs (l ∷ ls) = put xs l ∷ ls

-- A branch to a label goes on with its continuation and what is left outside its block. The last level is that of the body.
abbrev pub Fit : List Instruction → List Target → List Level → Type 0
Fit body [] (to_end code ∷ []) = Unit {0}
Fit body (t ∷ ts) (l ∷ ls) = (read (drop (place_of t) body) ≡ Some (put_first (continuation body t) ls)) × Fit body ts ls
Fit body ts ls = ⊥

pub record Stands (body : List Instruction) (at : ℕ) (targets : List Target) : Type 0 where
  pub is_read : read (drop at body) ≡ Some (levels_at body at)
  pub fit : Fit body targets (levels_at body at)
