-- What a unit is worth, by the nodes and clauses of the largest function.
use Rattle.std.proofs.Common.{◌≡◌, ℕ, zero, suc, ◌+◌, ◌≤◌, List, [], ◌∷◌, Some, subst, arith}
use Rattle.std.specs.Prelude.{max, slice_get}
use Rattle.asm_lang.specs.Modules.{Function}
use Rattle.asm_lang_valid.specs.Rows.{function_count}
use Rattle.asm_lang_valid.specs.Typed.{scope_of}
use Rattle.asm2wasm_lang.specs.Counts.{body_clauses}
use Rattle.asm2wasm_lang.specs.Allowed.{most_nodes}
use Rattle.asm2wasm_laws_typed.proofs.SmallBodies.{functions_are_small}
use Rattle.asm2wasm_laws_simulation.specs.Functions.Laws.{NodesPay}

pub below_most : (fs : List Function) (n : ℕ) (g : Function) → slice_get fs n ≡ Some g → function_count g + body_clauses g.body ≤ most_nodes fs
below_most [] n g h = absurd (cc h)
below_most (f ∷ fs) zero g h =
    let same : f ≡ g = cc h in
    let least : function_count f + body_clauses f.body ≤ max (function_count f + body_clauses f.body) (most_nodes fs) = omega arith in
    subst (λ (g : Function). function_count g + body_clauses g.body ≤ most_nodes (f ∷ fs)) same least
below_most (f ∷ fs) (suc n) g h = let rest = below_most fs n g h in omega (arith, rest)

pub nodes_pay : NodesPay
nodes_pay s enough n g h =
    let small = functions_are_small s.heap (scope_of s.home g) in
    let below = below_most s.home.functions n g h in
    omega (arith, small, below, enough)
