-- Code that fits is moved as the definition says.
use Rattle.std.proofs.Common.{◌≡◌, ℕ, ◌+◌, ◌^◌, Bool, true, List, [], ◌∷◌, ◌++◌, refl, ap, ◌∙◌, arith}
use Rattle.std.specs.Prelude.{nat_lt, ◌&&◌, if◌then◌else◌}
use Rattle.std.specs.List.{flat_map}
use Rattle.std.proofs.lemmas.Bool.Decides.{nat_tests}
use Rattle.wasm_lang.specs.Instructions.{Instruction, unreachable, block, loop, if_block, else_mark, end_mark, br, br_if, br_table, return, call, call_indirect, plain}
use Rattle.wasm_link_lang.specs.Pairs.{Pair}
use Rattle.wasm_link_move.specs.Moved.{bases, moved_in, Fits, AllFit, pushed}

one : (w : Pair) (second : Bool) (k : ℕ) (i : Instruction) → Fits w second k i → pushed w second k i ≡ moved_in w second k i
one w second k unreachable h = refl
one w second k (block r) h = refl
one w second k (loop r) h = refl
one w second k (if_block r) h = refl
one w second k else_mark h = refl
one w second k end_mark h = refl
one w second k (br l) h = refl
one w second k (br_if l) h = refl
one w second k (br_table ls d) h = refl
one w second k return h = refl
one w second k (call f) h = refl
one w second k (call_indirect t) h =
    let type : nat_lt ((bases w second).types + t) (2 ^ 32) ≡ true = let l = h.0 in grind (arith, nat_tests) in
    let local : nat_lt k (2 ^ 32) ≡ true = let l = h.1 in grind (arith, nat_tests) in
    ap (λ b. if b && nat_lt k (2 ^ 32) then moved_in w second k (call_indirect t) else []) type
    ∙ ap (λ b. if true && b then moved_in w second k (call_indirect t) else []) local
one w second k (plain p) h = refl

pub all_moved : (w : Pair) (second : Bool) (k : ℕ) (code : List Instruction) → AllFit w second k code → flat_map (pushed w second k) code ≡ flat_map (moved_in w second k) code
all_moved w second k [] h = refl
all_moved w second k (i ∷ is) h = ap (λ l. l ++ flat_map (pushed w second k) is) (one w second k i h.0) ∙ ap (λ l. moved_in w second k i ++ l) (all_moved w second k is h.1)
