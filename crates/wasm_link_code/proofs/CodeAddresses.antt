-- Code with addresses: what the first module's is, and which instructions are calls by an entry.
use Rattle.std.proofs.Common.{◌≡◌, ◌∙◌, refl, ap, List, [], ◌∷◌}
use Rattle.std.proofs.Common.{ℕ, ◌+◌, arith}
use Rattle.std.specs.Prelude.{map, ◌||◌}
use Rattle.wasm_lang.specs.Instructions.{Instruction, call, call_indirect, plain, global_get, global_set}
use Rattle.wasm_link_lang.specs.Pairs.{Bases, addressed}
use Rattle.wasm_link_lang.specs.Refusal.{is_indirect, has_indirect}
use Rattle.wasm_link_code.specs.Laws.{no_bases}

from_none : (n : ℕ) → 0 + n ≡ n
from_none n = omega arith

addressed_by_none : (i : Instruction) → addressed no_bases i ≡ i
addressed_by_none (call f) = ap call (from_none f)
addressed_by_none (call_indirect t) = ap call_indirect (from_none t)
addressed_by_none (plain (global_get x)) = ap (λ x. plain (global_get x)) (from_none x)
addressed_by_none (plain (global_set x)) = ap (λ x. plain (global_set x)) (from_none x)
addressed_by_none (plain p) = refl
addressed_by_none i = refl

pub first_is_addressed : (code : List Instruction) → map (addressed no_bases) code ≡ code
first_is_addressed [] = refl
first_is_addressed (i ∷ is) = ap (λ i. i ∷ map (addressed no_bases) is) (addressed_by_none i) ∙ ap (λ is. i ∷ is) (first_is_addressed is)

indirect_addressed : (b : Bases) (i : Instruction) → is_indirect (addressed b i) ≡ is_indirect i
indirect_addressed b (call f) = refl
indirect_addressed b (call_indirect t) = refl
indirect_addressed b (plain (global_get x)) = refl
indirect_addressed b (plain (global_set x)) = refl
indirect_addressed b (plain p) = refl
indirect_addressed b i = refl

pub indirect_stays : (b : Bases) (code : List Instruction) → has_indirect (map (addressed b) code) ≡ has_indirect code
indirect_stays b [] = refl
indirect_stays b (i ∷ is) = ap (λ x. x || has_indirect (map (addressed b) is)) (indirect_addressed b i) ∙ ap (λ x. is_indirect i || x) (indirect_stays b is)
