-- Of the bodies of a module none needs more than what is counted of all of them.
use Rattle.std.proofs.Common.{◌≡◌, ℕ, zero, suc, ◌+◌, ◌≤◌, max, List, [], ◌∷◌, Some, subst, arith, length-append}
use Rattle.std.specs.Prelude.{slice_get}
use Rattle.wasm_lang.specs.Limits.{levels}
use Rattle.wasm_lang.specs.Modules.{FunctionBody, WasmModule}
use Rattle.wasm_lang_valid.specs.Measures.{deepest, peak, body_slots, slots_from}
use Rattle.wasm_lang_valid.specs.Validity.{own_type, body_context}
use Rattle.wasm_laws_trees.specs.Spelled.{tree_levels}
use Rattle.wasm_laws_widths.specs.Depth.{depth}
use Rattle.wasm_laws_widths.specs.Laws.{BodiesAreWithin}
use Rattle.wasm_laws_widths.proofs.Deep.{depth_is_within}
use Rattle.wasm_laws_widths.proofs.Levels.{levels_are_within}

deep_enough : (bs : List FunctionBody) (i : ℕ) (b : FunctionBody) → slice_get bs i ≡ Some b → levels b.code ≤ deepest bs
deep_enough [] i b h = cc h
deep_enough (x ∷ bs) zero b h = let e : x ≡ b = cc h in subst (λ y. levels y.code ≤ max (levels x.code) (deepest bs)) e (omega arith)
deep_enough (x ∷ bs) (suc i) b h = let more = deep_enough bs i b h in omega (arith, more)

slots_enough : (m : WasmModule) (bs : List FunctionBody) (k i : ℕ) (b : FunctionBody) → slice_get bs i ≡ Some b → body_slots m (k + i) b ≤ slots_from m k bs
slots_enough m [] k i b h = cc h
slots_enough m (x ∷ bs) k zero b h =
    let e : x ≡ b = cc h in
    let n : k ≡ k + zero = omega arith in
    subst (λ y. body_slots m (k + zero) y ≤ max (body_slots m k x) (slots_from m (k + 1) bs)) e (subst (λ n. body_slots m n x ≤ max (body_slots m k x) (slots_from m (k + 1) bs)) n (at_first (body_slots m k x) (slots_from m (k + 1) bs)))
  where
    at_first : (a b : ℕ) → a ≤ max a b
    at_first a b = omega arith
slots_enough m (x ∷ bs) k (suc i) b h =
    let n : k + 1 + i ≡ k + suc i = omega arith in
    later (body_slots m k x) (slots_from m (k + 1) bs) (subst (λ n. body_slots m n b ≤ slots_from m (k + 1) bs) n (slots_enough m bs (k + 1) i b h))
  where
    later : (a b : ℕ) {c : ℕ} → c ≤ b → c ≤ max a b
    later a b {c = c} h = omega (arith, h)

pub bodies_are_within : BodiesAreWithin
bodies_are_within m i body trees is valid tree = record {
  levels =
      let a = levels_are_within body.code trees tree in
      let b = deep_enough m.bodies i body is in
      in_turn (tree_levels trees) (levels body.code) (deepest m.bodies) a b;
  slots =
      let c = body_context m i body in
      let a = depth_is_within c body.code trees valid tree in
      let zero_more : 0 + i ≡ i = omega arith in
      let b = subst (λ n. body_slots m n body ≤ slots_from m 0 m.bodies) zero_more (slots_enough m m.bodies 0 i body is) in
      let n = length-append (own_type m i).params body.locals in
      joined _ _ _ _ _ _ n a b;
}
  where
    in_turn : (a b d : ℕ) → a ≤ b → b ≤ d → a ≤ d
    in_turn a b d p q = omega (arith, p, q)

    joined : (all params locals depth peak slots : ℕ) → all ≡ params + locals → depth ≤ peak → params + locals + peak ≤ slots → all + depth ≤ slots
    joined all params locals depth peak slots e a b = omega (arith, e, a, b)
