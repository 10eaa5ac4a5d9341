-- How deep blocks lie in the tree of an expression: no deeper than its levels.
use Rattle.std.proofs.Common.{◌≡◌, ℕ, suc, ◌+◌, ◌-◌, ◌≤◌, max, List, [], ◌∷◌, length, Some, refl, sym, subst, arith}
use Rattle.wasm_lang.specs.Instructions as flat
use Rattle.wasm_lang.specs.Instructions.{Instruction}
use Rattle.wasm_lang.specs.Limits.{levels_from}
use Rattle.wasm_lang_exec.specs.Code.{Tree, unreachable, block, loop, if_block, br, br_if, br_table, return, call, call_indirect, plain, Trees, ε, ◌⊕◌, one, Open, a_block, a_loop, an_if, an_else, nest}
use Rattle.wasm_laws_trees.specs.Spelled.{tree_levels}
use Rattle.wasm_laws_trees.proofs.Joined.{levels_join}
use Rattle.wasm_laws_widths.specs.Laws.{LevelsAreWithin}

-- ---- the levels of what was read, where the innermost block has so many

abbrev top : ℕ → List Open → ℕ
top n [] = n
top n (a_block before r ∷ opens) = max (length opens + 1 + n) (top (tree_levels before) opens)
top n (a_loop before r ∷ opens) = max (length opens + 1 + n) (top (tree_levels before) opens)
top n (an_if before r ∷ opens) = max (length opens + 1 + n) (top (tree_levels before) opens)
top n (an_else before r first ∷ opens) = max (length opens + 1 + max n (tree_levels first)) (top (tree_levels before) opens)

-- more in the innermost block
one_more : (k l a n t : ℕ) → l ≡ suc k → max (k + 1 + max a n) t ≤ max (l + n) (max (k + 1 + a) t)
one_more k l a n t e = omega (arith, e)

one_more_arm : (k l a n f t : ℕ) → l ≡ suc k → max (k + 1 + max (max a n) f) t ≤ max (l + n) (max (k + 1 + max a f) t)
one_more_arm k l a n f t e = omega (arith, e)

more_inside : (a n : ℕ) (opens : List Open) → top (max a n) opens ≤ max (length opens + n) (top a opens)
more_inside a n [] = omega arith
more_inside a n (a_block before r ∷ opens) = one_more (length opens) (suc (length opens)) a n (top (tree_levels before) opens) refl
more_inside a n (a_loop before r ∷ opens) = one_more (length opens) (suc (length opens)) a n (top (tree_levels before) opens) refl
more_inside a n (an_if before r ∷ opens) = one_more (length opens) (suc (length opens)) a n (top (tree_levels before) opens) refl
more_inside a n (an_else before r first ∷ opens) = one_more_arm (length opens) (suc (length opens)) a n (tree_levels first) (top (tree_levels before) opens) refl

-- a tree is put behind the others in the innermost block
put_behind : (read : Trees) (x : Tree) (opens : List Open) → top (tree_levels (read ⊕ one x)) opens ≤ max (length opens + tree_levels (one x)) (top (tree_levels read) opens)
put_behind read x opens = subst (λ n. top n opens ≤ max (length opens + tree_levels (one x)) (top (tree_levels read) opens)) (sym (levels_join read (one x))) (more_inside (tree_levels read) (tree_levels (one x)) opens)

-- ---- so many blocks are open there at least

no_less : (n : ℕ) (is : List Instruction) → n ≤ levels_from n is
no_less n [] = omega arith
no_less n (flat.unreachable ∷ is) = no_less n is
no_less n (flat.block r ∷ is) = let h = no_less (n + 1) is in omega (arith, h)
no_less n (flat.loop r ∷ is) = let h = no_less (n + 1) is in omega (arith, h)
no_less n (flat.if_block r ∷ is) = let h = no_less (n + 1) is in omega (arith, h)
no_less n (flat.else_mark ∷ is) = no_less n is
no_less n (flat.end_mark ∷ is) = omega arith
no_less n (flat.br l ∷ is) = no_less n is
no_less n (flat.br_if l ∷ is) = no_less n is
no_less n (flat.br_table ks l ∷ is) = no_less n is
no_less n (flat.return ∷ is) = no_less n is
no_less n (flat.call f ∷ is) = no_less n is
no_less n (flat.call_indirect t ∷ is) = no_less n is
no_less n (flat.plain p ∷ is) = no_less n is

-- ---- steps

same_level : (n t k l : ℕ) → t ≤ max (n + 0) k → n ≤ l → (x : ℕ) → x ≤ max t l → x ≤ max k l
same_level n t k l p q x h = omega (arith, p, q, h)

into : (n k l x : ℕ) → x ≤ max (max (n + 1 + 0) k) l → n + 1 ≤ l → x ≤ max k l
into n k l x h p = omega (arith, h, p)

out_of : (n t k l i x : ℕ) → t ≤ max (n + max (1 + i) 0) k → x ≤ max t l → x ≤ max (max (n + 1 + i) k) (max (n + 1) l)
out_of n t k l i x p h = omega (arith, p, h)

out_of_if : (n t k l i x : ℕ) → t ≤ max (n + max (1 + max i 0) 0) k → x ≤ max t l → x ≤ max (max (n + 1 + i) k) (max (n + 1) l)
out_of_if n t k l i x p h = omega (arith, p, h)

out_of_arms : (n t k l i j x : ℕ) → t ≤ max (n + max (1 + max j i) 0) k → x ≤ max t l → x ≤ max (max (n + 1 + max i j) k) (max (n + 1) l)
out_of_arms n t k l i j x p h = omega (arith, p, h)

-- the number of open blocks, in the two forms
deeper : (o : Open) (opens : List Open) (is : List Instruction) (k : ℕ) {x : ℕ} → x ≤ max k (levels_from (length (o ∷ opens)) is) → x ≤ max k (levels_from (length opens + 1) is)
deeper o opens is k {x = x} h = let e : suc (length opens) ≡ length opens + 1 = omega arith in subst (λ n. x ≤ max k (levels_from n is)) e h

shallower : (opens : List Open) (is : List Instruction) (k : ℕ) {x : ℕ} → x ≤ max k (max (length opens + 1) (levels_from (length opens) is)) → x ≤ max k (max (suc (length opens)) (levels_from (suc (length opens) - 1) is))
shallower opens is k {x = x} h =
    let e : length opens + 1 ≡ suc (length opens) = omega arith in
    let d : length opens ≡ suc (length opens) - 1 = omega arith in
    subst (λ n. x ≤ max k (max (suc (length opens)) (levels_from n is))) d (subst (λ n. x ≤ max k (max n (levels_from (length opens) is))) e h)

module _ (x : Trees) where
  -- nest of these opened blocks comes to the tree
  bound : (read : Trees) (opens : List Open) (is : List Instruction) → nest read opens is ≡ Some x → tree_levels x ≤ max (top (tree_levels read) opens) (levels_from (length opens) is)
  bound read opens [] h = cc h
  bound read opens (flat.unreachable ∷ is) h = same_level (length opens) _ _ _ (put_behind read unreachable opens) (no_less (length opens) is) _ (bound (read ⊕ one unreachable) opens is h)
  bound read opens ((flat.br l) ∷ is) h = same_level (length opens) _ _ _ (put_behind read (br l) opens) (no_less (length opens) is) _ (bound (read ⊕ one (br l)) opens is h)
  bound read opens ((flat.br_if l) ∷ is) h = same_level (length opens) _ _ _ (put_behind read (br_if l) opens) (no_less (length opens) is) _ (bound (read ⊕ one (br_if l)) opens is h)
  bound read opens ((flat.br_table ks l) ∷ is) h = same_level (length opens) _ _ _ (put_behind read (br_table ks l) opens) (no_less (length opens) is) _ (bound (read ⊕ one (br_table ks l)) opens is h)
  bound read opens (flat.return ∷ is) h = same_level (length opens) _ _ _ (put_behind read return opens) (no_less (length opens) is) _ (bound (read ⊕ one return) opens is h)
  bound read opens ((flat.call f) ∷ is) h = same_level (length opens) _ _ _ (put_behind read (call f) opens) (no_less (length opens) is) _ (bound (read ⊕ one (call f)) opens is h)
  bound read opens ((flat.call_indirect t) ∷ is) h = same_level (length opens) _ _ _ (put_behind read (call_indirect t) opens) (no_less (length opens) is) _ (bound (read ⊕ one (call_indirect t)) opens is h)
  bound read opens ((flat.plain p) ∷ is) h = same_level (length opens) _ _ _ (put_behind read (plain p) opens) (no_less (length opens) is) _ (bound (read ⊕ one (plain p)) opens is h)
  bound read opens (flat.block r ∷ is) h =
      into (length opens) (top (tree_levels read) opens) (levels_from (length opens + 1) is) (tree_levels x)
      (deeper (a_block read r) opens is (max (length opens + 1 + 0) (top (tree_levels read) opens)) (bound ε (a_block read r ∷ opens) is h)) (no_less (length opens + 1) is)
  bound read opens (flat.loop r ∷ is) h =
      into (length opens) (top (tree_levels read) opens) (levels_from (length opens + 1) is) (tree_levels x)
      (deeper (a_loop read r) opens is (max (length opens + 1 + 0) (top (tree_levels read) opens)) (bound ε (a_loop read r ∷ opens) is h)) (no_less (length opens + 1) is)
  bound read opens (flat.if_block r ∷ is) h =
      into (length opens) (top (tree_levels read) opens) (levels_from (length opens + 1) is) (tree_levels x)
      (deeper (an_if read r) opens is (max (length opens + 1 + 0) (top (tree_levels read) opens)) (bound ε (an_if read r ∷ opens) is h)) (no_less (length opens + 1) is)
  bound read [] (flat.else_mark ∷ is) h = cc h
  bound read (a_block before r ∷ opens) (flat.else_mark ∷ is) h = cc h
  bound read (a_loop before r ∷ opens) (flat.else_mark ∷ is) h = cc h
  bound read (an_if before r ∷ opens) (flat.else_mark ∷ is) h =
      let e : max 0 (tree_levels read) ≡ tree_levels read = omega arith in
      subst (λ n. tree_levels x ≤ max (max (length opens + 1 + n) (top (tree_levels before) opens)) (levels_from (suc (length opens)) is)) e (bound ε (an_else before r read ∷ opens) is h)
  bound read (an_else before r first ∷ opens) (flat.else_mark ∷ is) h = cc h
  bound read [] (flat.end_mark ∷ []) h = let e : read ≡ x = cc h in subst (λ y. tree_levels y ≤ max (tree_levels read) 0) e (omega arith)
  bound read [] (flat.end_mark ∷ i ∷ is) h = cc h
  bound read (a_block before r ∷ opens) (flat.end_mark ∷ is) h =
      shallower opens is (max (length opens + 1 + tree_levels read) (top (tree_levels before) opens)) (out_of (length opens) _ _ _ (tree_levels read) _ (put_behind before (block r read) opens) (bound (before ⊕ one (block r read)) opens is h))
  bound read (a_loop before r ∷ opens) (flat.end_mark ∷ is) h =
      shallower opens is (max (length opens + 1 + tree_levels read) (top (tree_levels before) opens)) (out_of (length opens) _ _ _ (tree_levels read) _ (put_behind before (loop r read) opens) (bound (before ⊕ one (loop r read)) opens is h))
  bound read (an_if before r ∷ opens) (flat.end_mark ∷ is) h =
      shallower opens is (max (length opens + 1 + tree_levels read) (top (tree_levels before) opens)) (out_of_if (length opens) _ _ _ (tree_levels read) _ (put_behind before (if_block r read ε) opens) (bound (before ⊕ one (if_block r read ε)) opens is h))
  bound read (an_else before r first ∷ opens) (flat.end_mark ∷ is) h =
      shallower opens is (max (length opens + 1 + max (tree_levels read) (tree_levels first)) (top (tree_levels before) opens)) (out_of_arms (length opens) _ _ _ (tree_levels read) (tree_levels first) _ (put_behind before (if_block r first read) opens) (bound (before ⊕ one (if_block r first read)) opens is h))

pub levels_are_within : LevelsAreWithin
levels_are_within code trees h = let b = bound trees ε [] code h in omega (arith, b)
