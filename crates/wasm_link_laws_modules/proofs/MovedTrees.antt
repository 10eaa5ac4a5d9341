-- The tree of moved code is the moved tree.
use Rattle.std.proofs.Common.{◌≡◌, ℕ, zero, suc, Bool, true, false, List, [], ◌∷◌, ◌++◌, length, map, None, refl, sym, ap, ◌∙◌}
use Rattle.std.specs.Prelude.{if◌then◌else◌, nat_lt, option_map}
use Rattle.sem_words.specs.declared.word.Bin.TheVariants.{Add}
use Rattle.sem_words.specs.declared.word.Rel.TheVariants.{LtU}
use Rattle.wasm_lang.specs.Instructions as flat
use Rattle.wasm_lang.specs.Instructions.{Instruction, Plain, local_get, local_tee, global_get, global_set, const32, bin32, rel32, select}
use Rattle.wasm_lang_exec.specs.Code.{Tree, unreachable, block, loop, if_block, br, br_if, br_table, return, call, call_indirect, plain, Trees, ε, ◌▹◌, ◌⊕◌, Open, a_block, a_loop, an_if, an_else, one, nest, tree_of}
use Rattle.wasm_link_lang.specs.Pairs.{Pair}
use Rattle.wasm_link_lang.specs.Reductions.{entries}
use Rattle.wasm_link_code.specs.Numbers.{number}
use Rattle.wasm_link_code.specs.Code.{outside, by_entry, moved, moved_code}
use Rattle.wasm_link_code.specs.Trees.{entry_tree, indirect_tree, moved_plain, moved_tree}

-- ---- one piece of code after another

join_assoc : (a b c : Trees) → (a ⊕ b) ⊕ c ≡ a ⊕ (b ⊕ c)
join_assoc ε b c = refl
join_assoc (x ▹ a) b c = ap (λ t. x ▹ t) (join_assoc a b c)

entry_joins : (other k base n t : ℕ) (code more : Trees) → entry_tree other k base n t code ⊕ more ≡ entry_tree other k base n t (code ⊕ more)
entry_joins zero k base n t code more = refl
entry_joins (suc other) k zero n t code more = refl
entry_joins (suc other) k (suc base) n t code more = refl

module _ (w : Pair) (k : ℕ) where
  abbrev to : Trees → Trees
  to code = moved_tree w k code

  indirect_joins : (t : ℕ) (code more : Trees) → indirect_tree w k t code ⊕ more ≡ indirect_tree w k t (code ⊕ more)
  indirect_joins t code more = by (nat_lt t (length w.first.types))
    where
      by : (b : Bool) → (if b then entry_tree (entries w.second) k 0 (entries w.first) t code else entry_tree (entries w.first) k (entries w.first) (entries w.second) t code) ⊕ more
          ≡ (if b then entry_tree (entries w.second) k 0 (entries w.first) t (code ⊕ more) else entry_tree (entries w.first) k (entries w.first) (entries w.second) t (code ⊕ more))
      by true = entry_joins (entries w.second) k 0 (entries w.first) t code more
      by false = entry_joins (entries w.first) k (entries w.first) (entries w.second) t code more

  pub moved_joined : (a b : Trees) → to (a ⊕ b) ≡ to a ⊕ to b
  moved_joined ε b = refl
  moved_joined (block r body ▹ a) b = ap (λ t. block r (to body) ▹ t) (moved_joined a b)
  moved_joined (loop r body ▹ a) b = ap (λ t. loop r (to body) ▹ t) (moved_joined a b)
  moved_joined (if_block r first second ▹ a) b = ap (λ t. if_block r (to first) (to second) ▹ t) (moved_joined a b)
  moved_joined (unreachable ▹ a) b = ap (λ t. unreachable ▹ t) (moved_joined a b)
  moved_joined (br l ▹ a) b = ap (λ t. br l ▹ t) (moved_joined a b)
  moved_joined (br_if l ▹ a) b = ap (λ t. br_if l ▹ t) (moved_joined a b)
  moved_joined (br_table ls l ▹ a) b = ap (λ t. br_table ls l ▹ t) (moved_joined a b)
  moved_joined (return ▹ a) b = ap (λ t. return ▹ t) (moved_joined a b)
  moved_joined (call f ▹ a) b = ap (λ t. call (number w f) ▹ t) (moved_joined a b)
  moved_joined (call_indirect x ▹ a) b = ap (indirect_tree w k x) (moved_joined a b) ∙ sym (indirect_joins x (to a) (to b))
  moved_joined (plain p ▹ a) b = ap (λ t. plain (moved_plain w p) ▹ t) (moved_joined a b)

  -- ---- instructions

  one_plain : (p : Plain) → moved w k (flat.plain p) ≡ flat.plain (moved_plain w p) ∷ []
  one_plain (global_get x) = refl
  one_plain (global_set x) = refl
  one_plain p = refl

  entry_nests : (other base n t : ℕ) (inside : Trees) (around : List Open) (rest : List Instruction)
      → nest inside around (by_entry other k base n t ++ rest) ≡ nest (inside ⊕ entry_tree other k base n t ε) around rest
  entry_nests zero base n t inside around rest = refl
  entry_nests (suc other) zero n t inside around rest =
      let tee : Tree = plain (local_tee k) in
      let far : Tree = plain (const32 outside) in
      let get : Tree = plain (local_get k) in
      let many : Tree = plain (const32 n) in
      let less : Tree = plain (rel32 LtU) in
      let pick : Tree = plain select in
      let it : Tree = call_indirect t in
      ap (λ c. nest c around rest)
      (ap (λ c. ((((c ⊕ one get) ⊕ one many) ⊕ one less) ⊕ one pick) ⊕ one it) (join_assoc inside (one tee) (one far))
      ∙ ap (λ c. (((c ⊕ one many) ⊕ one less) ⊕ one pick) ⊕ one it) (join_assoc inside (tee ▹ far ▹ ε) (one get))
      ∙ ap (λ c. ((c ⊕ one less) ⊕ one pick) ⊕ one it) (join_assoc inside (tee ▹ far ▹ get ▹ ε) (one many))
      ∙ ap (λ c. (c ⊕ one pick) ⊕ one it) (join_assoc inside (tee ▹ far ▹ get ▹ many ▹ ε) (one less))
      ∙ ap (λ c. c ⊕ one it) (join_assoc inside (tee ▹ far ▹ get ▹ many ▹ less ▹ ε) (one pick))
      ∙ join_assoc inside (tee ▹ far ▹ get ▹ many ▹ less ▹ pick ▹ ε) (one it))
  entry_nests (suc other) (suc base) n t inside around rest =
      let tee : Tree = plain (local_tee k) in
      let from : Tree = plain (const32 (suc base)) in
      let add : Tree = plain (bin32 Add) in
      let far : Tree = plain (const32 outside) in
      let get : Tree = plain (local_get k) in
      let many : Tree = plain (const32 n) in
      let less : Tree = plain (rel32 LtU) in
      let pick : Tree = plain select in
      let it : Tree = call_indirect t in
      ap (λ c. nest c around rest)
      (ap (λ c. ((((((c ⊕ one add) ⊕ one far) ⊕ one get) ⊕ one many) ⊕ one less) ⊕ one pick) ⊕ one it) (join_assoc inside (one tee) (one from))
      ∙ ap (λ c. (((((c ⊕ one far) ⊕ one get) ⊕ one many) ⊕ one less) ⊕ one pick) ⊕ one it) (join_assoc inside (tee ▹ from ▹ ε) (one add))
      ∙ ap (λ c. ((((c ⊕ one get) ⊕ one many) ⊕ one less) ⊕ one pick) ⊕ one it) (join_assoc inside (tee ▹ from ▹ add ▹ ε) (one far))
      ∙ ap (λ c. (((c ⊕ one many) ⊕ one less) ⊕ one pick) ⊕ one it) (join_assoc inside (tee ▹ from ▹ add ▹ far ▹ ε) (one get))
      ∙ ap (λ c. ((c ⊕ one less) ⊕ one pick) ⊕ one it) (join_assoc inside (tee ▹ from ▹ add ▹ far ▹ get ▹ ε) (one many))
      ∙ ap (λ c. (c ⊕ one pick) ⊕ one it) (join_assoc inside (tee ▹ from ▹ add ▹ far ▹ get ▹ many ▹ ε) (one less))
      ∙ ap (λ c. c ⊕ one it) (join_assoc inside (tee ▹ from ▹ add ▹ far ▹ get ▹ many ▹ less ▹ ε) (one pick))
      ∙ join_assoc inside (tee ▹ from ▹ add ▹ far ▹ get ▹ many ▹ less ▹ pick ▹ ε) (one it))

  indirect_nests : (t : ℕ) (inside : Trees) (around : List Open) (rest : List Instruction)
      → nest inside around (moved w k (flat.call_indirect t) ++ rest) ≡ nest (inside ⊕ indirect_tree w k t ε) around rest
  indirect_nests t inside around rest = by (nat_lt t (length w.first.types))
    where
      by : (b : Bool)
          → nest inside around ((if b then by_entry (entries w.second) k 0 (entries w.first) t else by_entry (entries w.first) k (entries w.first) (entries w.second) t) ++ rest)
          ≡ nest (inside ⊕ (if b then entry_tree (entries w.second) k 0 (entries w.first) t ε else entry_tree (entries w.first) k (entries w.first) (entries w.second) t ε)) around rest
      by true = entry_nests (entries w.second) 0 (entries w.first) t inside around rest
      by false = entry_nests (entries w.first) (entries w.first) (entries w.second) t inside around rest

  -- ---- what is open round the code

  abbrev moved_open : Open → Open
  moved_open (a_block before r) = a_block (to before) r
  moved_open (a_loop before r) = a_loop (to before) r
  moved_open (an_if before r) = an_if (to before) r
  moved_open (an_else before r first) = an_else (to before) r (to first)

  abbrev all_open : List Open → List Open
  all_open os = map moved_open os

  is_some_instruction : (i : Instruction) → (j : Instruction) × (more : List Instruction) × (moved w k i ≡ j ∷ more)
  is_some_instruction (flat.call_indirect t) = by (nat_lt t (length w.first.types))
    where
      entry : (other base n : ℕ) → (j : Instruction) × (more : List Instruction) × (by_entry other k base n t ≡ j ∷ more)
      entry zero base n = (flat.call_indirect t, [], refl)
      entry (suc other) zero n = (flat.plain (local_tee k), _, refl)
      entry (suc other) (suc base) n = (flat.plain (local_tee k), _, refl)

      by : (b : Bool) → (j : Instruction) × (more : List Instruction)
          × ((if b then by_entry (entries w.second) k 0 (entries w.first) t else by_entry (entries w.first) k (entries w.first) (entries w.second) t) ≡ j ∷ more)
      by true = entry (entries w.second) 0 (entries w.first)
      by false = entry (entries w.first) (entries w.first) (entries w.second)
  is_some_instruction (flat.plain p) = (flat.plain (moved_plain w p), [], one_plain p)
  is_some_instruction (flat.call f) = (flat.call (number w f), [], refl)
  is_some_instruction i = (i, [], refl)

  abbrev Nests : Trees → List Open → List Instruction → Type 0
  Nests inside around is = nest (to inside) (all_open around) (moved_code w k is) ≡ option_map (moved_tree w k) (nest inside around is)

  -- one tree more, and then the rest
  goes_on : (inside more : Trees) (around : List Open) (is : List Instruction) → Nests (inside ⊕ more) around is
      → nest (to inside ⊕ to more) (all_open around) (moved_code w k is) ≡ option_map (moved_tree w k) (nest (inside ⊕ more) around is)
  goes_on inside more around is e = ap (λ t. nest t (all_open around) (moved_code w k is)) (sym (moved_joined inside more)) ∙ e

  nothing_after : (inside : Trees) (i : Instruction) (is : List Instruction) → nest (to inside) [] (flat.end_mark ∷ (moved w k i ++ moved_code w k is)) ≡ None
  nothing_after inside i is = let it = is_some_instruction i in ap (λ j. nest (to inside) [] (flat.end_mark ∷ (j ++ moved_code w k is))) it.2

  nest_moved : (is : List Instruction) (inside : Trees) (around : List Open) → Nests inside around is
  nest_moved [] inside around = refl
  nest_moved (flat.unreachable ∷ is) inside around = goes_on inside (one unreachable) around is (nest_moved is (inside ⊕ one unreachable) around)
  nest_moved (flat.block r ∷ is) inside around = nest_moved is ε (a_block inside r ∷ around)
  nest_moved (flat.loop r ∷ is) inside around = nest_moved is ε (a_loop inside r ∷ around)
  nest_moved (flat.if_block r ∷ is) inside around = nest_moved is ε (an_if inside r ∷ around)
  nest_moved (flat.else_mark ∷ is) inside [] = refl
  nest_moved (flat.else_mark ∷ is) inside (a_block before r ∷ around) = refl
  nest_moved (flat.else_mark ∷ is) inside (a_loop before r ∷ around) = refl
  nest_moved (flat.else_mark ∷ is) inside (an_if before r ∷ around) = nest_moved is ε (an_else before r inside ∷ around)
  nest_moved (flat.else_mark ∷ is) inside (an_else before r first ∷ around) = refl
  nest_moved (flat.end_mark ∷ []) inside [] = refl
  nest_moved (flat.end_mark ∷ i ∷ is) inside [] = nothing_after inside i is
  nest_moved (flat.end_mark ∷ is) inside (a_block before r ∷ around) = goes_on before (one (block r inside)) around is (nest_moved is (before ⊕ one (block r inside)) around)
  nest_moved (flat.end_mark ∷ is) inside (a_loop before r ∷ around) = goes_on before (one (loop r inside)) around is (nest_moved is (before ⊕ one (loop r inside)) around)
  nest_moved (flat.end_mark ∷ is) inside (an_if before r ∷ around) = goes_on before (one (if_block r inside ε)) around is (nest_moved is (before ⊕ one (if_block r inside ε)) around)
  nest_moved (flat.end_mark ∷ is) inside (an_else before r first ∷ around) =
      goes_on before (one (if_block r first inside)) around is (nest_moved is (before ⊕ one (if_block r first inside)) around)
  nest_moved (flat.br l ∷ is) inside around = goes_on inside (one (br l)) around is (nest_moved is (inside ⊕ one (br l)) around)
  nest_moved (flat.br_if l ∷ is) inside around = goes_on inside (one (br_if l)) around is (nest_moved is (inside ⊕ one (br_if l)) around)
  nest_moved (flat.br_table ls l ∷ is) inside around = goes_on inside (one (br_table ls l)) around is (nest_moved is (inside ⊕ one (br_table ls l)) around)
  nest_moved (flat.return ∷ is) inside around = goes_on inside (one return) around is (nest_moved is (inside ⊕ one return) around)
  nest_moved (flat.call f ∷ is) inside around = goes_on inside (one (call f)) around is (nest_moved is (inside ⊕ one (call f)) around)
  nest_moved (flat.call_indirect t ∷ is) inside around =
      indirect_nests t (to inside) (all_open around) (moved_code w k is) ∙ goes_on inside (one (call_indirect t)) around is (nest_moved is (inside ⊕ one (call_indirect t)) around)
  nest_moved (flat.plain p ∷ is) inside around =
      ap (λ c. nest (to inside) (all_open around) (c ++ moved_code w k is)) (one_plain p) ∙ goes_on inside (one (plain p)) around is (nest_moved is (inside ⊕ one (plain p)) around)

  pub tree_moved : (is : List Instruction) → tree_of (moved_code w k is) ≡ option_map (moved_tree w k) (tree_of is)
  tree_moved is = nest_moved is ε []
