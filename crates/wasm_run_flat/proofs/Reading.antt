-- The tree of an expression is the one that is read from its end.
use Rattle.std.proofs.Common.{◌≡◌, List, [], ◌∷◌, Option, Some, None, refl, sym, ap, ◌∙◌}
use Rattle.wasm_lang.specs.declared.types.ValType.{ValType}
use Rattle.wasm_lang.specs.Instructions as flat
use Rattle.wasm_lang.specs.Instructions.{Instruction}
use Rattle.wasm_lang_exec.specs.Code.{Tree, unreachable, block, loop, if_block, br, br_if, br_table, return, call, call_indirect, plain, Trees, ε, ◌▹◌, ◌⊕◌, one, Open, a_block, a_loop, an_if, an_else, nest}
use Rattle.wasm_run_flat.specs.Reading.{Level, to_end, to_else, code_of, second_of, put, single, with_single, with_block, with_if, with_else, with_end, in_front, read}
use Rattle.wasm_run_flat.specs.Places.{put_first}

join_assoc : (a b c : Trees) → (a ⊕ b) ⊕ c ≡ a ⊕ (b ⊕ c)
join_assoc ε b c = refl
join_assoc (x ▹ a) b c = ap (λ t. x ▹ t) (join_assoc a b c)

join_none : (a : Trees) → a ⊕ ε ≡ a
join_none ε = refl
join_none (x ▹ a) = ap (λ t. x ▹ t) (join_none a)

-- ---- an instruction in front

pub in_front_single : (i : Instruction) (x : Tree) (rest : Option (List Level)) → single i ≡ Some x → in_front i rest ≡ with_single (Some x) rest
in_front_single flat.unreachable x rest is = ap (λ y. with_single y rest) is
in_front_single (flat.block r) x rest is = cc
in_front_single (flat.loop r) x rest is = cc
in_front_single (flat.if_block r) x rest is = cc
in_front_single flat.else_mark x rest is = cc
in_front_single flat.end_mark x rest is = cc
in_front_single (flat.br l) x rest is = ap (λ y. with_single y rest) is
in_front_single (flat.br_if l) x rest is = ap (λ y. with_single y rest) is
in_front_single (flat.br_table ls l) x rest is = ap (λ y. with_single y rest) is
in_front_single flat.return x rest is = ap (λ y. with_single y rest) is
in_front_single (flat.call f) x rest is = ap (λ y. with_single y rest) is
in_front_single (flat.call_indirect t) x rest is = ap (λ y. with_single y rest) is
in_front_single (flat.plain p) x rest is = ap (λ y. with_single y rest) is

-- ---- what was read so far, what is open round it, and the levels that are left give a tree

abbrev pub joined : Trees → List Open → List Level → Option Trees
joined inside [] (to_end code ∷ []) = Some (inside ⊕ code)
joined inside (a_block before r ∷ around) (to_end code ∷ ls) = joined (before ⊕ one (block r (inside ⊕ code))) around ls
joined inside (a_loop before r ∷ around) (to_end code ∷ ls) = joined (before ⊕ one (loop r (inside ⊕ code))) around ls
joined inside (an_if before r ∷ around) (l ∷ ls) = joined (before ⊕ one (if_block r (inside ⊕ code_of l) (second_of l))) around ls
joined inside (an_else before r first ∷ around) (to_end code ∷ ls) = joined (before ⊕ one (if_block r first (inside ⊕ code))) around ls
joined inside around ls = None

joined_put : (xs inside : Trees) (around : List Open) (ls : List Level) → joined (inside ⊕ xs) around ls ≡ joined inside around (put_first xs ls)
joined_put xs inside [] [] = refl
joined_put xs inside [] (to_end code ∷ []) = ap (λ t. Some t) (join_assoc inside xs code)
joined_put xs inside [] (to_end code ∷ l ∷ ls) = refl
joined_put xs inside [] (to_else code second ∷ ls) = refl
joined_put xs inside (a_block before r ∷ around) [] = refl
joined_put xs inside (a_block before r ∷ around) (to_end code ∷ ls) = ap (λ t. joined (before ⊕ one (block r t)) around ls) (join_assoc inside xs code)
joined_put xs inside (a_block before r ∷ around) (to_else code second ∷ ls) = refl
joined_put xs inside (a_loop before r ∷ around) [] = refl
joined_put xs inside (a_loop before r ∷ around) (to_end code ∷ ls) = ap (λ t. joined (before ⊕ one (loop r t)) around ls) (join_assoc inside xs code)
joined_put xs inside (a_loop before r ∷ around) (to_else code second ∷ ls) = refl
joined_put xs inside (an_if before r ∷ around) [] = refl
joined_put xs inside (an_if before r ∷ around) (to_end code ∷ ls) = ap (λ t. joined (before ⊕ one (if_block r t ε)) around ls) (join_assoc inside xs code)
joined_put xs inside (an_if before r ∷ around) (to_else code second ∷ ls) = ap (λ t. joined (before ⊕ one (if_block r t second)) around ls) (join_assoc inside xs code)
joined_put xs inside (an_else before r first ∷ around) [] = refl
joined_put xs inside (an_else before r first ∷ around) (to_end code ∷ ls) = ap (λ t. joined (before ⊕ one (if_block r first t)) around ls) (join_assoc inside xs code)
joined_put xs inside (an_else before r first ∷ around) (to_else code second ∷ ls) = refl

-- ---- the levels that are read from instructions with a tree

record Reads (is : List Instruction) (inside : Trees) (around : List Open) (tree : Trees) : Type 0 where
  levels : List Level
  is_read : read is ≡ Some levels
  is_tree : joined inside around levels ≡ Some tree

-- with a tree put before what is read
record IsPut (x : Tree) (levels : List Level) (inside : Trees) (around : List Open) (tree : Trees) : Type 0 where
  level : Level
  outer : List Level
  are_levels : levels ≡ level ∷ outer
  is_tree : joined inside around (put (one x) level ∷ outer) ≡ Some tree

some_level : (around : List Open) (inside tree : Trees) → joined inside around [] ≡ Some tree → ⊥
some_level [] inside tree is = cc
some_level (a_block before r ∷ around) inside tree is = cc
some_level (a_loop before r ∷ around) inside tree is = cc
some_level (an_if before r ∷ around) inside tree is = cc
some_level (an_else before r first ∷ around) inside tree is = cc

is_put : (x : Tree) (levels : List Level) (inside : Trees) (around : List Open) (tree : Trees) → joined (inside ⊕ one x) around levels ≡ Some tree → IsPut x levels inside around tree
is_put x [] inside around tree is = absurd (some_level around (inside ⊕ one x) tree is)
is_put x (l ∷ ls) inside around tree is = record { level = l; outer = ls; are_levels = refl; is_tree = sym (joined_put (one x) inside around (l ∷ ls)) ∙ is }

module _ {is : List Instruction} {inside : Trees} {around : List Open} {tree : Trees} where
  reads_single : (i : Instruction) (x : Tree) → ((rest : Option (List Level)) → in_front i rest ≡ with_single (Some x) rest)
      → Reads is (inside ⊕ one x) around tree → Reads (i ∷ is) inside around tree
  reads_single i x as_single r =
      let p = is_put x r.levels inside around tree r.is_tree in
      record { levels = put (one x) p.level ∷ p.outer; is_read = as_single (read is) ∙ ap (with_single (Some x)) (r.is_read ∙ ap (λ ls. Some ls) p.are_levels); is_tree = p.is_tree }

  -- the innermost level was inside the block, and its tree is put before what follows
  put_block : (i : Instruction) (block_of : Trees → Tree) → ((rest : Option (List Level)) → in_front i rest ≡ with_block block_of rest)
      → (code : Trees) (ls : List Level) → read is ≡ Some (to_end code ∷ ls) → joined (inside ⊕ one (block_of code)) around ls ≡ Some tree → Reads (i ∷ is) inside around tree
  put_block i block_of as_block code ls was_read was_tree =
      let p = is_put (block_of code) ls inside around tree was_tree in
      record {
        levels = put (one (block_of code)) p.level ∷ p.outer;
        is_read = as_block (read is) ∙ ap (with_block block_of) (was_read ∙ ap (λ ls. Some (to_end code ∷ ls)) p.are_levels);
        is_tree = p.is_tree;
      }

  put_if : (r : Option ValType) (first : Level) (ls : List Level) → read is ≡ Some (first ∷ ls) → joined (inside ⊕ one (if_block r (code_of first) (second_of first))) around ls ≡ Some tree
      → Reads (flat.if_block r ∷ is) inside around tree
  put_if r first ls was_read was_tree =
      let x = if_block r (code_of first) (second_of first) in
      let p = is_put x ls inside around tree was_tree in
      record {
        levels = put (one x) p.level ∷ p.outer;
        is_read = ap (with_if (if_block r)) (was_read ∙ ap (λ ls. Some (first ∷ ls)) p.are_levels);
        is_tree = p.is_tree;
      }

  reads_block : (r : Option ValType) (ls : List Level) → read is ≡ Some ls → joined ε (a_block inside r ∷ around) ls ≡ Some tree → Reads (flat.block r ∷ is) inside around tree
  reads_block r [] was_read was_tree = cc
  reads_block r (to_end code ∷ ls) was_read was_tree = put_block (flat.block r) (block r) (λ rest. refl) code ls was_read was_tree
  reads_block r (to_else code second ∷ ls) was_read was_tree = cc

  reads_loop : (r : Option ValType) (ls : List Level) → read is ≡ Some ls → joined ε (a_loop inside r ∷ around) ls ≡ Some tree → Reads (flat.loop r ∷ is) inside around tree
  reads_loop r [] was_read was_tree = cc
  reads_loop r (to_end code ∷ ls) was_read was_tree = put_block (flat.loop r) (loop r) (λ rest. refl) code ls was_read was_tree
  reads_loop r (to_else code second ∷ ls) was_read was_tree = cc

  reads_if : (r : Option ValType) (ls : List Level) → read is ≡ Some ls → joined ε (an_if inside r ∷ around) ls ≡ Some tree → Reads (flat.if_block r ∷ is) inside around tree
  reads_if r [] was_read was_tree = cc
  reads_if r (first ∷ ls) was_read was_tree = put_if r first ls was_read was_tree

  reads_else : (before : Trees) (r : Option ValType) (ls : List Level) → read is ≡ Some ls → joined ε (an_else before r inside ∷ around) ls ≡ Some tree
      → Reads (flat.else_mark ∷ is) inside (an_if before r ∷ around) tree
  reads_else before r [] was_read was_tree = cc
  reads_else before r (to_end second ∷ ls) was_read was_tree = record {
    levels = to_else ε second ∷ ls;
    is_read = ap with_else was_read;
    is_tree = ap (λ t. joined (before ⊕ one (if_block r t second)) around ls) (join_none inside) ∙ was_tree;
  }
  reads_else before r (to_else code second ∷ ls) was_read was_tree = cc

  ends_block : (before : Trees) (r : Option ValType) (ls : List Level) → read is ≡ Some ls → joined (before ⊕ one (block r inside)) around ls ≡ Some tree
      → Reads (flat.end_mark ∷ is) inside (a_block before r ∷ around) tree
  ends_block before r ls was_read was_tree =
      record { levels = to_end ε ∷ ls; is_read = ap with_end was_read; is_tree = ap (λ t. joined (before ⊕ one (block r t)) around ls) (join_none inside) ∙ was_tree }

  ends_loop : (before : Trees) (r : Option ValType) (ls : List Level) → read is ≡ Some ls → joined (before ⊕ one (loop r inside)) around ls ≡ Some tree
      → Reads (flat.end_mark ∷ is) inside (a_loop before r ∷ around) tree
  ends_loop before r ls was_read was_tree =
      record { levels = to_end ε ∷ ls; is_read = ap with_end was_read; is_tree = ap (λ t. joined (before ⊕ one (loop r t)) around ls) (join_none inside) ∙ was_tree }

  ends_if : (before : Trees) (r : Option ValType) (ls : List Level) → read is ≡ Some ls → joined (before ⊕ one (if_block r inside ε)) around ls ≡ Some tree
      → Reads (flat.end_mark ∷ is) inside (an_if before r ∷ around) tree
  ends_if before r ls was_read was_tree =
      record { levels = to_end ε ∷ ls; is_read = ap with_end was_read; is_tree = ap (λ t. joined (before ⊕ one (if_block r t ε)) around ls) (join_none inside) ∙ was_tree }

  ends_else : (before : Trees) (r : Option ValType) (first : Trees) (ls : List Level) → read is ≡ Some ls → joined (before ⊕ one (if_block r first inside)) around ls ≡ Some tree
      → Reads (flat.end_mark ∷ is) inside (an_else before r first ∷ around) tree
  ends_else before r first ls was_read was_tree =
      record { levels = to_end ε ∷ ls; is_read = ap with_end was_read; is_tree = ap (λ t. joined (before ⊕ one (if_block r first t)) around ls) (join_none inside) ∙ was_tree }

reads : (is : List Instruction) (inside : Trees) (around : List Open) (tree : Trees) → nest inside around is ≡ Some tree → Reads is inside around tree
reads [] inside around tree h = cc
reads (flat.unreachable ∷ is) inside around tree h = reads_single flat.unreachable unreachable (λ rest. refl) (reads is (inside ⊕ one unreachable) around tree h)
reads (flat.block r ∷ is) inside around tree h = let b = reads is ε (a_block inside r ∷ around) tree h in reads_block r b.levels b.is_read b.is_tree
reads (flat.loop r ∷ is) inside around tree h = let b = reads is ε (a_loop inside r ∷ around) tree h in reads_loop r b.levels b.is_read b.is_tree
reads (flat.if_block r ∷ is) inside around tree h = let b = reads is ε (an_if inside r ∷ around) tree h in reads_if r b.levels b.is_read b.is_tree
reads (flat.else_mark ∷ is) inside [] tree h = cc
reads (flat.else_mark ∷ is) inside (a_block before r ∷ around) tree h = cc
reads (flat.else_mark ∷ is) inside (a_loop before r ∷ around) tree h = cc
reads (flat.else_mark ∷ is) inside (an_if before r ∷ around) tree h = let b = reads is ε (an_else before r inside ∷ around) tree h in reads_else before r b.levels b.is_read b.is_tree
reads (flat.else_mark ∷ is) inside (an_else before r first ∷ around) tree h = cc
reads (flat.end_mark ∷ []) inside [] tree h = record { levels = to_end ε ∷ []; is_read = refl; is_tree = ap (λ t. Some t) (join_none inside) ∙ h }
reads (flat.end_mark ∷ i ∷ is) inside [] tree h = cc
reads (flat.end_mark ∷ is) inside (a_block before r ∷ around) tree h = let b = reads is (before ⊕ one (block r inside)) around tree h in ends_block before r b.levels b.is_read b.is_tree
reads (flat.end_mark ∷ is) inside (a_loop before r ∷ around) tree h = let b = reads is (before ⊕ one (loop r inside)) around tree h in ends_loop before r b.levels b.is_read b.is_tree
reads (flat.end_mark ∷ is) inside (an_if before r ∷ around) tree h = let b = reads is (before ⊕ one (if_block r inside ε)) around tree h in ends_if before r b.levels b.is_read b.is_tree
reads (flat.end_mark ∷ is) inside (an_else before r first ∷ around) tree h = let b = reads is (before ⊕ one (if_block r first inside)) around tree h in ends_else before r first b.levels b.is_read b.is_tree
reads (flat.br l ∷ is) inside around tree h = reads_single (flat.br l) (br l) (λ rest. refl) (reads is (inside ⊕ one (br l)) around tree h)
reads (flat.br_if l ∷ is) inside around tree h = reads_single (flat.br_if l) (br_if l) (λ rest. refl) (reads is (inside ⊕ one (br_if l)) around tree h)
reads (flat.br_table ls l ∷ is) inside around tree h = reads_single (flat.br_table ls l) (br_table ls l) (λ rest. refl) (reads is (inside ⊕ one (br_table ls l)) around tree h)
reads (flat.return ∷ is) inside around tree h = reads_single flat.return return (λ rest. refl) (reads is (inside ⊕ one return) around tree h)
reads (flat.call f ∷ is) inside around tree h = reads_single (flat.call f) (call f) (λ rest. refl) (reads is (inside ⊕ one (call f)) around tree h)
reads (flat.call_indirect t ∷ is) inside around tree h = reads_single (flat.call_indirect t) (call_indirect t) (λ rest. refl) (reads is (inside ⊕ one (call_indirect t)) around tree h)
reads (flat.plain p ∷ is) inside around tree h = reads_single (flat.plain p) (plain p) (λ rest. refl) (reads is (inside ⊕ one (plain p)) around tree h)

-- with nothing open round it
alone : (is : List Instruction) (code : Trees) (ls : List Level) → read is ≡ Some ls → joined ε [] ls ≡ Some code → read is ≡ Some (to_end code ∷ [])
alone is code [] was_read was_tree = cc
alone is code (to_end c ∷ []) was_read was_tree = let e : c ≡ code = cc in was_read ∙ ap (λ c. Some (to_end c ∷ [])) e
alone is code (to_end c ∷ l ∷ ls) was_read was_tree = cc
alone is code (to_else c second ∷ ls) was_read was_tree = cc

pub reads_expression : (is : List Instruction) (code : Trees) → nest ε [] is ≡ Some code → read is ≡ Some (to_end code ∷ [])
reads_expression is code h = let r = reads is ε [] code h in alone is code r.levels r.is_read r.is_tree
