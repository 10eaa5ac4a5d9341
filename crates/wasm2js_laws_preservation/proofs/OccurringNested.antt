-- The instructions in the tree of an expression are those of the expression.
use Rattle.std.proofs.Common.{◌≡◌, Bool, false, List, [], ◌∷◌, Some, subst}
use Rattle.std.specs.List.{AllByRecursion}
use Rattle.wasm_lang.specs.Instructions as flat
use Rattle.wasm_lang.specs.Instructions.{Plain, Instruction}
use Rattle.wasm_lang_exec.specs.Code.{unreachable, block, loop, if_block, br, br_if, br_table, return, call, call_indirect, plain, Trees, ε, ◌▹◌, ◌⊕◌, one, Open, a_block, a_loop, an_if, an_else, nest, tree_of}
use Rattle.wasm2js_laws_preservation.specs.OccurringLaws.{AllPlain, IsNone, NoneInTrees}

module _ (test : Plain → Bool) where
  abbrev Here : Instruction → Type 0
  Here i = IsNone test i

  abbrev F : Trees → Type 0
  F = AllPlain (λ p. test p ≡ false)

  joined : (a b : Trees) → F a → F b → F (a ⊕ b)
  joined ε b h k = k
  joined (plain p ▹ a) b h k = (h.0, joined a b h.1 k)
  joined (block r body ▹ a) b h k = (h.0, joined a b h.1 k)
  joined (loop r body ▹ a) b h k = (h.0, joined a b h.1 k)
  joined (if_block r first second ▹ a) b h k = (h.0, h.1, joined a b h.2 k)
  joined (call_indirect n ▹ a) b h k = joined a b h k
  joined (unreachable ▹ a) b h k = joined a b h k
  joined (br n ▹ a) b h k = joined a b h k
  joined (br_if n ▹ a) b h k = joined a b h k
  joined (br_table ns d ▹ a) b h k = joined a b h k
  joined (return ▹ a) b h k = joined a b h k
  joined (call f ▹ a) b h k = joined a b h k

  abbrev AreOpen : List Open → Type 0
  AreOpen [] = Unit {0}
  AreOpen (a_block before r ∷ opens) = F before × AreOpen opens
  AreOpen (a_loop before r ∷ opens) = F before × AreOpen opens
  AreOpen (an_if before r ∷ opens) = F before × AreOpen opens
  AreOpen (an_else before r first ∷ opens) = F before × F first × AreOpen opens

  module _ (x : Trees) where
    nested : (read : Trees) (opens : List Open) (is : List Instruction) → AllByRecursion Here is → F read → AreOpen opens → nest read opens is ≡ Some x → F x
    nested read opens [] all r os h = absurd (cc h)
    nested read opens (flat.unreachable ∷ is) all r os h = nested (read ⊕ one unreachable) opens is all.1 (joined read (one unreachable) r tt) os h
    nested read opens (flat.br l ∷ is) all r os h = nested (read ⊕ one (br l)) opens is all.1 (joined read (one (br l)) r tt) os h
    nested read opens (flat.br_if l ∷ is) all r os h = nested (read ⊕ one (br_if l)) opens is all.1 (joined read (one (br_if l)) r tt) os h
    nested read opens (flat.br_table ks l ∷ is) all r os h = nested (read ⊕ one (br_table ks l)) opens is all.1 (joined read (one (br_table ks l)) r tt) os h
    nested read opens (flat.return ∷ is) all r os h = nested (read ⊕ one return) opens is all.1 (joined read (one return) r tt) os h
    nested read opens (flat.call f ∷ is) all r os h = nested (read ⊕ one (call f)) opens is all.1 (joined read (one (call f)) r tt) os h
    nested read opens (flat.call_indirect t ∷ is) all r os h = nested (read ⊕ one (call_indirect t)) opens is all.1 (joined read (one (call_indirect t)) r tt) os h
    nested read opens (flat.plain p ∷ is) all r os h = nested (read ⊕ one (plain p)) opens is all.1 (joined read (one (plain p)) r (all.0, tt)) os h
    nested read opens (flat.block q ∷ is) all r os h = nested ε (a_block read q ∷ opens) is all.1 tt (r, os) h
    nested read opens (flat.loop q ∷ is) all r os h = nested ε (a_loop read q ∷ opens) is all.1 tt (r, os) h
    nested read opens (flat.if_block q ∷ is) all r os h = nested ε (an_if read q ∷ opens) is all.1 tt (r, os) h
    nested read [] (flat.else_mark ∷ is) all r os h = absurd (cc h)
    nested read (a_block before q ∷ opens) (flat.else_mark ∷ is) all r os h = absurd (cc h)
    nested read (a_loop before q ∷ opens) (flat.else_mark ∷ is) all r os h = absurd (cc h)
    nested read (an_if before q ∷ opens) (flat.else_mark ∷ is) all r os h = nested ε (an_else before q read ∷ opens) is all.1 tt (os.0, r, os.1) h
    nested read (an_else before q first ∷ opens) (flat.else_mark ∷ is) all r os h = absurd (cc h)
    nested read [] (flat.end_mark ∷ []) all r os h = let e : read ≡ x = cc h in subst F e r
    nested read [] (flat.end_mark ∷ i ∷ is) all r os h = absurd (cc h)
    nested read (a_block before q ∷ opens) (flat.end_mark ∷ is) all r os h = nested (before ⊕ one (block q read)) opens is all.1 (joined before (one (block q read)) os.0 (r, tt)) os.1 h
    nested read (a_loop before q ∷ opens) (flat.end_mark ∷ is) all r os h = nested (before ⊕ one (loop q read)) opens is all.1 (joined before (one (loop q read)) os.0 (r, tt)) os.1 h
    nested read (an_if before q ∷ opens) (flat.end_mark ∷ is) all r os h = nested (before ⊕ one (if_block q read ε)) opens is all.1 (joined before (one (if_block q read ε)) os.0 (r, tt, tt)) os.1 h
    nested read (an_else before q first ∷ opens) (flat.end_mark ∷ is) all r os h =
        nested (before ⊕ one (if_block q first read)) opens is all.1 (joined before (one (if_block q first read)) os.0 (os.1, r, tt)) os.2 h

  nested_tree : (code : List Instruction) (trees : Trees) → AllByRecursion Here code → tree_of code ≡ Some trees → F trees
  nested_tree code trees all h = nested trees ε [] code all tt tt h

pub none_in_trees : NoneInTrees
none_in_trees test code trees all h = nested_tree test code trees all h
