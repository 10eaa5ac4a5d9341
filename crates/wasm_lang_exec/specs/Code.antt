-- Expressions as trees: each block with the instructions inside it (section 2.4.5).
use Rattle.std.specs.Prelude.{ℕ, List, [], ◌∷◌, Option, Some, None}
use Rattle.wasm_lang.specs.declared.types.ValType.{ValType}
use Rattle.wasm_lang.specs.Instructions as flat
use Rattle.wasm_lang.specs.Instructions.{Instruction, Plain}

infixr 60 ◌▹◌
infixr 50 ◌⊕◌
mutual
  pub data Tree : Type 0 where
    unreachable : Tree
    block loop : (result : Option ValType) (body : Trees) → Tree
    -- an if without else has an empty second arm
    if_block : (result : Option ValType) (first second : Trees) → Tree
    br br_if : (label : ℕ) → Tree
    br_table : (labels : List ℕ) (default : ℕ) → Tree
    return : Tree
    call : (function : ℕ) → Tree
    call_indirect : (type : ℕ) → Tree
    plain : (p : Plain) → Tree

  pub data Trees : Type 0 where
    ε : Trees
    ◌▹◌ : Tree → Trees → Trees

abbrev pub ◌⊕◌ : Trees → Trees → Trees
ε ⊕ ys = ys
(x ▹ xs) ⊕ ys = x ▹ (xs ⊕ ys)

-- ---- from the instructions as they are spelled

-- what is open round the instructions that are read: what stood before it, and what it is
pub data Open : Type 0 where
  a_block a_loop an_if : (before : Trees) (result : Option ValType) → Open
  an_else : (before : Trees) (result : Option ValType) (first : Trees) → Open

abbrev pub one : Tree → Trees
one x = x ▹ ε

-- the instructions in the innermost block so far, and what is open round it, the innermost first
abbrev pub nest : Trees → List Open → List Instruction → Option Trees
nest inside around [] = None
nest inside around (flat.unreachable ∷ is) = nest (inside ⊕ one unreachable) around is
nest inside around (flat.block r ∷ is) = nest ε (a_block inside r ∷ around) is
nest inside around (flat.loop r ∷ is) = nest ε (a_loop inside r ∷ around) is
nest inside around (flat.if_block r ∷ is) = nest ε (an_if inside r ∷ around) is
nest inside (an_if before r ∷ around) (flat.else_mark ∷ is) = nest ε (an_else before r inside ∷ around) is
nest inside around (flat.else_mark ∷ is) = None
nest inside [] (flat.end_mark ∷ []) = Some inside
nest inside [] (flat.end_mark ∷ i ∷ is) = None
nest inside (a_block before r ∷ around) (flat.end_mark ∷ is) = nest (before ⊕ one (block r inside)) around is
nest inside (a_loop before r ∷ around) (flat.end_mark ∷ is) = nest (before ⊕ one (loop r inside)) around is
nest inside (an_if before r ∷ around) (flat.end_mark ∷ is) = nest (before ⊕ one (if_block r inside ε)) around is
nest inside (an_else before r first ∷ around) (flat.end_mark ∷ is) = nest (before ⊕ one (if_block r first inside)) around is
nest inside around (flat.br l ∷ is) = nest (inside ⊕ one (br l)) around is
nest inside around (flat.br_if l ∷ is) = nest (inside ⊕ one (br_if l)) around is
nest inside around (flat.br_table ls l ∷ is) = nest (inside ⊕ one (br_table ls l)) around is
nest inside around (flat.return ∷ is) = nest (inside ⊕ one return) around is
nest inside around (flat.call f ∷ is) = nest (inside ⊕ one (call f)) around is
nest inside around (flat.call_indirect t ∷ is) = nest (inside ⊕ one (call_indirect t)) around is
nest inside around (flat.plain p ∷ is) = nest (inside ⊕ one (plain p)) around is

-- the tree of an expression; a list that is none has no tree
abbrev pub tree_of : List Instruction → Option Trees
tree_of code = nest ε [] code
