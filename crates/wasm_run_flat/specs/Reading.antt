-- What the rest of a flat body stands for, read from its last instruction to its first (section 2.4.5).
--
-- From a place on, a body has the rest of the innermost block, then of the block round it, and so on: one level for each block that is
-- open there, the innermost first, and one more for the body itself.
use Rattle.std.specs.Prelude.{List, [], ◌∷◌, Option, Some, None}
use Rattle.wasm_lang.specs.Instructions as flat
use Rattle.wasm_lang.specs.Instructions.{Instruction}
use Rattle.wasm_lang_exec.specs.Code.{Tree, unreachable, block, loop, if_block, br, br_if, br_table, return, call, call_indirect, plain, Trees, ε, ◌⊕◌, one}

-- the rest of a block: its code up to its end, or that of an if's first arm up to the `else`, and the second arm
pub data Level : Type 0 where
  to_end : (code : Trees) → Level
  to_else : (code second : Trees) → Level

abbrev pub code_of : Level → Trees
code_of (to_end code) = code
code_of (to_else code second) = code

-- the second arm; an if without else has an empty one
abbrev pub second_of : Level → Trees
second_of (to_end code) = ε
second_of (to_else code second) = second

abbrev pub put : Trees → Level → Level
put xs (to_end code) = to_end (xs ⊕ code)
put xs (to_else code second) = to_else (xs ⊕ code) second

-- the tree of an instruction that opens and closes nothing
abbrev pub single : Instruction → Option Tree
single flat.unreachable = Some unreachable
single (flat.block r) = None
single (flat.loop r) = None
single (flat.if_block r) = None
single flat.else_mark = None
single flat.end_mark = None
single (flat.br l) = Some (br l)
single (flat.br_if l) = Some (br_if l)
single (flat.br_table ls l) = Some (br_table ls l)
single flat.return = Some return
single (flat.call f) = Some (call f)
single (flat.call_indirect t) = Some (call_indirect t)
single (flat.plain p) = Some (plain p)

-- ---- one instruction more, in front

abbrev pub with_single : Option Tree → Option (List Level) → Option (List Level)
with_single (Some x) (Some (l ∷ ls)) = Some (put (one x) l ∷ ls)
with_single _ _ = None

-- the innermost level is what the block has inside
abbrev pub with_block : (Trees → Tree) → Option (List Level) → Option (List Level)
with_block tree (Some (to_end inside ∷ l ∷ ls)) = Some (put (one (tree inside)) l ∷ ls)
with_block tree _ = None

abbrev pub with_if : (Trees → Trees → Tree) → Option (List Level) → Option (List Level)
with_if tree (Some (first ∷ l ∷ ls)) = Some (put (one (tree (code_of first) (second_of first))) l ∷ ls)
with_if tree _ = None

abbrev pub with_else : Option (List Level) → Option (List Level)
with_else (Some (to_end second ∷ ls)) = Some (to_else ε second ∷ ls)
with_else _ = None

abbrev pub with_end : Option (List Level) → Option (List Level)
with_end (Some ls) = Some (to_end ε ∷ ls)
with_end None = None

abbrev pub in_front : Instruction → Option (List Level) → Option (List Level)
in_front (flat.block r) rest = with_block (block r) rest
in_front (flat.loop r) rest = with_block (loop r) rest
in_front (flat.if_block r) rest = with_if (if_block r) rest
in_front flat.else_mark rest = with_else rest
in_front flat.end_mark rest = with_end rest
in_front i rest = with_single (single i) rest

-- instructions that end no expression have no reading
abbrev pub read : List Instruction → Option (List Level)
read [] = Some []
read (i ∷ is) = in_front i (read is)
