-- The tree of a typed sequence of instructions, and its types.
use Rattle.std.proofs.Common.{◌≡◌, List, [], ◌∷◌, ◌++◌, Option, None, Ok, refl, sym, ap, ◌∙◌}
use Rattle.std.proofs.lemmas.List.{append_assoc}
use Rattle.wasm_lang.specs.declared.types.ValType.{ValType}
use Rattle.wasm_lang.specs.declared.types.ValType.TheVariants.{I32}
use Rattle.wasm_lang.specs.Instructions as flat
use Rattle.wasm_lang.specs.Instructions.{Instruction, else_mark, end_mark}
use Rattle.wasm_lang_valid.specs.Typing.{Context, Shape, Acts, shape, late, listed, inside, Typed, typed_empty, typed_plain, typed_block, typed_loop, typed_arms, typed_if}
use Rattle.wasm_lang_exec.specs.Code.{Tree, unreachable, block, loop, if_block, br, br_if, br_table, return, call, call_indirect, plain, Trees, ε, ◌▹◌, ◌⊕◌, one, Open, a_block, a_loop, an_if, an_else, nest}
use Rattle.wasm_laws_sound.specs.Trees.{IsTyped}
use Rattle.wasm_laws_sound.specs.Laws.{TreeIsTyped}

join_assoc : (a b d : Trees) → (a ⊕ b) ⊕ d ≡ a ⊕ (b ⊕ d)
join_assoc ε b d = refl
join_assoc (x ▹ a) b d = ap (λ t. x ▹ t) (join_assoc a b d)

-- a sequence of instructions has a tree, which is put behind what was read, whatever is open round it and follows it
record Nests (c : Context) (code : List Instruction) (before after : List ValType) : Type 0 where
  trees : Trees
  is_typed : IsTyped c trees before after
  is_read : (read : Trees) (around : List Open) (rest : List Instruction) → nest read around (code ++ rest) ≡ nest (read ⊕ trees) around rest

join_none : (a : Trees) → a ⊕ ε ≡ a
join_none ε = refl
join_none (x ▹ a) = ap (λ t. x ▹ t) (join_none a)

nests_none : (c : Context) (ts : List ValType) → Nests c [] ts ts
nests_none c ts = record {
  trees = ε;
  is_typed = refl;
  is_read = λ read around rest. ap (λ t. nest t around rest) (sym (join_none read));
}

-- one more instruction in front
module _ {c : Context} {rest : List Instruction} {before middle after : List ValType} where
  in_front : (i : Instruction) (x : Tree)
      → ((read : Trees) (around : List Open) (more : List Instruction) → nest read around (i ∷ more) ≡ nest (read ⊕ one x) around more)
      → (further : Nests c rest middle after) → IsTyped c (x ▹ further.trees) before after → Nests c (i ∷ rest) before after
  in_front i x reads further typed = record {
    trees = x ▹ further.trees;
    is_typed = typed;
    is_read = λ read around more.
        reads read around (rest ++ more)
        ∙ further.is_read (read ⊕ one x) around more
        ∙ ap (λ t. nest t around more) (join_assoc read (one x) further.trees);
  }

-- .. that opens no block
nests_simple : {c : Context} {rest : List Instruction} {s : Shape} {takes gives after : List ValType} (below : List ValType) (i : Instruction)
    → shape c i ≡ Ok s → Acts s takes gives → late c i ≡ Ok tt → Nests c rest (gives ++ below) after → Nests c (i ∷ rest) (takes ++ below) after
nests_simple {s = s} {takes = takes} {gives = gives} below flat.unreachable is acts late further =
    in_front flat.unreachable unreachable (λ read around more. refl) further
    (record { form = s; takes = takes; gives = gives; below = below; has_form = is; acts = acts; keeps_rules = late; operands = refl; goes_on = further.is_typed })
nests_simple {s = s} {takes = takes} {gives = gives} below (flat.br l) is acts late further =
    in_front (flat.br l) (br l) (λ read around more. refl) further
    (record { form = s; takes = takes; gives = gives; below = below; has_form = is; acts = acts; keeps_rules = late; operands = refl; goes_on = further.is_typed })
nests_simple {s = s} {takes = takes} {gives = gives} below (flat.br_if l) is acts late further =
    in_front (flat.br_if l) (br_if l) (λ read around more. refl) further
    (record { form = s; takes = takes; gives = gives; below = below; has_form = is; acts = acts; keeps_rules = late; operands = refl; goes_on = further.is_typed })
nests_simple {s = s} {takes = takes} {gives = gives} below (flat.br_table ls d) is acts late further =
    in_front (flat.br_table ls d) (br_table ls d) (λ read around more. refl) further
    (record { form = s; takes = takes; gives = gives; below = below; has_form = is; acts = acts; keeps_rules = late; operands = refl; goes_on = further.is_typed })
nests_simple {s = s} {takes = takes} {gives = gives} below flat.return is acts late further =
    in_front flat.return return (λ read around more. refl) further
    (record { form = s; takes = takes; gives = gives; below = below; has_form = is; acts = acts; keeps_rules = late; operands = refl; goes_on = further.is_typed })
nests_simple {s = s} {takes = takes} {gives = gives} below (flat.call f) is acts late further =
    in_front (flat.call f) (call f) (λ read around more. refl) further
    (record { form = s; takes = takes; gives = gives; below = below; has_form = is; acts = acts; keeps_rules = late; operands = refl; goes_on = further.is_typed })
nests_simple {s = s} {takes = takes} {gives = gives} below (flat.call_indirect t) is acts late further =
    in_front (flat.call_indirect t) (call_indirect t) (λ read around more. refl) further
    (record { form = s; takes = takes; gives = gives; below = below; has_form = is; acts = acts; keeps_rules = late; operands = refl; goes_on = further.is_typed })
nests_simple {s = s} {takes = takes} {gives = gives} below (flat.plain p) is acts late further =
    in_front (flat.plain p) (plain p) (λ read around more. refl) further
    (record { form = s; takes = takes; gives = gives; below = below; has_form = is; acts = acts; keeps_rules = late; operands = refl; goes_on = further.is_typed })
nests_simple below (flat.block r) is acts late further = cc is
nests_simple below (flat.loop r) is acts late further = cc is
nests_simple below (flat.if_block r) is acts late further = cc is
nests_simple below flat.else_mark is acts late further = cc is
nests_simple below flat.end_mark is acts late further = cc is

-- .. a block with its end
module _ {c : Context} {r : Option ValType} {body rest : List Instruction} {below after : List ValType} where
  nests_block : Nests (inside r c) body [] (listed r) → Nests c rest (listed r ++ below) after → Nests c (flat.block r ∷ (body ++ end_mark ∷ rest)) below after
  nests_block b further = record {
    trees = block r b.trees ▹ further.trees;
    is_typed = (b.is_typed, further.is_typed);
    is_read = λ read around more.
        ap (nest ε (a_block read r ∷ around)) (append_assoc body (end_mark ∷ rest) more)
        ∙ b.is_read ε (a_block read r ∷ around) (end_mark ∷ (rest ++ more))
        ∙ further.is_read (read ⊕ one (block r b.trees)) around more
        ∙ ap (λ t. nest t around more) (join_assoc read (one (block r b.trees)) further.trees);
  }

  nests_loop : Nests (inside None c) body [] (listed r) → Nests c rest (listed r ++ below) after → Nests c (flat.loop r ∷ (body ++ end_mark ∷ rest)) below after
  nests_loop b further = record {
    trees = loop r b.trees ▹ further.trees;
    is_typed = (b.is_typed, further.is_typed);
    is_read = λ read around more.
        ap (nest ε (a_loop read r ∷ around)) (append_assoc body (end_mark ∷ rest) more)
        ∙ b.is_read ε (a_loop read r ∷ around) (end_mark ∷ (rest ++ more))
        ∙ further.is_read (read ⊕ one (loop r b.trees)) around more
        ∙ ap (λ t. nest t around more) (join_assoc read (one (loop r b.trees)) further.trees);
  }

-- .. an if with one arm, and with two
nests_if : {c : Context} {body rest : List Instruction} {below after : List ValType}
    → Nests (inside None c) body [] [] → Nests c rest below after → Nests c (flat.if_block None ∷ (body ++ end_mark ∷ rest)) (I32 ∷ below) after
nests_if {body = body} {rest = rest} {below = below} b further = record {
  trees = if_block None b.trees ε ▹ further.trees;
  is_typed = (below, refl, b.is_typed, refl, further.is_typed);
  is_read = λ read around more.
      ap (nest ε (an_if read None ∷ around)) (append_assoc body (end_mark ∷ rest) more)
      ∙ b.is_read ε (an_if read None ∷ around) (end_mark ∷ (rest ++ more))
      ∙ further.is_read (read ⊕ one (if_block None b.trees ε)) around more
      ∙ ap (λ t. nest t around more) (join_assoc read (one (if_block None b.trees ε)) further.trees);
}

nests_arms : {c : Context} {r : Option ValType} {first second rest : List Instruction} {below after : List ValType}
    → Nests (inside r c) first [] (listed r) → Nests (inside r c) second [] (listed r) → Nests c rest (listed r ++ below) after
    → Nests c (flat.if_block r ∷ (first ++ else_mark ∷ (second ++ end_mark ∷ rest))) (I32 ∷ below) after
nests_arms {r = r} {first = first} {second = second} {rest = rest} {below = below} a b further = record {
  trees = if_block r a.trees b.trees ▹ further.trees;
  is_typed = (below, refl, a.is_typed, b.is_typed, further.is_typed);
  is_read = λ read around more.
      ap (nest ε (an_if read r ∷ around)) (append_assoc first (else_mark ∷ (second ++ end_mark ∷ rest)) more)
      ∙ a.is_read ε (an_if read r ∷ around) (else_mark ∷ ((second ++ end_mark ∷ rest) ++ more))
      ∙ ap (nest ε (an_else read r a.trees ∷ around)) (append_assoc second (end_mark ∷ rest) more)
      ∙ b.is_read ε (an_else read r a.trees ∷ around) (end_mark ∷ (rest ++ more))
      ∙ further.is_read (read ⊕ one (if_block r a.trees b.trees)) around more
      ∙ ap (λ t. nest t around more) (join_assoc read (one (if_block r a.trees b.trees)) further.trees);
}

nests : {c : Context} {code : List Instruction} {before after : List ValType} → Typed c code before after → Nests c code before after
nests (typed_empty {c = c} {ts = ts}) = nests_none c ts
nests (typed_plain {i = i} below is acts late rest) = nests_simple below i is acts late (nests rest)
nests (typed_block body rest) = nests_block (nests body) (nests rest)
nests (typed_loop body rest) = nests_loop (nests body) (nests rest)
nests (typed_arms first second rest) = nests_arms (nests first) (nests second) (nests rest)
nests (typed_if body rest) = nests_if (nests body) (nests rest)

pub tree_is_typed : TreeIsTyped
tree_is_typed base code valid =
    let it = nests valid.2 in
    (it.trees, ap (nest ε []) valid.1 ∙ it.is_read ε [] (end_mark ∷ []), it.is_typed)
