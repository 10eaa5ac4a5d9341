-- A typed tree is a valid body.
use Rattle.std.proofs.Common.{List, [], ◌∷◌, ◌++◌, Option, Some, None, refl, sym, subst}
use Rattle.wasm_lang.specs.declared.types.ValType.{ValType}
use Rattle.wasm_lang.specs.declared.types.ValType.TheVariants.{I32}
use Rattle.wasm_lang.specs.Instructions as instructions
use Rattle.wasm_lang.specs.Instructions.{Instruction, end_mark}
use Rattle.wasm_lang_valid.specs.Typing.{Context, listed, inside, Typed, typed_empty, typed_plain, typed_block, typed_loop, typed_arms, typed_if}
use Rattle.wasm_lang_exec.specs.Code.{unreachable, block, loop, if_block, br, br_if, br_table, return, call, call_indirect, plain, Trees, ε, ◌▹◌}
use Rattle.wasm_laws_sound.specs.Trees.{IsTyped, Steps}
use Rattle.wasm_laws_sound.specs.Laws.{in_body}
use Rattle.wasm_laws_trees.specs.Spelled.{after_else, flat}
use Rattle.wasm_laws_trees.specs.Laws.{TypedIsValid}

-- an instruction that opens no block, before code that is typed on what it leaves
in_front : (c : Context) (i : Instruction) (rest : List Instruction) (before after : List ValType) (further : List ValType → Type 0)
    → ((ts : List ValType) → further ts → Typed c rest ts after) → Steps c i before further → Typed c (i ∷ rest) before after
in_front c i rest before after further more s =
    subst (λ ts. Typed c (i ∷ rest) ts after) (sym s.operands) (typed_plain s.below s.has_form s.acts s.keeps_rules (more (s.gives ++ s.below) s.goes_on))

-- an if: without code in its second arm it has no result
arms : (c : Context) (r : Option ValType) (first rest : List Instruction) (second : Trees) (below after : List ValType)
    → Typed (inside r c) first [] (listed r) → IsTyped (inside r c) second [] (listed r) → Typed (inside r c) (flat second) [] (listed r) → Typed c rest (listed r ++ below) after
    → Typed c (instructions.if_block r ∷ (first ++ (after_else second (flat second) ++ end_mark ∷ rest))) (I32 ∷ below) after
arms c None first rest ε below after f none s more = typed_if f more
arms c (Some t) first rest ε below after f none s more = cc none
arms c r first rest (x ▹ xs) below after f none s more = typed_arms f s more

typed : (c : Context) (code : Trees) (before after : List ValType) → IsTyped c code before after → Typed c (flat code) before after
typed c ε before after h = subst (λ ts. Typed c [] before ts) h typed_empty
typed c (block r body ▹ a) before after h = typed_block (typed (inside r c) body [] (listed r) h.0) (typed c a (listed r ++ before) after h.1)
typed c (loop r body ▹ a) before after h = typed_loop (typed (inside None c) body [] (listed r) h.0) (typed c a (listed r ++ before) after h.1)
typed c (if_block r first second ▹ a) before after h =
    subst (λ ts. Typed c (flat (if_block r first second ▹ a)) ts after) (sym h.1)
    (arms c r (flat first) (flat a) second h.0 after (typed (inside r c) first [] (listed r) h.2) h.3 (typed (inside r c) second [] (listed r) h.3) (typed c a (listed r ++ h.0) after h.4))
typed c (unreachable ▹ a) before after h = in_front c instructions.unreachable (flat a) before after (λ ts. IsTyped c a ts after) (λ ts t. typed c a ts after t) h
typed c (br l ▹ a) before after h = in_front c (instructions.br l) (flat a) before after (λ ts. IsTyped c a ts after) (λ ts t. typed c a ts after t) h
typed c (br_if l ▹ a) before after h = in_front c (instructions.br_if l) (flat a) before after (λ ts. IsTyped c a ts after) (λ ts t. typed c a ts after t) h
typed c (br_table ls d ▹ a) before after h = in_front c (instructions.br_table ls d) (flat a) before after (λ ts. IsTyped c a ts after) (λ ts t. typed c a ts after t) h
typed c (return ▹ a) before after h = in_front c instructions.return (flat a) before after (λ ts. IsTyped c a ts after) (λ ts t. typed c a ts after t) h
typed c (call f ▹ a) before after h = in_front c (instructions.call f) (flat a) before after (λ ts. IsTyped c a ts after) (λ ts t. typed c a ts after t) h
typed c (call_indirect t ▹ a) before after h = in_front c (instructions.call_indirect t) (flat a) before after (λ ts. IsTyped c a ts after) (λ ts t. typed c a ts after t) h
typed c (plain p ▹ a) before after h = in_front c (instructions.plain p) (flat a) before after (λ ts. IsTyped c a ts after) (λ ts t. typed c a ts after t) h

pub typed_is_valid : TypedIsValid
typed_is_valid base code h = (flat code, refl, typed (in_body base) code [] (listed base.returns) h)
