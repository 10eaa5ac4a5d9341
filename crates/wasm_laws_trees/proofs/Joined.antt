-- One piece of code after another: its spelling, counts and types.
use Rattle.std.proofs.Common.{List, ◌∷◌, ◌++◌, refl, sym, ap, ◌∙◌, subst, arith}
use Rattle.std.proofs.lemmas.List.{append_assoc}
use Rattle.wasm_lang.specs.declared.types.ValType.{ValType}
use Rattle.wasm_lang.specs.Instructions as instructions
use Rattle.wasm_lang.specs.Instructions.{Instruction, end_mark}
use Rattle.wasm_lang_valid.specs.Typing.{Context}
use Rattle.wasm_lang_exec.specs.Code.{unreachable, block, loop, if_block, br, br_if, br_table, return, call, call_indirect, plain, ε, ◌▹◌}
use Rattle.wasm_laws_sound.specs.Trees.{IsTyped, Steps}
use Rattle.wasm_laws_trees.specs.Spelled.{after_else, flat}
use Rattle.wasm_laws_trees.specs.Laws.{FlatJoins, SizesAdd, LevelsJoin, ReachJoins, TypesJoin}

pub flat_joins : FlatJoins
flat_joins ε b = refl
flat_joins (block r body ▹ a) b =
    ap (λ is. instructions.block r ∷ (flat body ++ end_mark ∷ is)) (flat_joins a b)
    ∙ ap (λ is. instructions.block r ∷ is) (sym (append_assoc (flat body) (end_mark ∷ flat a) (flat b)))
flat_joins (loop r body ▹ a) b =
    ap (λ is. instructions.loop r ∷ (flat body ++ end_mark ∷ is)) (flat_joins a b)
    ∙ ap (λ is. instructions.loop r ∷ is) (sym (append_assoc (flat body) (end_mark ∷ flat a) (flat b)))
flat_joins (if_block r first second ▹ a) b =
    let arm = after_else second (flat second) in
    ap (λ is. instructions.if_block r ∷ (flat first ++ (arm ++ end_mark ∷ is))) (flat_joins a b)
    ∙ ap (λ is. instructions.if_block r ∷ (flat first ++ is)) (sym (append_assoc arm (end_mark ∷ flat a) (flat b)))
    ∙ ap (λ is. instructions.if_block r ∷ is) (sym (append_assoc (flat first) (arm ++ end_mark ∷ flat a) (flat b)))
flat_joins (unreachable ▹ a) b = ap (λ is. instructions.unreachable ∷ is) (flat_joins a b)
flat_joins (br l ▹ a) b = ap (λ is. instructions.br l ∷ is) (flat_joins a b)
flat_joins (br_if l ▹ a) b = ap (λ is. instructions.br_if l ∷ is) (flat_joins a b)
flat_joins (br_table ls d ▹ a) b = ap (λ is. instructions.br_table ls d ∷ is) (flat_joins a b)
flat_joins (return ▹ a) b = ap (λ is. instructions.return ∷ is) (flat_joins a b)
flat_joins (call f ▹ a) b = ap (λ is. instructions.call f ∷ is) (flat_joins a b)
flat_joins (call_indirect t ▹ a) b = ap (λ is. instructions.call_indirect t ∷ is) (flat_joins a b)
flat_joins (plain p ▹ a) b = ap (λ is. instructions.plain p ∷ is) (flat_joins a b)

pub sizes_add : SizesAdd
sizes_add ε b = omega arith
sizes_add (block r body ▹ a) b = let e = sizes_add a b in omega (arith, e)
sizes_add (loop r body ▹ a) b = let e = sizes_add a b in omega (arith, e)
sizes_add (if_block r first second ▹ a) b = let e = sizes_add a b in omega (arith, e)
sizes_add (unreachable ▹ a) b = let e = sizes_add a b in omega (arith, e)
sizes_add (br l ▹ a) b = let e = sizes_add a b in omega (arith, e)
sizes_add (br_if l ▹ a) b = let e = sizes_add a b in omega (arith, e)
sizes_add (br_table ls d ▹ a) b = let e = sizes_add a b in omega (arith, e)
sizes_add (return ▹ a) b = let e = sizes_add a b in omega (arith, e)
sizes_add (call f ▹ a) b = let e = sizes_add a b in omega (arith, e)
sizes_add (call_indirect t ▹ a) b = let e = sizes_add a b in omega (arith, e)
sizes_add (plain p ▹ a) b = let e = sizes_add a b in omega (arith, e)

pub levels_join : LevelsJoin
levels_join ε b = omega arith
levels_join (block r body ▹ a) b = let e = levels_join a b in omega (arith, e)
levels_join (loop r body ▹ a) b = let e = levels_join a b in omega (arith, e)
levels_join (if_block r first second ▹ a) b = let e = levels_join a b in omega (arith, e)
levels_join (unreachable ▹ a) b = levels_join a b
levels_join (br l ▹ a) b = levels_join a b
levels_join (br_if l ▹ a) b = levels_join a b
levels_join (br_table ls d ▹ a) b = levels_join a b
levels_join (return ▹ a) b = levels_join a b
levels_join (call f ▹ a) b = levels_join a b
levels_join (call_indirect t ▹ a) b = levels_join a b
levels_join (plain p ▹ a) b = levels_join a b

pub reach_joins : ReachJoins
reach_joins ε b = omega arith
reach_joins (block r body ▹ a) b = let e = reach_joins a b in omega (arith, e)
reach_joins (loop r body ▹ a) b = let e = reach_joins a b in omega (arith, e)
reach_joins (if_block r first second ▹ a) b = let e = reach_joins a b in omega (arith, e)
reach_joins (unreachable ▹ a) b = reach_joins a b
reach_joins (br l ▹ a) b = reach_joins a b
reach_joins (br_if l ▹ a) b = reach_joins a b
reach_joins (br_table ls d ▹ a) b = reach_joins a b
reach_joins (return ▹ a) b = reach_joins a b
reach_joins (call f ▹ a) b = reach_joins a b
reach_joins (call_indirect t ▹ a) b = reach_joins a b
reach_joins (plain p ▹ a) b = let e = reach_joins a b in omega (arith, e)

-- what is typed further on
steps_on : {c : Context} {i : Instruction} {before : List ValType} {f g : List ValType → Type 0} → ((ts : List ValType) → f ts → g ts) → Steps c i before f → Steps c i before g
steps_on k s = record {
  form = s.form;
  takes = s.takes;
  gives = s.gives;
  below = s.below;
  has_form = s.has_form;
  acts = s.acts;
  keeps_rules = s.keeps_rules;
  operands = s.operands;
  goes_on = k (s.gives ++ s.below) s.goes_on;
}

pub types_join : TypesJoin
types_join c ε b before middle after h more = subst (λ ts. IsTyped c b ts after) (sym h) more
types_join c (block r body ▹ a) b before middle after h more = (h.0, types_join c a b _ middle after h.1 more)
types_join c (loop r body ▹ a) b before middle after h more = (h.0, types_join c a b _ middle after h.1 more)
types_join c (if_block r first second ▹ a) b before middle after h more = (h.0, h.1, h.2, h.3, types_join c a b _ middle after h.4 more)
types_join c (unreachable ▹ a) b before middle after h more = steps_on (λ ts t. types_join c a b ts middle after t more) h
types_join c (br l ▹ a) b before middle after h more = steps_on (λ ts t. types_join c a b ts middle after t more) h
types_join c (br_if l ▹ a) b before middle after h more = steps_on (λ ts t. types_join c a b ts middle after t more) h
types_join c (br_table ls d ▹ a) b before middle after h more = steps_on (λ ts t. types_join c a b ts middle after t more) h
types_join c (return ▹ a) b before middle after h more = steps_on (λ ts t. types_join c a b ts middle after t more) h
types_join c (call f ▹ a) b before middle after h more = steps_on (λ ts t. types_join c a b ts middle after t more) h
types_join c (call_indirect t ▹ a) b before middle after h more = steps_on (λ ts t. types_join c a b ts middle after t more) h
types_join c (plain p ▹ a) b before middle after h more = steps_on (λ ts t. types_join c a b ts middle after t more) h
