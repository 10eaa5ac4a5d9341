-- Pieces of code one after another, and clause by clause.
use Rattle.std.proofs.Common.{◌≡◌, ℕ, suc, ◌+◌, ◌<◌, ◌≤◌, List, [], ◌∷◌, ◌++◌, length, drop, get_or, Bool, false, Option, Some, None, refl, sym, ap, subst, ◌∙◌, arith, append_assoc, append-nil}
use Rattle.std.proofs.lemmas.List.{drop_all}
use Rattle.std.specs.Prelude.{ℤ, if◌then◌else◌}
use Rattle.asm_lang_valid.specs.Typing.{values}
use Rattle.sem_words.specs.Lists.{list_items}
use Rattle.wasm_lang.specs.Instructions as instructions
use Rattle.wasm_lang.specs.declared.types.ValType.{ValType}
use Rattle.wasm_lang.specs.Instructions.{Instruction, end_mark}
use Rattle.wasm_lang_exec.specs.Code.{Trees, ε, ◌▹◌, ◌⊕◌, block, loop}
use Rattle.wasm_laws_trees.specs.Spelled.{flat}
use Rattle.wasm_laws_trees.proofs.Joined.{flat_joins}
use Rattle.wasm_laws_write.specs.Lengths.{IsNarrow}
use Rattle.wasm_laws_write.specs.Each.{EachIn}
use Rattle.asm_lang.specs.Modules.{Stmts, Clauses, clauses}
use Rattle.asm_tree.specs.declared.tree.Clause.{Clause}
use Rattle.asm_tree.specs.Views.{stmts_view, clauses_view}
use Rattle.asm2wasm_translation.specs.Bodies.{is_dense, case_branches, table_branch, dispatch, case_numbers}
use Rattle.asm2wasm_emit_pieces.proofs.Parts.{first_part, second_part}
use Rattle.asm2wasm_emit_switches.specs.Cases.{one_clause, tests_for}
use Rattle.switch_cases.proofs.CaseValues.{clauses_put}

-- one piece of those that are left
pub turned : (all a b : List Instruction) (w x y : Trees) → all ≡ a ++ flat w → w ≡ x ⊕ y → b ≡ a ++ flat x → all ≡ b ++ flat y
turned all a b w x y h e k =
    h ∙ ap (λ c. a ++ flat c) e ∙ ap (λ l. a ++ l) (flat_joins x y) ∙ sym (append_assoc a (flat x) (flat y)) ∙ ap (λ l. l ++ flat y) (sym k)

pub none_left : (all a : List Instruction) (w : Trees) → all ≡ a ++ flat w → w ≡ ε → a ≡ all
none_left all a w h e = sym (h ∙ ap (λ c. a ++ flat c) e ∙ append-nil a)

pub first_narrow : (w x y : Trees) → w ≡ x ⊕ y → EachIn IsNarrow w → EachIn IsNarrow x
first_narrow w x y e p = first_part IsNarrow x y (subst (EachIn IsNarrow) e p)

pub rest_narrow : (w x y : Trees) → w ≡ x ⊕ y → EachIn IsNarrow w → EachIn IsNarrow y
rest_narrow w x y e p = second_part IsNarrow x y (subst (EachIn IsNarrow) e p)

-- ---- clause by clause

branches_first : (t i : ℕ) (v : Option ℤ) (ss : Stmts) (cs : Clauses) → case_branches t i (clauses v ss cs) ≡ case_branches t i (one_clause v) ⊕ case_branches t (suc i) cs
branches_first t i None ss cs = refl
branches_first t i (Some v) ss cs = refl

pub branches_turn : (t : ℕ) (ks : List Clause) (i : ℕ) (k : Clause) → i < length ks → k ≡ get_or ks i k → case_branches t i (clauses_view (drop i ks)) ≡ case_branches t i (one_clause k.value) ⊕ case_branches t (i + 1) (clauses_view (drop (i + 1) ks))
branches_turn t ks i k h is =
    let next : suc i ≡ i + 1 = omega arith in
    ap (case_branches t i) (clauses_put ks i (i + 1) k refl h is)
    ∙ branches_first t i k.value (stmts_view (list_items k.body)) (clauses_view (drop (i + 1) ks))
    ∙ ap (λ j. case_branches t i (one_clause k.value) ⊕ case_branches t j (clauses_view (drop (i + 1) ks))) next

pub no_branches : (t : ℕ) (ks : List Clause) (i : ℕ) → length ks ≤ i → case_branches t i (clauses_view (drop i ks)) ≡ ε
no_branches t ks i h = ap (λ l. case_branches t i (clauses_view l)) (drop_all i ks h)

numbers_first : (t k i : ℕ) (v : Option ℤ) (ss : Stmts) (cs : Clauses) → case_numbers t k i (clauses v ss cs) ≡ case_numbers t k i (one_clause v) ⊕ case_numbers t k (suc i) cs
numbers_first t k i None ss cs = refl
numbers_first t k i (Some v) ss cs = refl

pub numbers_turn : (t n : ℕ) (ks : List Clause) (i : ℕ) (k : Clause) → i < length ks → k ≡ get_or ks i k → case_numbers t n i (clauses_view (drop i ks)) ≡ case_numbers t n i (one_clause k.value) ⊕ case_numbers t n (i + 1) (clauses_view (drop (i + 1) ks))
numbers_turn t n ks i k h is =
    let next : suc i ≡ i + 1 = omega arith in
    ap (case_numbers t n i) (clauses_put ks i (i + 1) k refl h is)
    ∙ numbers_first t n i k.value (stmts_view (list_items k.body)) (clauses_view (drop (i + 1) ks))
    ∙ ap (λ j. case_numbers t n i (one_clause k.value) ⊕ case_numbers t n j (clauses_view (drop (i + 1) ks))) next

pub no_numbers : (t n : ℕ) (ks : List Clause) (i : ℕ) → length ks ≤ i → case_numbers t n i (clauses_view (drop i ks)) ≡ ε
no_numbers t n ks i h = ap (λ l. case_numbers t n i (clauses_view l)) (drop_all i ks h)

-- ---- a block

pub block_round : (o a b d : List Instruction) (r : Option ValType) (body : Trees) → a ≡ o ++ instructions.block r ∷ [] → b ≡ a ++ flat body → d ≡ b ++ end_mark ∷ [] → d ≡ o ++ flat (block r body ▹ ε)
block_round o a b d r body h k e =
    e ∙ ap (λ l. l ++ end_mark ∷ []) k ∙ append_assoc a (flat body) (end_mark ∷ []) ∙ ap (λ l. l ++ (flat body ++ end_mark ∷ [])) h
    ∙ append_assoc o (instructions.block r ∷ []) (flat body ++ end_mark ∷ [])

pub loop_round : (o a b d : List Instruction) (r : Option ValType) (body : Trees) → a ≡ o ++ instructions.loop r ∷ [] → b ≡ a ++ flat body → d ≡ b ++ end_mark ∷ [] → d ≡ o ++ flat (loop r body ▹ ε)
loop_round o a b d r body h k e =
    e ∙ ap (λ l. l ++ end_mark ∷ []) k ∙ append_assoc a (flat body) (end_mark ∷ []) ∙ ap (λ l. l ++ (flat body ++ end_mark ∷ [])) h
    ∙ append_assoc o (instructions.loop r ∷ []) (flat body ++ end_mark ∷ [])

-- ---- by tests

pub dispatched : (t : ℕ) (cs : Clauses) (b : Bool) → b ≡ is_dense (values cs) → b ≡ false → dispatch t cs ≡ tests_for t cs
dispatched t cs b e f = ap (λ d. if d then table_branch t cs else tests_for t cs) (sym e ∙ f)
