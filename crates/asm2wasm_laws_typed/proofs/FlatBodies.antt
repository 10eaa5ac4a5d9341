-- How deep the code of statements and functions is nested.
use Rattle.std.proofs.Common.{◌≡◌, ℕ, suc, ◌+◌, ◌*◌, ◌≤◌, max, Bool, true, false, List, [], ◌∷◌, ◌++◌, length, Option, Some, None, refl, ap, arith}
use Rattle.std.specs.Prelude.{if◌then◌else◌, replicate}
use Rattle.std.proofs.lemmas.Bool.Decides.{nat_tests}
use Rattle.wasm_lang.specs.Instructions.{eqz32, local_set}
use Rattle.wasm_lang_exec.specs.Code.{Trees, ε, ◌▹◌, ◌⊕◌, block, if_block, br, br_if, return}
use Rattle.wasm_laws_trees.specs.Spelled.{tree_levels}
use Rattle.wasm_laws_trees.proofs.Joined.{levels_join}
use Rattle.asm_lang.specs.Heights.{option_height, stmt_heights, stmts_height, clauses_height}
use Rattle.asm_lang.specs.Modules as text
use Rattle.asm_lang.specs.Modules.{Expr, Stmt, if_only, if_else, returns, while_loop, do_while, for_loop, breaks, continues, labelled, switches, empty, Stmts, no_stmts, stmts, Clauses, no_clauses, clauses, Variable}
use Rattle.asm_lang_valid.specs.Typing.{Scope, values}
use Rattle.asm_lang_exec.specs.Meaning.{before_default}
use Rattle.asm2wasm_translation.specs.Values.{number, plains, one, expr_code}
use Rattle.asm2wasm_translation.specs.Bodies.{Label, plainly, breakable, named_end, again, loop_code, do_code, clauses_count, is_short, is_dense, table_branch, case_branches, dispatch, case_numbers, first_clause, all_further, part_code, test_code, value_local, number_local, stmt_code, stmts_code, short_code, long_code, literal_word, first_value, locals_code, last_code, body_code, in_body}
use Rattle.asm2wasm_laws_typed.specs.Labels.{is_labelled, HasJoinedLabels, HaveJoinedLabels, ClausesHaveJoinedLabels}
use Rattle.asm2wasm_laws_typed.specs.Laws.{StatementsAreFlat, FunctionsAreFlat}
use Rattle.asm2wasm_laws_typed.proofs.FlatValues.{plains_levels, value_levels}

-- ---- switches

branches_levels : (t i : ℕ) (cs : Clauses) → tree_levels (case_branches t i cs) ≡ 0
branches_levels t i no_clauses = omega arith
branches_levels t i (clauses None ss cs) = branches_levels t (suc i) cs
branches_levels t i (clauses (Some v) ss cs) = branches_levels t (suc i) cs

numbers_levels : (t k i : ℕ) (cs : Clauses) → tree_levels (case_numbers t k i cs) ≡ 0
numbers_levels t k i no_clauses = omega arith
numbers_levels t k i (clauses None ss cs) = numbers_levels t k (suc i) cs
numbers_levels t k i (clauses (Some v) ss cs) = numbers_levels t k (suc i) cs

dispatch_levels : (t : ℕ) (cs : Clauses) → tree_levels (dispatch t cs) ≡ 0
dispatch_levels t cs = by (is_dense (values cs))
  where
    by : (b : Bool) → tree_levels (if b then table_branch t cs else case_branches t 0 cs ⊕ (br (before_default cs) ▹ ε)) ≡ 0
    by true = omega arith
    by false = omega (arith, branches_levels t 0 cs, levels_join (case_branches t 0 cs) (br (before_default cs) ▹ ε))

first_levels : (t k : ℕ) (cs : Clauses) → tree_levels (first_clause t k cs) ≡ 1
first_levels t k cs = omega (arith, numbers_levels t k 0 cs, levels_join (case_numbers t k 0 cs) (plains (number (before_default cs) ∷ local_set k ∷ [])))

either_way : (b : Bool) (x y : Trees) (n : ℕ) → (b ≡ true → tree_levels x ≤ n) → tree_levels y ≤ n → tree_levels (if b then x else y) ≤ n
either_way true x y n h i = h refl
either_way false x y n h i = i

few_clauses : (cs : Clauses) → is_short cs ≡ true → clauses_count cs ≤ 280
few_clauses cs h = grind (arith, nat_tests, h)

-- ---- loops

loop_levels : (test body step : Trees) → tree_levels (loop_code test body step) ≤ 2 + max (tree_levels test) (max (1 + tree_levels body) (tree_levels step))
loop_levels test body step = omega (arith, levels_join test (block None body ▹ (step ⊕ again)), levels_join step again)

do_levels : (body test : Trees) → tree_levels (do_code body test) ≤ 2 + max (1 + tree_levels body) (tree_levels test)
do_levels body test = omega (arith, levels_join test (br_if 0 ▹ ε))

-- ---- statements; one without labels leaves room for a block that its labels would add

abbrev room : Bool → ℕ
room true = 0
room false = 1

alike : (n k h : ℕ) → n + k ≤ h → (n + k ≤ h) × (n ≤ h)
alike n k h i = (i, omega (arith, i))

module _ (heap : ℕ) (c : Scope) where
  part_levels : (o : Option Expr) → tree_levels (part_code heap c o) ≤ option_height o
  part_levels None = omega arith
  part_levels (Some e) = value_levels heap c false 0 e

  test_levels : (o : Option Expr) → tree_levels (test_code heap c o) ≤ option_height o
  test_levels None = omega arith
  test_levels (Some e) = let h = value_levels heap c true 0 e in omega (arith, h, levels_join (expr_code heap c true 0 e) (one eqz32 ⊕ (br_if 1 ▹ ε)))

  mutual
    pub stmt_levels : (ls : List Label) (own : List (List ℕ)) (s : Stmt) → HasJoinedLabels s
        → (tree_levels (stmt_code heap c ls own s) + room (is_labelled s) ≤ 282 * (stmt_heights s).height) × (tree_levels (stmt_code heap c ls own s) ≤ 282 * (stmt_heights s).as_body)
    stmt_levels ls own (text.block ss) j = let h = stmts_levels ls ss j in (omega (arith, h), omega (arith, h))
    stmt_levels ls own (text.plain e) j = alike _ _ _ (omega (arith, value_levels heap c false 0 e))
    stmt_levels ls own empty j = (omega arith, omega arith)
    stmt_levels ls own (if_only e s) j =
        let first = value_levels heap c true 0 e in
        let second = (stmt_levels (plainly ∷ ls) [] s j).1 in
        let joined = levels_join (expr_code heap c true 0 e) (if_block None (stmt_code heap c (plainly ∷ ls) [] s) ε ▹ ε) in
        alike _ _ _ (omega (arith, first, second, joined))
    stmt_levels ls own (if_else e s r) j =
        let first = value_levels heap c true 0 e in
        let second = (stmt_levels (plainly ∷ ls) [] s j.0).1 in
        let third = (stmt_levels (plainly ∷ ls) [] r j.1).1 in
        let joined = levels_join (expr_code heap c true 0 e) (if_block None (stmt_code heap c (plainly ∷ ls) [] s) (stmt_code heap c (plainly ∷ ls) [] r) ▹ ε) in
        alike _ _ _ (omega (arith, first, second, third, joined))
    stmt_levels ls own (returns None) j = (omega arith, omega arith)
    stmt_levels ls own (returns (Some e)) j = alike _ _ _ (omega (arith, value_levels heap c true 0 e, levels_join (expr_code heap c true 0 e) (return ▹ ε)))
    stmt_levels ls own (while_loop e s) j =
        let body = (stmt_levels (in_body own ls) [] s j).1 in
        alike _ _ _ (omega (arith, body, test_levels (Some e), loop_levels (test_code heap c (Some e)) (stmt_code heap c (in_body own ls) [] s) ε))
    stmt_levels ls own (do_while s e) j =
        let body = (stmt_levels (in_body own ls) [] s j).1 in
        alike _ _ _ (omega (arith, body, value_levels heap c true 0 e, do_levels (stmt_code heap c (in_body own ls) [] s) (expr_code heap c true 0 e)))
    stmt_levels ls own (for_loop x y z s) j =
        let body = (stmt_levels (in_body own ls) [] s j).1 in
        let turns = loop_code (test_code heap c y) (stmt_code heap c (in_body own ls) [] s) (part_code heap c z) in
        let all = loop_levels (test_code heap c y) (stmt_code heap c (in_body own ls) [] s) (part_code heap c z) in
        alike _ _ _ (omega (arith, body, all, levels_join (part_code heap c x) turns, part_levels x, test_levels y, part_levels z))
    stmt_levels ls own (breaks n) j = (omega arith, omega arith)
    stmt_levels ls own (continues n) j = (omega arith, omega arith)
    stmt_levels ls own (labelled ns s) j =
        let h = (stmt_levels (named_end ns ∷ ls) ns s j.1).0 in
        let alone = ap room j.0 in
        alike _ _ _ (omega (arith, h, alone))
    stmt_levels ls own (switches e cs) j =
        let t = value_local heap c in
        let k = number_local heap c in
        let first = value_levels heap c true 0 e in
        let few = block None (short_code heap c ls (dispatch t cs) cs) ▹ ε in
        let many = first_clause t k cs ⊕ (block None (long_code heap c ls 0 cs) ▹ ε) in
        let short = short_levels ls (dispatch t cs) cs j in
        let long = long_levels ls 0 cs j in
        let joined = levels_join (expr_code heap c true 0 e) (one (local_set t) ⊕ (if is_short cs then few else many)) in
        let further = levels_join (first_clause t k cs) (block None (long_code heap c ls 0 cs) ▹ ε) in
        let is_few : is_short cs ≡ true → tree_levels few ≤ 281 + 282 * clauses_height cs = λ h. omega (arith, short, dispatch_levels t cs, few_clauses cs h) in
        let is_many : tree_levels many ≤ 281 + 282 * clauses_height cs = omega (arith, long, first_levels t k cs, further) in
        let either = either_way (is_short cs) few many (281 + 282 * clauses_height cs) is_few is_many in
        alike _ _ _ (omega (arith, first, joined, either))

    pub stmts_levels : (ls : List Label) (ss : Stmts) → HaveJoinedLabels ss → tree_levels (stmts_code heap c ls ss) ≤ 282 * stmts_height ss
    stmts_levels ls no_stmts j = omega arith
    stmts_levels ls (stmts s ss) j =
        let first = (stmt_levels ls [] s j.0).0 in
        let second = stmts_levels ls ss j.1 in
        omega (arith, first, second, levels_join (stmt_code heap c ls [] s) (stmts_code heap c ls ss))

    short_levels : (ls : List Label) (inside : Trees) (cs : Clauses) → ClausesHaveJoinedLabels cs
        → tree_levels (short_code heap c ls inside cs) ≤ clauses_count cs + max (tree_levels inside) (282 * clauses_height cs)
    short_levels ls inside no_clauses j = omega arith
    short_levels ls inside (clauses v ss cs) j =
        let under = replicate (clauses_count cs) plainly ++ breakable ∷ ls in
        let first = stmts_levels under ss j.0 in
        let further = short_levels ls (block None inside ▹ stmts_code heap c under ss) cs j.1 in
        omega (arith, first, further)

    long_levels : (ls : List Label) (j : ℕ) (cs : Clauses) → ClausesHaveJoinedLabels cs → tree_levels (long_code heap c ls j cs) ≤ 1 + 282 * clauses_height cs
    long_levels ls n no_clauses j = omega arith
    long_levels ls n (clauses v ss cs) j =
        let first = stmts_levels (plainly ∷ breakable ∷ ls) ss j.0 in
        let further = long_levels ls (suc n) cs j.1 in
        let joined = levels_join (stmts_code heap c (plainly ∷ breakable ∷ ls) ss) (all_further (number_local heap c)) in
        omega (arith, first, further, joined)

  -- ---- functions

  last_levels : (s : Stmt) → HasJoinedLabels s → tree_levels (last_code heap c s) ≤ 282 * (stmt_heights s).height
  last_levels (returns (Some e)) j = omega (arith, value_levels heap c true 0 e)
  last_levels s j = let h = (stmt_levels [] [] s j).0 in omega (arith, h)

  body_levels : (ss : Stmts) → HaveJoinedLabels ss → tree_levels (body_code heap c ss) ≤ 282 * stmts_height ss
  body_levels no_stmts j = omega arith
  body_levels (stmts s no_stmts) j = let h = last_levels s j.0 in omega (arith, h)
  body_levels (stmts s (stmts r rs)) j =
      let first = (stmt_levels [] [] s j.0).0 in
      let further = body_levels (stmts r rs) j.1 in
      omega (arith, first, further, levels_join (stmt_code heap c [] [] s) (body_code heap c (stmts r rs)))

  locals_levels : (i : ℕ) (vs : List Variable) → tree_levels (locals_code heap c i vs) ≡ 0
  locals_levels i [] = omega arith
  locals_levels i (v ∷ vs) =
      let set = first_value heap c i (literal_word heap c v.init) in
      let further = locals_levels (suc i) vs in
      omega (arith, further, plains_levels set, levels_join (plains set) (locals_code heap c (suc i) vs))

pub statements_are_flat : StatementsAreFlat
statements_are_flat heap c ls own s j = let h = (stmt_levels heap c ls own s j).0 in omega (arith, h)

pub functions_are_flat : FunctionsAreFlat
functions_are_flat heap c j =
    let locals = locals_levels heap c (length c.within.params) c.within.locals in
    let body = body_levels heap c c.within.body j in
    omega (arith, locals, body, levels_join (locals_code heap c (length c.within.params) c.within.locals) (body_code heap c c.within.body))
