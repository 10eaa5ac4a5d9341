-- Which locals the code of statements and functions names.
use Rattle.std.proofs.Common.{ℕ, suc, ◌+◌, ◌≤◌, max, Bool, true, false, List, [], ◌∷◌, ◌++◌, length, Option, Some, None, arith}
use Rattle.std.specs.Prelude.{if◌then◌else◌, ◌==◌, replicate}
use Rattle.wasm_lang.specs.Instructions.{eqz32, local_set}
use Rattle.wasm_lang_exec.specs.Code.{Trees, ε, ◌▹◌, ◌⊕◌, block, if_block, br, br_if, return}
use Rattle.wasm_laws_trees.specs.Spelled.{reach}
use Rattle.wasm_laws_trees.proofs.Joined.{reach_joins}
use Rattle.asm_lang.specs.Heights.{option_height, stmt_heights, stmts_height, clauses_height}
use Rattle.asm_lang.specs.Modules as text
use Rattle.asm_lang.specs.Modules.{Expr, Stmt, if_only, if_else, returns, while_loop, do_while, for_loop, breaks, continues, labelled, switches, empty, Stmts, no_stmts, stmts, Clauses, no_clauses, clauses, Variable}
use Rattle.asm_lang_valid.specs.Typing.{Scope, values}
use Rattle.asm_lang_exec.specs.Meaning.{before_default}
use Rattle.asm2wasm_translation.specs.Numbers.{first_scratch}
use Rattle.asm2wasm_translation.specs.Values.{number, plains, one, expr_code}
use Rattle.asm2wasm_translation.specs.Bodies.{Label, plainly, breakable, named_end, again, loop_code, do_code, clauses_count, is_short, is_dense, table_branch, case_branches, dispatch, case_numbers, first_clause, all_further, part_code, test_code, value_local, number_local, stmt_code, stmts_code, short_code, long_code, literal_word, first_value, locals_code, last_code, body_code, in_body}
use Rattle.asm2wasm_laws_typed.specs.Laws.{StatementsReach, FunctionsReach}
use Rattle.asm2wasm_laws_typed.proofs.ReachValues.{value_reach}

-- ---- switches

branches_reach : (t i : ℕ) (cs : Clauses) → reach (case_branches t i cs) ≤ t + 1
branches_reach t i no_clauses = omega arith
branches_reach t i (clauses None ss cs) = branches_reach t (suc i) cs
branches_reach t i (clauses (Some v) ss cs) = let h = branches_reach t (suc i) cs in omega (arith, h)

numbers_reach : (t k i : ℕ) (cs : Clauses) → reach (case_numbers t k i cs) ≤ max t k + 1
numbers_reach t k i no_clauses = omega arith
numbers_reach t k i (clauses None ss cs) = numbers_reach t k (suc i) cs
numbers_reach t k i (clauses (Some v) ss cs) = let h = numbers_reach t k (suc i) cs in omega (arith, h)

dispatch_reach : (t : ℕ) (cs : Clauses) → reach (dispatch t cs) ≤ t + 1
dispatch_reach t cs = by (is_dense (values cs))
  where
    by : (b : Bool) → reach (if b then table_branch t cs else case_branches t 0 cs ⊕ (br (before_default cs) ▹ ε)) ≤ t + 1
    by true = omega arith
    by false = omega (arith, branches_reach t 0 cs, reach_joins (case_branches t 0 cs) (br (before_default cs) ▹ ε))

first_reach : (t k : ℕ) (cs : Clauses) → reach (first_clause t k cs) ≤ max t k + 1
first_reach t k cs = omega (arith, numbers_reach t k 0 cs, reach_joins (case_numbers t k 0 cs) (plains (number (before_default cs) ∷ local_set k ∷ [])))

either_reach : (b : Bool) (x y : Trees) (n : ℕ) → reach x ≤ n → reach y ≤ n → reach (if b then x else y) ≤ n
either_reach true x y n h i = h
either_reach false x y n h i = i

-- ---- loops

loop_reach : (test body step : Trees) → reach (loop_code test body step) ≤ max (reach test) (max (reach body) (reach step))
loop_reach test body step = omega (arith, reach_joins test (block None body ▹ (step ⊕ again)), reach_joins step again)

do_reach : (body test : Trees) → reach (do_code body test) ≤ max (reach body) (reach test)
do_reach body test = omega (arith, reach_joins test (br_if 0 ▹ ε))

-- ---- statements

-- as a body a statement isn't higher
body_within : (s : Stmt) → (stmt_heights s).as_body ≤ (stmt_heights s).height
body_within (text.block ss) = omega arith
body_within _ = omega arith

module _ (heap : ℕ) (c : Scope) where
  part_reach : (o : Option Expr) → reach (part_code heap c o) ≤ first_scratch c.within + option_height o + 1
  part_reach None = omega arith
  part_reach (Some e) = omega (arith, value_reach heap c false 0 e)

  test_reach : (o : Option Expr) → reach (test_code heap c o) ≤ first_scratch c.within + option_height o + 1
  test_reach None = omega arith
  test_reach (Some e) = omega (arith, value_reach heap c true 0 e, reach_joins (expr_code heap c true 0 e) (one eqz32 ⊕ (br_if 1 ▹ ε)))

  mutual
    pub stmt_reach : (ls : List Label) (own : List (List ℕ)) (s : Stmt) → reach (stmt_code heap c ls own s) ≤ first_scratch c.within + (stmt_heights s).as_body + 1
    stmt_reach ls own (text.block ss) = let h = stmts_reach ls ss in omega (arith, h)
    stmt_reach ls own (text.plain e) = omega (arith, value_reach heap c false 0 e)
    stmt_reach ls own empty = omega arith
    stmt_reach ls own (if_only e s) =
        let first = value_reach heap c true 0 e in
        let second = stmt_reach (plainly ∷ ls) [] s in
        let joined = reach_joins (expr_code heap c true 0 e) (if_block None (stmt_code heap c (plainly ∷ ls) [] s) ε ▹ ε) in
        omega (arith, first, second, joined)
    stmt_reach ls own (if_else e s r) =
        let first = value_reach heap c true 0 e in
        let second = stmt_reach (plainly ∷ ls) [] s in
        let third = stmt_reach (plainly ∷ ls) [] r in
        let joined = reach_joins (expr_code heap c true 0 e) (if_block None (stmt_code heap c (plainly ∷ ls) [] s) (stmt_code heap c (plainly ∷ ls) [] r) ▹ ε) in
        omega (arith, first, second, third, joined)
    stmt_reach ls own (returns None) = omega arith
    stmt_reach ls own (returns (Some e)) = omega (arith, value_reach heap c true 0 e, reach_joins (expr_code heap c true 0 e) (return ▹ ε))
    stmt_reach ls own (while_loop e s) =
        let body = stmt_reach (in_body own ls) [] s in
        omega (arith, body, test_reach (Some e), loop_reach (test_code heap c (Some e)) (stmt_code heap c (in_body own ls) [] s) ε)
    stmt_reach ls own (do_while s e) =
        let body = stmt_reach (in_body own ls) [] s in
        omega (arith, body, value_reach heap c true 0 e, do_reach (stmt_code heap c (in_body own ls) [] s) (expr_code heap c true 0 e))
    stmt_reach ls own (for_loop x y z s) =
        let body = stmt_reach (in_body own ls) [] s in
        let turns = loop_code (test_code heap c y) (stmt_code heap c (in_body own ls) [] s) (part_code heap c z) in
        let all = loop_reach (test_code heap c y) (stmt_code heap c (in_body own ls) [] s) (part_code heap c z) in
        omega (arith, body, all, reach_joins (part_code heap c x) turns, part_reach x, test_reach y, part_reach z)
    stmt_reach ls own (breaks n) = omega arith
    stmt_reach ls own (continues n) = omega arith
    stmt_reach ls own (labelled ns s) = let h = stmt_reach (named_end ns ∷ ls) ns s in omega (arith, h, body_within s)
    stmt_reach ls own (switches e cs) =
        let t = value_local heap c in
        let k = number_local heap c in
        let first = value_reach heap c true 0 e in
        let few = block None (short_code heap c ls (dispatch t cs) cs) ▹ ε in
        let many = first_clause t k cs ⊕ (block None (long_code heap c ls 0 cs) ▹ ε) in
        let short = short_reach ls (dispatch t cs) cs in
        let long = long_reach ls 0 cs in
        let joined = reach_joins (expr_code heap c true 0 e) (one (local_set t) ⊕ (if is_short cs then few else many)) in
        let further = reach_joins (first_clause t k cs) (block None (long_code heap c ls 0 cs) ▹ ε) in
        let is_few : reach few ≤ first_scratch c.within + 2 + clauses_height cs = omega (arith, short, dispatch_reach t cs) in
        let is_many : reach many ≤ first_scratch c.within + 2 + clauses_height cs = omega (arith, long, first_reach t k cs, further) in
        let either = either_reach (is_short cs) few many (first_scratch c.within + 2 + clauses_height cs) is_few is_many in
        omega (arith, first, joined, either)

    pub stmts_reach : (ls : List Label) (ss : Stmts) → reach (stmts_code heap c ls ss) ≤ first_scratch c.within + stmts_height ss + 1
    stmts_reach ls no_stmts = omega arith
    stmts_reach ls (stmts s ss) =
        let first = stmt_reach ls [] s in
        let second = stmts_reach ls ss in
        omega (arith, first, second, body_within s, reach_joins (stmt_code heap c ls [] s) (stmts_code heap c ls ss))

    short_reach : (ls : List Label) (inside : Trees) (cs : Clauses) → reach (short_code heap c ls inside cs) ≤ max (reach inside) (first_scratch c.within + clauses_height cs + 1)
    short_reach ls inside no_clauses = omega arith
    short_reach ls inside (clauses v ss cs) =
        let under = replicate (clauses_count cs) plainly ++ breakable ∷ ls in
        let first = stmts_reach under ss in
        let further = short_reach ls (block None inside ▹ stmts_code heap c under ss) cs in
        omega (arith, first, further)

    long_reach : (ls : List Label) (j : ℕ) (cs : Clauses) → reach (long_code heap c ls j cs) ≤ first_scratch c.within + 2 + clauses_height cs
    long_reach ls n no_clauses = omega arith
    long_reach ls n (clauses v ss cs) =
        let first = stmts_reach (plainly ∷ breakable ∷ ls) ss in
        let further = long_reach ls (suc n) cs in
        let joined = reach_joins (stmts_code heap c (plainly ∷ breakable ∷ ls) ss) (all_further (number_local heap c)) in
        omega (arith, first, further, joined)

  -- ---- functions

  last_reach : (s : Stmt) → reach (last_code heap c s) ≤ first_scratch c.within + (stmt_heights s).height + 1
  last_reach (returns (Some e)) = omega (arith, value_reach heap c true 0 e)
  last_reach s = omega (arith, stmt_reach [] [] s, body_within s)

  body_reach : (ss : Stmts) → reach (body_code heap c ss) ≤ first_scratch c.within + stmts_height ss + 1
  body_reach no_stmts = omega arith
  body_reach (stmts s no_stmts) = omega (arith, last_reach s)
  body_reach (stmts s (stmts r rs)) =
      let further = body_reach (stmts r rs) in
      omega (arith, stmt_reach [] [] s, body_within s, further, reach_joins (stmt_code heap c [] [] s) (body_code heap c (stmts r rs)))

  value_set : (i word : ℕ) → reach (plains (first_value heap c i word)) ≤ i + 1
  value_set i word = by (word == 0)
    where
      by : (b : Bool) → reach (plains (if b then [] else number word ∷ local_set i ∷ [])) ≤ i + 1
      by true = omega arith
      by false = omega arith

  locals_reach : (i : ℕ) (vs : List Variable) → reach (locals_code heap c i vs) ≤ i + length vs
  locals_reach i [] = omega arith
  locals_reach i (v ∷ vs) =
      let word = literal_word heap c v.init in
      let further = locals_reach (suc i) vs in
      omega (arith, further, value_set i word, reach_joins (plains (first_value heap c i word)) (locals_code heap c (suc i) vs))

pub statements_reach : StatementsReach
statements_reach heap c ls own s = omega (arith, stmt_reach heap c ls own s, body_within s)

pub functions_reach : FunctionsReach
functions_reach heap c =
    let locals = locals_reach heap c (length c.within.params) c.within.locals in
    let body = body_reach heap c c.within.body in
    omega (arith, locals, body, reach_joins (locals_code heap c (length c.within.params) c.within.locals) (body_code heap c c.within.body))
