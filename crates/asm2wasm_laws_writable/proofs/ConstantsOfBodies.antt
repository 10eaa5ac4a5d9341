-- Constants of the code of statements and functions are words, where no switch has many clauses.
use Rattle.std.proofs.Common.{ℕ, suc, ◌+◌, ◌^◌, ◌<◌, ◌≤◌, true, false, List, [], ◌∷◌, ◌++◌, length, Option, Some, None, arith}
use Rattle.std.specs.Prelude.{if◌then◌else◌, ◌==◌, replicate}
use Rattle.sem_words.proofs.WordLaws.{word_of-IsWord}
use Rattle.wasm_lang.specs.Instructions.{eqz32, local_set}
use Rattle.wasm_lang_exec.specs.Code.{Trees, ε, ◌▹◌, ◌⊕◌, block, if_block, br, br_if, return}
use Rattle.asm_lang.specs.Trees.{Init, number as an_int, decimal, foreign_int, foreign_double, member, math, view}
use Rattle.asm_lang.specs.Modules as text
use Rattle.asm_lang.specs.Modules.{Expr, Stmt, if_only, if_else, returns, while_loop, do_while, for_loop, breaks, continues, labelled, switches, empty, Stmts, no_stmts, stmts, Clauses, no_clauses, clauses, Variable}
use Rattle.asm_lang_valid.specs.Typing.{Scope, values}
use Rattle.asm_lang_exec.specs.Meaning.{before_default}
use Rattle.asm2wasm_translation.specs.Numbers.{base_of}
use Rattle.asm2wasm_translation.specs.Values.{number, plains, one, expr_code}
use Rattle.asm2wasm_translation.specs.Bodies.{Label, plainly, breakable, named_end, again, loop_code, do_code, clauses_count, is_short, is_dense, low, table_branch, case_branches, dispatch, case_numbers, first_clause, all_further, part_code, test_code, value_local, number_local, stmt_code, stmts_code, short_code, long_code, literal_word, first_value, locals_code, last_code, body_code, function_code, in_body}
use Rattle.asm2wasm_laws_writable.specs.Parts.{HasFewClauses, HaveFewClauses, EachHasFewClauses}
use Rattle.asm2wasm_laws_writable.proofs.ConstantsOfValues.{Fit, joined, either_fit, plains_or_none, value_fit}

-- ---- switches

default_low : (cs : Clauses) → before_default cs ≤ clauses_count cs
default_low no_clauses = omega arith
default_low (clauses None ss cs) = omega arith
default_low (clauses (Some v) ss cs) = omega (arith, default_low cs)

branches_fit : (t i : ℕ) (cs : Clauses) → Fit (case_branches t i cs)
branches_fit t i no_clauses = tt
branches_fit t i (clauses None ss cs) = branches_fit t (suc i) cs
branches_fit t i (clauses (Some v) ss cs) = (tt, (word_of-IsWord 32 v, (tt, (tt, branches_fit t (suc i) cs))))

numbers_fit : (t k i : ℕ) (cs : Clauses) → i + clauses_count cs < 2 ^ 32 → Fit (case_numbers t k i cs)
numbers_fit t k i no_clauses few = tt
numbers_fit t k i (clauses None ss cs) few = numbers_fit t k (suc i) cs (omega (arith, few))
numbers_fit t k i (clauses (Some v) ss cs) few =
    (omega (arith, few), (tt, (tt, (word_of-IsWord 32 v, (tt, (tt, numbers_fit t k (suc i) cs (omega (arith, few))))))))

dispatch_fit : (t : ℕ) (cs : Clauses) → Fit (dispatch t cs)
dispatch_fit t cs =
    let branches = joined (case_branches t 0 cs) (br (before_default cs) ▹ ε) (branches_fit t 0 cs) (tt, tt) in
    either_fit (is_dense (values cs)) (table_branch t cs) _ (tt, (word_of-IsWord 32 (low (values cs)), (tt, (tt, tt)))) branches

first_fit : (t k : ℕ) (cs : Clauses) → clauses_count cs < 2 ^ 32 → Fit (first_clause t k cs)
first_fit t k cs few =
    let last = plains (number (before_default cs) ∷ local_set k ∷ []) in
    let default = default_low cs in
    (tt, joined (case_numbers t k 0 cs) last (numbers_fit t k 0 cs (omega (arith, few))) (omega (arith, few, default), (tt, tt)), tt)

-- ---- loops

loop_fit : (test body step : Trees) → Fit test → Fit body → Fit step → Fit (loop_code test body step)
loop_fit test body step h i j =
    let turn = joined step again j (tt, tt) in
    (tt, (tt, joined test (block None body ▹ (step ⊕ again)) h (tt, i, turn), tt), tt)

do_fit : (body test : Trees) → Fit body → Fit test → Fit (do_code body test)
do_fit body test h i = (tt, (tt, (tt, h, joined test (br_if 0 ▹ ε) i (tt, tt)), tt), tt)

-- ---- statements

module _ (heap : ℕ) (c : Scope) (short : heap < 2 ^ 32) (bases : (n : List ℕ) → base_of c.home n < 2 ^ 32) where
  expr_fit : (e : Expr) → Fit (expr_code heap c true 0 e)
  expr_fit e = value_fit heap c short bases true 0 e

  effect_fit : (e : Expr) → Fit (expr_code heap c false 0 e)
  effect_fit e = value_fit heap c short bases false 0 e

  part_fit : (o : Option Expr) → Fit (part_code heap c o)
  part_fit None = tt
  part_fit (Some e) = effect_fit e

  test_fit : (o : Option Expr) → Fit (test_code heap c o)
  test_fit None = tt
  test_fit (Some e) = joined (expr_code heap c true 0 e) (one eqz32 ⊕ (br_if 1 ▹ ε)) (expr_fit e) (tt, (tt, tt))

  mutual
    stmt_fit : (ls : List Label) (own : List (List ℕ)) (s : Stmt) → HasFewClauses s → Fit (stmt_code heap c ls own s)
    stmt_fit ls own (text.block ss) few = stmts_fit ls ss few
    stmt_fit ls own (text.plain e) few = effect_fit e
    stmt_fit ls own empty few = tt
    stmt_fit ls own (if_only e s) few =
        joined (expr_code heap c true 0 e) (if_block None (stmt_code heap c (plainly ∷ ls) [] s) ε ▹ ε) (expr_fit e) (tt, stmt_fit (plainly ∷ ls) [] s few, tt, tt)
    stmt_fit ls own (if_else e s r) few =
        joined (expr_code heap c true 0 e) (if_block None (stmt_code heap c (plainly ∷ ls) [] s) (stmt_code heap c (plainly ∷ ls) [] r) ▹ ε) (expr_fit e)
        (tt, stmt_fit (plainly ∷ ls) [] s few.0, stmt_fit (plainly ∷ ls) [] r few.1, tt)
    stmt_fit ls own (returns None) few = (tt, tt)
    stmt_fit ls own (returns (Some e)) few = joined (expr_code heap c true 0 e) (return ▹ ε) (expr_fit e) (tt, tt)
    stmt_fit ls own (while_loop e s) few =
        loop_fit (test_code heap c (Some e)) (stmt_code heap c (in_body own ls) [] s) ε (test_fit (Some e)) (stmt_fit (in_body own ls) [] s few) tt
    stmt_fit ls own (do_while s e) few = do_fit (stmt_code heap c (in_body own ls) [] s) (expr_code heap c true 0 e) (stmt_fit (in_body own ls) [] s few) (expr_fit e)
    stmt_fit ls own (for_loop x y z s) few =
        let turns = loop_code (test_code heap c y) (stmt_code heap c (in_body own ls) [] s) (part_code heap c z) in
        let all = loop_fit (test_code heap c y) (stmt_code heap c (in_body own ls) [] s) (part_code heap c z) (test_fit y) (stmt_fit (in_body own ls) [] s few) (part_fit z) in
        joined (part_code heap c x) turns (part_fit x) all
    stmt_fit ls own (breaks n) few = (tt, tt)
    stmt_fit ls own (continues n) few = (tt, tt)
    stmt_fit ls own (labelled ns s) few = (tt, stmt_fit (named_end ns ∷ ls) ns s few, tt)
    stmt_fit ls own (switches e cs) few =
        let t = value_local heap c in
        let k = number_local heap c in
        let count = few.0 in
        let brief = block None (short_code heap c ls (dispatch t cs) cs) ▹ ε in
        let many = first_clause t k cs ⊕ (block None (long_code heap c ls 0 cs) ▹ ε) in
        let is_brief : Fit brief = (tt, short_fit ls (dispatch t cs) cs few.1 (dispatch_fit t cs), tt) in
        let is_many =
        joined (first_clause t k cs) (block None (long_code heap c ls 0 cs) ▹ ε) (first_fit t k cs (omega (arith, count))) (tt, long_fit ls 0 cs (omega (arith, count)) few.1, tt)
        in
        joined (expr_code heap c true 0 e) (one (local_set t) ⊕ (if is_short cs then brief else many)) (expr_fit e) (tt, either_fit (is_short cs) brief many is_brief is_many)

    stmts_fit : (ls : List Label) (ss : Stmts) → HaveFewClauses ss → Fit (stmts_code heap c ls ss)
    stmts_fit ls no_stmts few = tt
    stmts_fit ls (stmts s ss) few = joined (stmt_code heap c ls [] s) (stmts_code heap c ls ss) (stmt_fit ls [] s few.0) (stmts_fit ls ss few.1)

    short_fit : (ls : List Label) (inside : Trees) (cs : Clauses) → EachHasFewClauses cs → Fit inside → Fit (short_code heap c ls inside cs)
    short_fit ls inside no_clauses few h = h
    short_fit ls inside (clauses v ss cs) few h =
        let under = replicate (clauses_count cs) plainly ++ breakable ∷ ls in
        short_fit ls (block None inside ▹ stmts_code heap c under ss) cs few.1 (tt, h, stmts_fit under ss few.0)

    long_fit : (ls : List Label) (j : ℕ) (cs : Clauses) → j + clauses_count cs < 2 ^ 32 → EachHasFewClauses cs → Fit (long_code heap c ls j cs)
    long_fit ls j no_clauses low few = tt
    long_fit ls j (clauses v ss cs) low few =
        let k = number_local heap c in
        let clause = joined (stmts_code heap c (plainly ∷ breakable ∷ ls) ss) (all_further k) (stmts_fit (plainly ∷ breakable ∷ ls) ss few.0) (omega arith, (tt, tt)) in
        (tt, (omega (arith, low), (tt, (tt, clause, tt, long_fit ls (suc j) cs (omega (arith, low)) few.1))))

  -- ---- functions

  last_fit : (s : Stmt) → HasFewClauses s → Fit (last_code heap c s)
  last_fit (returns (Some e)) few = expr_fit e
  last_fit s few = stmt_fit [] [] s few

  statements_fit : (ss : Stmts) → HaveFewClauses ss → Fit (body_code heap c ss)
  statements_fit no_stmts few = tt
  statements_fit (stmts s no_stmts) few = last_fit s few.0
  statements_fit (stmts s (stmts r rs)) few =
      joined (stmt_code heap c [] [] s) (body_code heap c (stmts r rs)) (stmt_fit [] [] s few.0) (statements_fit (stmts r rs) few.1)

  literal_low : (i : Init) → literal_word heap c i < 2 ^ 32
  literal_low (an_int z) = word_of-IsWord 32 z
  literal_low (decimal bs) = omega arith
  literal_low (foreign_int f p) = omega arith
  literal_low (foreign_double f p) = omega arith
  literal_low (member f p) = omega arith
  literal_low (math f p) = omega arith
  literal_low (view f p h) = omega arith

  locals_fit : (i : ℕ) (vs : List Variable) → Fit (locals_code heap c i vs)
  locals_fit i [] = tt
  locals_fit i (v ∷ vs) =
      let word = literal_word heap c v.init in
      joined (plains (first_value heap c i word)) (locals_code heap c (suc i) vs) (plains_or_none (word == 0) (number word ∷ local_set i ∷ []) (literal_low v.init, (tt, tt))) (locals_fit (suc i) vs)

  pub function_fit : HaveFewClauses c.within.body → Fit (function_code heap c)
  function_fit few =
      let i = length c.within.params in
      joined (locals_code heap c i c.within.locals) (body_code heap c c.within.body) (locals_fit i c.within.locals) (statements_fit c.within.body few)
