-- How many instructions the code of statements and functions has.
use Rattle.std.proofs.Common.{◌≡◌, ℕ, zero, suc, ◌+◌, ◌*◌, ◌≤◌, Bool, true, false, List, [], ◌∷◌, ◌++◌, length, Option, Some, None, ℤ, pos, refl, arith}
use Rattle.std.specs.Prelude.{if◌then◌else◌, ◌==◌, nat_le, nat_lt, ◌+ℤ◌, replicate}
use Rattle.std.proofs.lemmas.Bool.{and_parts}
use Rattle.std.proofs.lemmas.Bool.Decides.{nat_tests}
use Rattle.wasm_lang.specs.Instructions.{eqz32, local_set}
use Rattle.wasm_lang_exec.specs.Code.{Trees, ε, ◌▹◌, ◌⊕◌, block, if_block, br, br_if, return}
use Rattle.wasm_laws_trees.specs.Spelled.{size}
use Rattle.wasm_laws_trees.proofs.Joined.{sizes_add}
use Rattle.asm_lang.specs.Modules as text
use Rattle.asm_lang.specs.Modules.{Expr, Stmt, if_only, if_else, returns, while_loop, do_while, for_loop, breaks, continues, labelled, switches, empty, Stmts, no_stmts, stmts, Clauses, no_clauses, clauses, Variable}
use Rattle.asm_lang_valid.specs.Rows.{option_count, stmt_count, stmts_count, clauses_count}
use Rattle.asm_lang_valid.specs.Typing.{Scope, values}
use Rattle.asm_lang_exec.specs.Meaning.{before_default}
use Rattle.asm2wasm_lang.specs.Counts.{stmt_clauses, body_clauses, switch_clauses}
use Rattle.asm2wasm_translation.specs.Values.{number, plains, one, expr_code}
use Rattle.asm2wasm_translation.specs.Bodies as code
use Rattle.asm2wasm_translation.specs.Bodies.{Label, plainly, breakable, named_end, again, loop_code, do_code, is_short, is_dense, low, span, targets, case_branches, table_branch, dispatch, case_numbers, first_clause, all_further, part_code, test_code, value_local, number_local, stmt_code, stmts_code, short_code, long_code, literal_word, first_value, locals_code, last_code, body_code, in_body}
use Rattle.asm2wasm_laws_typed.specs.Laws.{StatementsAreSmall, FunctionsAreSmall}
use Rattle.asm2wasm_laws_typed.proofs.SmallValues.{value_small, else_small, either_small}

-- ---- switches

values_fewer : (cs : Clauses) → length (values cs) ≤ code.clauses_count cs
values_fewer no_clauses = omega arith
values_fewer (clauses None ss cs) = let h = values_fewer cs in omega (arith, h)
values_fewer (clauses (Some v) ss cs) = let h = values_fewer cs in omega (arith, h)

targets_length : (n : ℕ) (z : ℤ) (cs : Clauses) → length (targets n z cs) ≡ n
targets_length zero z cs = omega arith
targets_length (suc n) z cs = let h = targets_length n (z +ℤ pos 1) cs in omega (arith, h)

branches_small : (t i : ℕ) (cs : Clauses) → size (case_branches t i cs) ≤ 4 * code.clauses_count cs
branches_small t i no_clauses = omega arith
branches_small t i (clauses None ss cs) = let h = branches_small t (suc i) cs in omega (arith, h)
branches_small t i (clauses (Some v) ss cs) = let h = branches_small t (suc i) cs in omega (arith, h)

numbers_small : (t k i : ℕ) (cs : Clauses) → size (case_numbers t k i cs) ≤ 6 * code.clauses_count cs
numbers_small t k i no_clauses = omega arith
numbers_small t k i (clauses None ss cs) = let h = numbers_small t k (suc i) cs in omega (arith, h)
numbers_small t k i (clauses (Some v) ss cs) = let h = numbers_small t k (suc i) cs in omega (arith, h)

close_together : (vs : List ℤ) → is_dense vs ≡ true → span vs + 5 ≤ 4 * length vs
close_together vs h =
    let parts = and_parts (nat_le 4 (length vs)) (nat_lt (span vs) (3 * length vs)) h in
    let many = parts.0 in
    let close = parts.1 in
    grind (arith, nat_tests, many, close)

dispatch_small : (t : ℕ) (cs : Clauses) → size (dispatch t cs) ≤ 1 + 4 * code.clauses_count cs
dispatch_small t cs = by (is_dense (values cs)) refl
  where
    by : (b : Bool) → is_dense (values cs) ≡ b → size (if b then table_branch t cs else case_branches t 0 cs ⊕ (br (before_default cs) ▹ ε)) ≤ 1 + 4 * code.clauses_count cs
    by true h = omega (arith, close_together (values cs) h, values_fewer cs, targets_length (suc (span (values cs))) (low (values cs)) cs)
    by false h = omega (arith, branches_small t 0 cs, sizes_add (case_branches t 0 cs) (br (before_default cs) ▹ ε))

first_small : (t k : ℕ) (cs : Clauses) → size (first_clause t k cs) ≤ 4 + 6 * code.clauses_count cs
first_small t k cs = omega (arith, numbers_small t k 0 cs, sizes_add (case_numbers t k 0 cs) (plains (number (before_default cs) ∷ local_set k ∷ [])))

-- ---- loops

loop_small : (test body step : Trees) → size (loop_code test body step) ≤ 7 + (size test + (size body + size step))
loop_small test body step = omega (arith, sizes_add test (block None body ▹ (step ⊕ again)), sizes_add step again)

do_small : (body test : Trees) → size (do_code body test) ≤ 7 + (size body + size test)
do_small body test = omega (arith, sizes_add test (br_if 0 ▹ ε))

-- ---- statements

module _ (heap : ℕ) (c : Scope) where
  part_small : (o : Option Expr) → size (part_code heap c o) ≤ 14 * option_count o
  part_small None = omega arith
  part_small (Some e) = let h = value_small heap c false 0 e in omega (arith, h)

  test_small : (o : Option Expr) → size (test_code heap c o) ≤ 14 * option_count o
  test_small None = omega arith
  test_small (Some e) = let h = value_small heap c true 0 e in omega (arith, h, sizes_add (expr_code heap c true 0 e) (one eqz32 ⊕ (br_if 1 ▹ ε)))

  mutual
    pub stmt_small : (ls : List Label) (own : List (List ℕ)) (s : Stmt) → size (stmt_code heap c ls own s) ≤ 14 * (stmt_count s + stmt_clauses s)
    stmt_small ls own (text.block ss) = let h = stmts_small ls ss in omega (arith, h)
    stmt_small ls own (text.plain e) = let h = value_small heap c false 0 e in omega (arith, h)
    stmt_small ls own empty = omega arith
    stmt_small ls own (if_only e s) =
        let first = value_small heap c true 0 e in
        let second = stmt_small (plainly ∷ ls) [] s in
        let joined = sizes_add (expr_code heap c true 0 e) (if_block None (stmt_code heap c (plainly ∷ ls) [] s) ε ▹ ε) in
        omega (arith, first, second, joined)
    stmt_small ls own (if_else e s r) =
        let first = value_small heap c true 0 e in
        let second = stmt_small (plainly ∷ ls) [] s in
        let third = stmt_small (plainly ∷ ls) [] r in
        let other = stmt_code heap c (plainly ∷ ls) [] r in
        let joined = sizes_add (expr_code heap c true 0 e) (if_block None (stmt_code heap c (plainly ∷ ls) [] s) other ▹ ε) in
        omega (arith, first, second, third, joined, else_small other)
    stmt_small ls own (returns None) = omega arith
    stmt_small ls own (returns (Some e)) = let h = value_small heap c true 0 e in omega (arith, h, sizes_add (expr_code heap c true 0 e) (return ▹ ε))
    stmt_small ls own (while_loop e s) =
        let body = stmt_small (in_body own ls) [] s in
        omega (arith, body, test_small (Some e), loop_small (test_code heap c (Some e)) (stmt_code heap c (in_body own ls) [] s) ε)
    stmt_small ls own (do_while s e) =
        let body = stmt_small (in_body own ls) [] s in
        let test = value_small heap c true 0 e in
        omega (arith, body, test, do_small (stmt_code heap c (in_body own ls) [] s) (expr_code heap c true 0 e))
    stmt_small ls own (for_loop x y z s) =
        let body = stmt_small (in_body own ls) [] s in
        let turns = loop_code (test_code heap c y) (stmt_code heap c (in_body own ls) [] s) (part_code heap c z) in
        let all = loop_small (test_code heap c y) (stmt_code heap c (in_body own ls) [] s) (part_code heap c z) in
        let joined = sizes_add (part_code heap c x) turns in
        omega (arith, body, all, joined, part_small x, test_small y, part_small z)
    stmt_small ls own (breaks n) = omega arith
    stmt_small ls own (continues n) = omega arith
    stmt_small ls own (labelled ns s) = let h = stmt_small (named_end ns ∷ ls) ns s in omega (arith, h)
    stmt_small ls own (switches e cs) =
        let t = value_local heap c in
        let k = number_local heap c in
        let first = value_small heap c true 0 e in
        let few = block None (short_code heap c ls (dispatch t cs) cs) ▹ ε in
        let many = first_clause t k cs ⊕ (block None (long_code heap c ls 0 cs) ▹ ε) in
        let short = short_small ls (dispatch t cs) cs in
        let long = long_small ls 0 cs in
        let joined = sizes_add (expr_code heap c true 0 e) (one (local_set t) ⊕ (if is_short cs then few else many)) in
        let further = sizes_add (first_clause t k cs) (block None (long_code heap c ls 0 cs) ▹ ε) in
        let is_few : size few + 0 ≤ 6 + 14 * (clauses_count cs + switch_clauses cs) = omega (arith, short, dispatch_small t cs) in
        let is_many : size many + 0 ≤ 6 + 14 * (clauses_count cs + switch_clauses cs) = omega (arith, long, first_small t k cs, further) in
        let either = either_small (is_short cs) few many (6 + 14 * (clauses_count cs + switch_clauses cs)) 0 is_few is_many in
        omega (arith, first, joined, either)

    pub stmts_small : (ls : List Label) (ss : Stmts) → size (stmts_code heap c ls ss) ≤ 14 * (stmts_count ss + body_clauses ss)
    stmts_small ls no_stmts = omega arith
    stmts_small ls (stmts s ss) =
        let first = stmt_small ls [] s in
        let second = stmts_small ls ss in
        omega (arith, first, second, sizes_add (stmt_code heap c ls [] s) (stmts_code heap c ls ss))

    short_small : (ls : List Label) (inside : Trees) (cs : Clauses)
        → size (short_code heap c ls inside cs) + 12 * code.clauses_count cs ≤ size inside + 14 * (clauses_count cs + switch_clauses cs)
    short_small ls inside no_clauses = omega arith
    short_small ls inside (clauses v ss cs) =
        let under = replicate (code.clauses_count cs) plainly ++ breakable ∷ ls in
        let first = stmts_small under ss in
        let further = short_small ls (block None inside ▹ stmts_code heap c under ss) cs in
        omega (arith, first, further)

    long_small : (ls : List Label) (j : ℕ) (cs : Clauses) → size (long_code heap c ls j cs) + 7 * code.clauses_count cs ≤ 14 * (clauses_count cs + switch_clauses cs)
    long_small ls j no_clauses = omega arith
    long_small ls j (clauses v ss cs) =
        let first = stmts_small (plainly ∷ breakable ∷ ls) ss in
        let further = long_small ls (suc j) cs in
        let joined = sizes_add (stmts_code heap c (plainly ∷ breakable ∷ ls) ss) (all_further (number_local heap c)) in
        omega (arith, first, further, joined)

  -- ---- functions

  last_small : (s : Stmt) → size (last_code heap c s) ≤ 14 * (stmt_count s + stmt_clauses s)
  last_small (returns (Some e)) = let h = value_small heap c true 0 e in omega (arith, h)
  last_small s = stmt_small [] [] s

  body_small : (ss : Stmts) → size (body_code heap c ss) ≤ 14 * (stmts_count ss + body_clauses ss)
  body_small no_stmts = omega arith
  body_small (stmts s no_stmts) = let h = last_small s in omega (arith, h)
  body_small (stmts s (stmts r rs)) =
      let first = stmt_small [] [] s in
      let further = body_small (stmts r rs) in
      omega (arith, first, further, sizes_add (stmt_code heap c [] [] s) (body_code heap c (stmts r rs)))

  value_set : (i word : ℕ) → size (plains (first_value heap c i word)) ≤ 2
  value_set i word = by (word == 0)
    where
      by : (b : Bool) → size (plains (if b then [] else number word ∷ local_set i ∷ [])) ≤ 2
      by true = omega arith
      by false = omega arith

  locals_small : (i : ℕ) (vs : List Variable) → size (locals_code heap c i vs) ≤ 14 * length vs
  locals_small i [] = omega arith
  locals_small i (v ∷ vs) =
      let word = literal_word heap c v.init in
      let further = locals_small (suc i) vs in
      omega (arith, further, value_set i word, sizes_add (plains (first_value heap c i word)) (locals_code heap c (suc i) vs))

pub statements_are_small : StatementsAreSmall
statements_are_small = stmt_small

pub functions_are_small : FunctionsAreSmall
functions_are_small heap c =
    let locals = locals_small heap c (length c.within.params) c.within.locals in
    let body = body_small heap c c.within.body in
    omega (arith, locals, body, sizes_add (locals_code heap c (length c.within.params) c.within.locals) (body_code heap c c.within.body))
