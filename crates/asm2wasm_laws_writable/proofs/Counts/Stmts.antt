-- A statement has at most twice as many nodes and clauses as tokens: twice, since an expression may be a statement with no `;`.
use Rattle.std.proofs.Common.{◌≡◌, ℕ, ◌+◌, ◌*◌, ◌≤◌, Bool, List, [], length, Option, refl, arith, length-append}
use Rattle.asm_lang.specs.Lexemes.{Lexeme}
use Rattle.asm_lang.specs.Trees.{ExprTree, StmtTree, labelled, StmtTrees, ClauseTrees, Init}
use Rattle.asm_lang.specs.Grammar.{IsEnd, written, missing, IsDoEnd, do_written, do_missing, under, IsOption, absent, present, IsReturned, no_value, a_value, IsTarget, no_label, a_label, IsLiteral, positive, negative, positive_decimal, negative_decimal, IsStmt, a_block, a_plain, an_empty, an_if_only, an_if_else, a_return, a_while, a_do, a_for, a_break, a_continue, a_labelled, a_switch, IsStmts, no_stmts, more_stmts, IsClauses, no_clauses, a_case, a_default}
use Rattle.asm_lang.specs.Modules.{stmt_of, stmts_of, clauses_of, expr_places, option_places, stmt_places, stmts_places, clauses_places}
use Rattle.asm2wasm_lang.specs.Counts.{stmt_clauses, body_clauses, switch_clauses}
use Rattle.asm2wasm_laws_writable.proofs.Counts.Exprs.{taken, length_of_three, length_of_four, expr_size}

pub end_passed : {xs ys : List Lexeme} → IsEnd xs ys → length ys ≤ length xs
end_passed (written i) = omega (arith, taken i)
end_passed (missing h) = omega arith

do_end_passed : {xs ys : List Lexeme} → IsDoEnd xs ys → length ys ≤ length xs
do_end_passed (do_written i) = omega (arith, taken i)
do_end_passed (do_missing h) = omega arith

pub literal_passed : {d : Bool} {i : Init} {xs ys : List Lexeme} → IsLiteral d i xs ys → length ys ≤ length xs
literal_passed (positive i) = omega (arith, taken i)
literal_passed (negative i j) = omega (arith, taken i, taken j)
literal_passed (positive_decimal i) = omega (arith, taken i)
literal_passed (negative_decimal i j) = omega (arith, taken i, taken j)

target_passed : {l : Option (List ℕ)} {xs ys : List Lexeme} → IsTarget l xs ys → length ys ≤ length xs
target_passed (no_label e) = end_passed e
target_passed (a_label h i e) = omega (arith, taken i, end_passed e)

option_size : {o : Option ExprTree} {xs ys : List Lexeme} → IsOption o xs ys → length (option_places o) + length ys ≤ length xs
option_size absent = omega arith
option_size (present x) = expr_size x

returned_size : {o : Option ExprTree} {xs ys : List Lexeme} → IsReturned o xs ys → length (option_places o) + length ys ≤ length xs
returned_size (no_value e) = omega (arith, end_passed e)
returned_size (a_value h x e) = omega (arith, expr_size x, end_passed e)

under_size : (n : Lexeme) (s : StmtTree) → length (stmt_places (under n s)) ≤ length (stmt_places s) + 1
under_size n (labelled at ls s) = omega arith
under_size n _ = omega arith

under_clauses : (n : Lexeme) (s : StmtTree) → stmt_clauses (stmt_of (under n s)) ≡ stmt_clauses (stmt_of s)
under_clauses n (labelled at ls s) = refl
under_clauses n _ = refl

mutual
  pub stmt_size : {s : StmtTree} {xs ys : List Lexeme} → IsStmt s xs ys → length (stmt_places s) + stmt_clauses (stmt_of s) + 2 * length ys ≤ 2 * length xs
  stmt_size (a_block i ss j) = omega (arith, taken i, stmts_size ss, taken j)
  stmt_size (a_plain x e) = omega (arith, expr_size x, end_passed e)
  stmt_size (an_empty i) = omega (arith, taken i)
  stmt_size (an_if_only {c = c} {s = r} i j x k s n) = omega (arith, length-append (expr_places c) (stmt_places r), taken i, taken j, expr_size x, taken k, stmt_size s)
  stmt_size (an_if_else {c = c} {s = a} {r = b} i j x k s l r) = omega (arith, length_of_three (expr_places c) (stmt_places a) (stmt_places b), taken i, taken j, expr_size x, taken k, stmt_size s, taken l, stmt_size r)
  stmt_size (a_return i o) = omega (arith, taken i, returned_size o)
  stmt_size (a_while {c = c} {s = r} i j x k s) = omega (arith, length-append (expr_places c) (stmt_places r), taken i, taken j, expr_size x, taken k, stmt_size s)
  stmt_size (a_do {c = c} {s = r} i s j k x l e) = omega (arith, length-append (stmt_places r) (expr_places c), taken i, stmt_size s, taken j, taken k, expr_size x, taken l, do_end_passed e)
  stmt_size (a_for {a = o} {b = p} {c = q} {s = r} i j a k b l c n s) = omega (arith, length_of_four (option_places o) (option_places p) (option_places q) (stmt_places r), taken i, taken j, option_size a, taken k, option_size b, taken l, option_size c, taken n, stmt_size s)
  stmt_size (a_break i l) = omega (arith, taken i, target_passed l)
  stmt_size (a_continue i l) = omega (arith, taken i, target_passed l)
  stmt_size (a_labelled {n = n} {s = s} i j x) = omega (arith, under_size n s, under_clauses n s, taken i, taken j, stmt_size x)
  stmt_size (a_switch {e = e} {cs = ds} i j x k l cs n) = omega (arith, length-append (expr_places e) (clauses_places ds), taken i, taken j, expr_size x, taken k, taken l, clauses_size cs, taken n)

  pub stmts_size : {ss : StmtTrees} {xs ys : List Lexeme} → IsStmts ss xs ys → length (stmts_places ss) + body_clauses (stmts_of ss) + 2 * length ys ≤ 2 * length xs
  stmts_size no_stmts = omega arith
  stmts_size (more_stmts {s = r} {ss = rs} s ss) = omega (arith, length-append (stmt_places r) (stmts_places rs), stmt_size s, stmts_size ss)

  clauses_size : {cs : ClauseTrees} {xs ys : List Lexeme} → IsClauses cs xs ys → length (clauses_places cs) + switch_clauses (clauses_of cs) + 2 * length ys ≤ 2 * length xs
  clauses_size no_clauses = omega arith
  clauses_size (a_case {ss = rs} {cs = ds} i v j ss cs) = omega (arith, length-append (stmts_places rs) (clauses_places ds), taken i, literal_passed v, taken j, stmts_size ss, clauses_size cs)
  clauses_size (a_default {ss = rs} i j ss) = omega (arith, length-append (stmts_places rs) [], taken i, taken j, stmts_size ss)
