-- How many bytes the tokens have together, and that no expression and no statement adds to those that are left.
use Rattle.std.proofs.Common.{◌≡◌, ℕ, ◌+◌, ◌≤◌, Bool, List, [], ◌∷◌, length, Option, refl, arith}
use Rattle.asm_lang.specs.Lexemes.{Lexeme, Want, Is, here}
use Rattle.asm_lang.specs.Trees.{ExprTree, ExprTrees, StmtTree, StmtTrees, ClauseTrees}
use Rattle.asm_lang.specs.Grammar.{IsExpr, an_operand, a_binary, a_conditional, an_assignment, a_store, a_list, IsOperand, a_literal, a_negative, a_decimal_literal, a_variable, an_element, a_call, a_table_call, in_parens, a_prefix, a_minus, IsIndex, an_index, IsArguments, no_argument, arguments, IsRest, no_further, a_further, IsEnd, written, missing, IsDoEnd, do_written, do_missing, IsOption, absent, present, IsReturned, no_value, a_value, IsTarget, no_label, a_label, IsStmt, a_block, a_plain, an_empty, an_if_only, an_if_else, a_return, a_while, a_do, a_for, a_break, a_continue, a_labelled, a_switch, IsStmts, no_stmts, more_stmts, IsClauses, no_clauses, a_case, a_default, IsLiteral, positive, negative, positive_decimal, negative_decimal}
use Rattle.asm_lang.specs.Trees.{Init, foreign_int}

abbrev pub weight : List Lexeme → ℕ
weight [] = 0
weight (t ∷ ts) = length t.text + weight ts

pub taken : {w : Want} {t : Lexeme} {xs ys : List Lexeme} → Is w t xs ys → weight xs ≡ length t.text + weight ys
taken (here h) = refl

-- the length of the member, where it is imported as an int
abbrev pub import_size : Init → ℕ
import_size (foreign_int f p) = length p
import_size _ = 0

-- ---- expressions

mutual
  pub expr_past : {p : ℕ} {e : ExprTree} {xs ys : List Lexeme} → IsExpr p e xs ys → weight ys ≤ weight xs
  expr_past (an_operand x) = operand_past x
  expr_past (a_binary le x i y) = omega (arith, expr_past x, taken i, expr_past y)
  expr_past (a_conditional le x i y j z) = omega (arith, expr_past x, taken i, expr_past y, taken j, expr_past z)
  expr_past (an_assignment le i j x) = omega (arith, taken i, taken j, expr_past x)
  expr_past (a_store le i x j y) = omega (arith, taken i, index_past x, taken j, expr_past y)
  expr_past (a_list le x i y z) = omega (arith, expr_past x, taken i, expr_past y, rest_past z)

  operand_past : {e : ExprTree} {xs ys : List Lexeme} → IsOperand e xs ys → weight ys ≤ weight xs
  operand_past (a_literal i) = omega (arith, taken i)
  operand_past (a_negative i j) = omega (arith, taken i, taken j)
  operand_past (a_decimal_literal i) = omega (arith, taken i)
  operand_past (a_variable i) = omega (arith, taken i)
  operand_past (an_element i x) = omega (arith, taken i, index_past x)
  operand_past (a_call i j x) = omega (arith, taken i, taken j, arguments_past x)
  operand_past (a_table_call i x j y) = omega (arith, taken i, index_past x, taken j, arguments_past y)
  operand_past (in_parens i x j) = omega (arith, taken i, expr_past x, taken j)
  operand_past (a_prefix q i x) = omega (arith, taken i, expr_past x)
  operand_past (a_minus i h x) = omega (arith, taken i, expr_past x)

  index_past : {e : ExprTree} {xs ys : List Lexeme} → IsIndex e xs ys → weight ys ≤ weight xs
  index_past (an_index i x j) = omega (arith, taken i, expr_past x, taken j)

  arguments_past : {es : ExprTrees} {xs ys : List Lexeme} → IsArguments es xs ys → weight ys ≤ weight xs
  arguments_past (no_argument i) = omega (arith, taken i)
  arguments_past (arguments x y i) = omega (arith, expr_past x, rest_past y, taken i)

  rest_past : {es : ExprTrees} {xs ys : List Lexeme} → IsRest es xs ys → weight ys ≤ weight xs
  rest_past no_further = omega arith
  rest_past (a_further i x y) = omega (arith, taken i, expr_past x, rest_past y)

-- ---- statements

pub end_past : {xs ys : List Lexeme} → IsEnd xs ys → weight ys ≤ weight xs
end_past (written i) = omega (arith, taken i)
end_past (missing h) = omega arith

do_end_past : {xs ys : List Lexeme} → IsDoEnd xs ys → weight ys ≤ weight xs
do_end_past (do_written i) = omega (arith, taken i)
do_end_past (do_missing h) = omega arith

pub literal_taken : {d : Bool} {i : Init} {xs ys : List Lexeme} → IsLiteral d i xs ys → import_size i + weight ys ≤ weight xs
literal_taken (positive i) = omega (arith, taken i)
literal_taken (negative i j) = omega (arith, taken i, taken j)
literal_taken (positive_decimal i) = omega (arith, taken i)
literal_taken (negative_decimal i j) = omega (arith, taken i, taken j)

target_past : {l : Option (List ℕ)} {xs ys : List Lexeme} → IsTarget l xs ys → weight ys ≤ weight xs
target_past (no_label e) = end_past e
target_past (a_label h i e) = omega (arith, taken i, end_past e)

option_past : {o : Option ExprTree} {xs ys : List Lexeme} → IsOption o xs ys → weight ys ≤ weight xs
option_past absent = omega arith
option_past (present x) = expr_past x

returned_past : {o : Option ExprTree} {xs ys : List Lexeme} → IsReturned o xs ys → weight ys ≤ weight xs
returned_past (no_value e) = end_past e
returned_past (a_value h x e) = omega (arith, expr_past x, end_past e)

mutual
  pub stmt_past : {s : StmtTree} {xs ys : List Lexeme} → IsStmt s xs ys → weight ys ≤ weight xs
  stmt_past (a_block i ss j) = omega (arith, taken i, stmts_past ss, taken j)
  stmt_past (a_plain x e) = omega (arith, expr_past x, end_past e)
  stmt_past (an_empty i) = omega (arith, taken i)
  stmt_past (an_if_only i j x k s n) = omega (arith, taken i, taken j, expr_past x, taken k, stmt_past s)
  stmt_past (an_if_else i j x k s l r) = omega (arith, taken i, taken j, expr_past x, taken k, stmt_past s, taken l, stmt_past r)
  stmt_past (a_return i o) = omega (arith, taken i, returned_past o)
  stmt_past (a_while i j x k s) = omega (arith, taken i, taken j, expr_past x, taken k, stmt_past s)
  stmt_past (a_do i s j k x l e) = omega (arith, taken i, stmt_past s, taken j, taken k, expr_past x, taken l, do_end_past e)
  stmt_past (a_for i j a k b l c n s) = omega (arith, taken i, taken j, option_past a, taken k, option_past b, taken l, option_past c, taken n, stmt_past s)
  stmt_past (a_break i l) = omega (arith, taken i, target_past l)
  stmt_past (a_continue i l) = omega (arith, taken i, target_past l)
  stmt_past (a_labelled i j x) = omega (arith, taken i, taken j, stmt_past x)
  stmt_past (a_switch i j x k l cs n) = omega (arith, taken i, taken j, expr_past x, taken k, taken l, clauses_past cs, taken n)

  pub stmts_past : {ss : StmtTrees} {xs ys : List Lexeme} → IsStmts ss xs ys → weight ys ≤ weight xs
  stmts_past no_stmts = omega arith
  stmts_past (more_stmts s ss) = omega (arith, stmt_past s, stmts_past ss)

  clauses_past : {cs : ClauseTrees} {xs ys : List Lexeme} → IsClauses cs xs ys → weight ys ≤ weight xs
  clauses_past no_clauses = omega arith
  clauses_past (a_case i v j ss cs) = omega (arith, taken i, literal_taken v, taken j, stmts_past ss, clauses_past cs)
  clauses_past (a_default i j ss) = omega (arith, taken i, taken j, stmts_past ss)
