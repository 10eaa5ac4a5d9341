-- An expression has at most as many nodes as tokens.
use Rattle.std.proofs.Common.{◌≡◌, ℕ, ◌+◌, ◌≤◌, Bool, true, false, ◌&&◌, cond as choice, List, ◌++◌, length, arith, length-append}
use Rattle.asm_lang.specs.Lexemes.{Lexeme, Want, Is, here}
use Rattle.asm_lang.specs.Trees.{ExprTree, ExprTrees}
use Rattle.asm_lang.specs.Grammar.{IsExpr, an_operand, a_binary, a_conditional, an_assignment, a_store, a_list, IsOperand, a_literal, a_negative, a_decimal_literal, a_variable, an_element, a_call, a_table_call, in_parens, a_prefix, a_minus, IsIndex, an_index, IsArguments, no_argument, arguments, IsRest, no_further, a_further}
use Rattle.asm_lang.specs.Modules.{Nodes, all_nodes, sum_nodes, is_sum, expr_nodes, exprs_places, expr_places}

pub taken : {w : Want} {t : Lexeme} {xs ys : List Lexeme} → Is w t xs ys → length xs ≡ length ys + 1
taken (here h) = omega arith

pub length_of_three : (a b c : List ℕ) → length (a ++ (b ++ c)) ≡ length a + length b + length c
length_of_three a b c = omega (arith, length-append a (b ++ c), length-append b c)

pub length_of_four : (a b c d : List ℕ) → length (a ++ (b ++ (c ++ d))) ≡ length a + length b + length c + length d
length_of_four a b c d = omega (arith, length-append a (b ++ (c ++ d)), length_of_three b c d)

either_size : (b : Bool) (l r : Nodes) (n : ℕ) → length (all_nodes l) ≤ n → length (all_nodes r) ≤ n → length (all_nodes (choice b l r)) ≤ n
either_size true l r n h k = h
either_size false l r n h k = k

sum_size : (at : ℕ) (sum : Bool) (l r : Nodes) → length (all_nodes (sum_nodes at sum l r)) ≤ length (all_nodes l) + length (all_nodes r) + 1
sum_size at sum l r =
    either_size (sum && l.chain) (record { place = l.place; parts = l.parts ++ all_nodes r; chain = true }) (record { place = at; parts = all_nodes l ++ all_nodes r; chain = sum })
    (length (all_nodes l) + length (all_nodes r) + 1) (omega (arith, length-append l.parts (all_nodes r))) (omega (arith, length-append (all_nodes l) (all_nodes r)))

mutual
  pub expr_size : {p : ℕ} {e : ExprTree} {xs ys : List Lexeme} → IsExpr p e xs ys → length (expr_places e) + length ys ≤ length xs
  expr_size (an_operand x) = operand_size x
  expr_size (a_binary {l = l} {r = r} {op = op} {t = t} le x i y) = omega (arith, sum_size t.at (is_sum op) (expr_nodes l) (expr_nodes r), expr_size x, taken i, expr_size y)
  expr_size (a_conditional {c = c} {a = a} {b = b} le x i y j z) = omega (arith, length_of_three (expr_places c) (expr_places a) (expr_places b), expr_size x, taken i, expr_size y, taken j, expr_size z)
  expr_size (an_assignment le i j x) = omega (arith, taken i, taken j, expr_size x)
  expr_size (a_store {i = a} {e = e} le i x j y) = omega (arith, length-append (expr_places a) (expr_places e), taken i, index_size x, taken j, expr_size y)
  expr_size (a_list {e = e} {f = f} {es = es} le x i y z) = omega (arith, length_of_three (expr_places e) (expr_places f) (exprs_places es), expr_size x, taken i, expr_size y, rest_size z)

  operand_size : {e : ExprTree} {xs ys : List Lexeme} → IsOperand e xs ys → length (expr_places e) + length ys ≤ length xs
  operand_size (a_literal i) = omega (arith, taken i)
  operand_size (a_negative i j) = omega (arith, taken i, taken j)
  operand_size (a_decimal_literal i) = omega (arith, taken i)
  operand_size (a_variable i) = omega (arith, taken i)
  operand_size (an_element i x) = omega (arith, taken i, index_size x)
  operand_size (a_call i j x) = omega (arith, taken i, taken j, arguments_size x)
  operand_size (a_table_call {i = a} {es = es} i x j y) = omega (arith, length-append (expr_places a) (exprs_places es), taken i, index_size x, taken j, arguments_size y)
  operand_size (in_parens i x j) = omega (arith, taken i, expr_size x, taken j)
  operand_size (a_prefix q i x) = omega (arith, taken i, expr_size x)
  operand_size (a_minus i h x) = omega (arith, taken i, expr_size x)

  index_size : {e : ExprTree} {xs ys : List Lexeme} → IsIndex e xs ys → length (expr_places e) + length ys ≤ length xs
  index_size (an_index i x j) = omega (arith, taken i, expr_size x, taken j)

  arguments_size : {es : ExprTrees} {xs ys : List Lexeme} → IsArguments es xs ys → length (exprs_places es) + length ys ≤ length xs
  arguments_size (no_argument i) = omega (arith, taken i)
  arguments_size (arguments {e = e} {es = es} x y i) = omega (arith, length-append (expr_places e) (exprs_places es), expr_size x, rest_size y, taken i)

  rest_size : {es : ExprTrees} {xs ys : List Lexeme} → IsRest es xs ys → length (exprs_places es) + length ys ≤ length xs
  rest_size no_further = omega arith
  rest_size (a_further {e = e} {es = es} i x y) = omega (arith, length-append (expr_places e) (exprs_places es), taken i, expr_size x, rest_size y)
