-- How many clauses the switches of a module have, counted on the module as users see it; and the offsets of tokens.
use Rattle.std.specs.Prelude.{ℕ, ◌+◌, List, [], ◌∷◌, map}
use Rattle.asm_lang.specs.Lexemes.{Lexeme}
use Rattle.asm_lang.specs.Modules.{Stmt, block, if_only, if_else, while_loop, do_while, for_loop, labelled, switches, Stmts, no_stmts, stmts, Clauses, no_clauses, clauses, Function, Module}

abbrev mutual
  pub stmt_clauses : Stmt → ℕ
  stmt_clauses (block ss) = body_clauses ss
  stmt_clauses (if_only c s) = stmt_clauses s
  stmt_clauses (if_else c s r) = stmt_clauses s + stmt_clauses r
  stmt_clauses (while_loop c s) = stmt_clauses s
  stmt_clauses (do_while s c) = stmt_clauses s
  stmt_clauses (for_loop a b c s) = stmt_clauses s
  stmt_clauses (labelled ls s) = stmt_clauses s
  stmt_clauses (switches e cs) = switch_clauses cs
  stmt_clauses _ = 0

  pub body_clauses : Stmts → ℕ
  body_clauses no_stmts = 0
  body_clauses (stmts s ss) = stmt_clauses s + body_clauses ss

  -- those of a switch, with the ones of switches inside
  pub switch_clauses : Clauses → ℕ
  switch_clauses no_clauses = 0
  switch_clauses (clauses v ss cs) = 1 + (body_clauses ss + switch_clauses cs)

abbrev pub functions_clauses : List Function → ℕ
functions_clauses [] = 0
functions_clauses (f ∷ fs) = body_clauses f.body + functions_clauses fs

abbrev pub module_clauses : Module → ℕ
module_clauses m = functions_clauses m.functions

abbrev pub offsets : List Lexeme → List ℕ
offsets xs = map (λ (t : Lexeme). t.at) xs
