-- The labels in statements, in text order, that the hashers of labels rest on.
use Rattle.std.specs.List.{fold}
use Rattle.key_hashes.specs.Hashes.{with_key}
use Rattle.key_hashes.specs.declared.seed.Seed.{Seed}
use Rattle.asm_lang.specs.Modules.{Stmt, block, plain, empty, if_only, if_else, returns, while_loop, do_while, for_loop, breaks, continues, labelled, switches, Stmts, no_stmts, stmts, Clauses, no_clauses, clauses}

abbrev mutual
  pub with_stmt : Seed → Stmt → Seed
  with_stmt seed (block ss) = with_stmts seed ss
  with_stmt seed (plain e) = seed
  with_stmt seed empty = seed
  with_stmt seed (if_only c s) = with_stmt seed s
  with_stmt seed (if_else c s r) = with_stmt (with_stmt seed s) r
  with_stmt seed (returns o) = seed
  with_stmt seed (while_loop c s) = with_stmt seed s
  with_stmt seed (do_while s c) = with_stmt seed s
  with_stmt seed (for_loop a b c s) = with_stmt seed s
  with_stmt seed (breaks l) = seed
  with_stmt seed (continues l) = seed
  with_stmt seed (labelled ls s) = with_stmt (fold with_key seed ls) s
  with_stmt seed (switches e cs) = with_clauses seed cs

  pub with_stmts : Seed → Stmts → Seed
  with_stmts seed no_stmts = seed
  with_stmts seed (stmts s ss) = with_stmts (with_stmt seed s) ss

  pub with_clauses : Seed → Clauses → Seed
  with_clauses seed no_clauses = seed
  with_clauses seed (clauses v ss cs) = with_clauses (with_stmts seed ss) cs
