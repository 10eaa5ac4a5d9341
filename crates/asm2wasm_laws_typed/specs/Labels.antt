-- Statements whose labels stand together: no labelled statement is directly under the labels of another one.
use Rattle.std.specs.Prelude.{◌≡◌, Bool, true, false}
use Rattle.asm_lang.specs.Modules.{Stmt, block, if_only, if_else, while_loop, do_while, for_loop, labelled, switches, Stmts, no_stmts, stmts, Clauses, no_clauses, clauses}

abbrev pub is_labelled : Stmt → Bool
is_labelled (labelled ns s) = true
is_labelled _ = false

abbrev mutual
  pub HasJoinedLabels : Stmt → Type 0
  HasJoinedLabels (block ss) = HaveJoinedLabels ss
  HasJoinedLabels (if_only e s) = HasJoinedLabels s
  HasJoinedLabels (if_else e s r) = HasJoinedLabels s × HasJoinedLabels r
  HasJoinedLabels (while_loop e s) = HasJoinedLabels s
  HasJoinedLabels (do_while s e) = HasJoinedLabels s
  HasJoinedLabels (for_loop x y z s) = HasJoinedLabels s
  HasJoinedLabels (labelled ns s) = (is_labelled s ≡ false) × HasJoinedLabels s
  HasJoinedLabels (switches e cs) = ClausesHaveJoinedLabels cs
  HasJoinedLabels _ = Unit {0}

  pub HaveJoinedLabels : Stmts → Type 0
  HaveJoinedLabels no_stmts = Unit {0}
  HaveJoinedLabels (stmts s ss) = HasJoinedLabels s × HaveJoinedLabels ss

  pub ClausesHaveJoinedLabels : Clauses → Type 0
  ClausesHaveJoinedLabels no_clauses = Unit {0}
  ClausesHaveJoinedLabels (clauses v ss cs) = HaveJoinedLabels ss × ClausesHaveJoinedLabels cs
