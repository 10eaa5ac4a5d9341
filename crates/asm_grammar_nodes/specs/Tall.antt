-- The trees of what is held with its height.
use Rattle.std.specs.Prelude.{Option, Some, None}
use Rattle.sem_words.specs.Lists.{list_items}
use Rattle.asm_lang.specs.Trees.{ExprTree, ExprTrees, StmtTree, StmtTrees, ClauseTrees}
use Rattle.asm_grammar_nodes.specs.declared.tall.TallExpr.{TallExpr}
use Rattle.asm_grammar_nodes.specs.declared.tall.TallExprs.{TallExprs}
use Rattle.asm_grammar_nodes.specs.declared.tall_stmt.TallStmt.{TallStmt}
use Rattle.asm_grammar_nodes.specs.declared.tall_stmt.TallStmts.{TallStmts}
use Rattle.asm_grammar_nodes.specs.declared.tall_stmt.TallClauses.{TallClauses}
use Rattle.asm_grammar_nodes.specs.Views.{expr_view, exprs_view, stmt_view, stmts_view, clauses_view}

abbrev pub tall_view : TallExpr → ExprTree
tall_view e = expr_view e.tree.value

abbrev pub talls_view : TallExprs → ExprTrees
talls_view es = exprs_view (list_items es.trees)

abbrev pub tall_option : Option TallExpr → Option ExprTree
tall_option None = None
tall_option (Some e) = Some (tall_view e)

abbrev pub stmt_tall_view : TallStmt → StmtTree
stmt_tall_view s = stmt_view s.tree

abbrev pub stmts_tall_view : TallStmts → StmtTrees
stmts_tall_view ss = stmts_view (list_items ss.trees)

abbrev pub clauses_tall_view : TallClauses → ClauseTrees
clauses_tall_view cs = clauses_view (list_items cs.clauses)
