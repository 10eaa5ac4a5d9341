-- The heights of trees, which are those of what the trees say.
use Rattle.std.specs.Prelude.{ℕ, Bool, true, false, Option}
use Rattle.asm_lang.specs.Trees.{ExprTree, ExprTrees, StmtTree, StmtTrees, ClauseTrees, ModuleTree}
use Rattle.asm_lang.specs.Modules.{expr_of, exprs_of, option_of, stmt_of, stmts_of, clauses_of, module_of}
use Rattle.asm_lang.specs.Heights.{expr_height, exprs_height, option_height, stmt_heights, stmts_height, clauses_height, module_height}

abbrev pub height : ExprTree → ℕ
height e = expr_height (expr_of e)

abbrev pub all_height : ExprTrees → ℕ
all_height es = exprs_height (exprs_of es)

abbrev pub part_height : Option ExprTree → ℕ
part_height o = option_height (option_of o)

abbrev pub stmt_height : StmtTree → ℕ
stmt_height s = (stmt_heights (stmt_of s)).height

-- as the whole body of a loop or an arm of an `if`
abbrev pub body_height : StmtTree → ℕ
body_height s = (stmt_heights (stmt_of s)).as_body

abbrev pub block_height : StmtTrees → ℕ
block_height ss = stmts_height (stmts_of ss)

abbrev pub cases_height : ClauseTrees → ℕ
cases_height cs = clauses_height (clauses_of cs)

abbrev pub whole_height : ModuleTree → ℕ
whole_height m = module_height (module_of m)

-- what a statement counts: as a whole body, or anywhere else
abbrev pub counted : Bool → StmtTree → ℕ
counted true s = body_height s
counted false s = stmt_height s
