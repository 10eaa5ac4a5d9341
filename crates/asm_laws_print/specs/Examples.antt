-- Worked examples that the check computes.
use Rattle.std.specs.Prelude.{false, [], ◌∷◌, codes, refl}
use Rattle.std.proofs.lemmas.Bool.{true≢false, false≢true}
use Rattle.asm_lang.specs.Modules.{Expr, var, chain, comma, exprs, no_exprs, links, no_links, block, empty, if_only, if_else, labelled, stmts, no_stmts}
use Rattle.asm_laws_print.specs.Spelled.{FitsExpr}
use Rattle.asm_laws_print.specs.Fitting.{FitsStmt}

abbrev a : Expr
a = var (codes "a")

-- `if(a)if(a);else ;` is read with the `else` at the inner `if`
pub else_of_an_outer_if : FitsStmt (if_else a (if_only a empty) empty) → ⊥
else_of_an_outer_if fits = true≢false fits.1

-- `if(a){if(a);}else ;`
pub else_after_a_block : FitsStmt (if_else a (block (stmts (if_only a empty) no_stmts)) empty)
else_after_a_block = (refl, refl, ((refl, tt), tt), tt)

-- `a-a` is a chain of its own where another one goes on after it
pub chain_in_front_of_a_chain : FitsExpr (chain (chain a (links false a no_links)) (links false a no_links)) → ⊥
chain_in_front_of_a_chain fits = true≢false fits.0

pub list_of_one : FitsExpr (comma (exprs a no_exprs)) → ⊥
list_of_one fits = false≢true fits.0

-- labels before one statement are one list
pub label_of_a_labelled_statement : FitsStmt (labelled (codes "a" ∷ []) (labelled (codes "b" ∷ []) empty)) → ⊥
label_of_a_labelled_statement fits = true≢false fits.2
