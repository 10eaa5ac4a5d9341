-- Where names mean the same, statements have the same rows of names.
use Rattle.std.proofs.Common.{◌≡◌, ℕ, ◌+◌, Option, Some, None, refl}
use Rattle.asm_lang.specs.Modules.{Expr, lit, decimal, var, index, call, table_call, assign, store, unary, binary, chain, cond, comma, Exprs, no_exprs, exprs, Links, no_links, links, Stmt, block, plain, empty, if_only, if_else, returns, while_loop, do_while, for_loop, breaks, continues, labelled, switches, Stmts, no_stmts, stmts, Clauses, no_clauses, clauses}
use Rattle.asm_lang_valid.specs.Rows.{expr_count, option_count, stmt_count, stmts_count}
use Rattle.asm_lang_valid.specs.Typing.{Scope}
use Rattle.asm_lang_valid.specs.NameRows.{expr_names, exprs_names, links_names, option_names, stmt_names, stmts_names, clauses_names}
use Rattle.asm2wasm_laws_acceptance.proofs.Exports.Typed.{IsAlike}

module _ (c d : Scope) (alike : IsAlike c d) where
  mutual
    expr_same : (at : ℕ) (e : Expr) → expr_names d at e ≡ expr_names c at e
    expr_same at (lit v) = refl
    expr_same at (decimal bs) = refl
    expr_same at (var n) = let x = alike.names n in rw x refl
    expr_same at (index n i) = let x = alike.names n in let a = expr_same (at + 1) i in rw (x, a) refl
    expr_same at (call n es) = let x = alike.names n in let a = exprs_same (at + 1) es in rw (x, a) refl
    expr_same at (table_call n i es) = let x = alike.names n in let a = expr_same (at + 1) i in let b = exprs_same (at + 1 + expr_count i) es in rw (x, a, b) refl
    expr_same at (assign n e) = let x = alike.names n in let a = expr_same (at + 1) e in rw (x, a) refl
    expr_same at (store n i e) = let x = alike.names n in let a = expr_same (at + 1) i in let b = expr_same (at + 1 + expr_count i) e in rw (x, a, b) refl
    expr_same at (unary op e) = expr_same (at + 1) e
    expr_same at (binary op l r) = let a = expr_same (at + 1) l in let b = expr_same (at + 1 + expr_count l) r in rw (a, b) refl
    expr_same at (chain e ls) = let a = expr_same (at + 1) e in let b = links_same (at + 1 + expr_count e) ls in rw (a, b) refl
    expr_same at (cond e p q) =
        let a = expr_same (at + 1) e in let b = expr_same (at + 1 + expr_count e) p in let g = expr_same (at + 1 + expr_count e + expr_count p) q in rw (a, b, g) refl
    expr_same at (comma es) = exprs_same (at + 1) es

    exprs_same : (at : ℕ) (es : Exprs) → exprs_names d at es ≡ exprs_names c at es
    exprs_same at no_exprs = refl
    exprs_same at (exprs e es) = let a = expr_same at e in let b = exprs_same (at + expr_count e) es in rw (a, b) refl

    links_same : (at : ℕ) (ls : Links) → links_names d at ls ≡ links_names c at ls
    links_same at no_links = refl
    links_same at (links minus e ls) = let a = expr_same at e in let b = links_same (at + expr_count e) ls in rw (a, b) refl

  option_same : (at : ℕ) (o : Option Expr) → option_names d at o ≡ option_names c at o
  option_same at None = refl
  option_same at (Some e) = expr_same at e

  mutual
    stmt_same : (at : ℕ) (s : Stmt) → stmt_names d at s ≡ stmt_names c at s
    stmt_same at (block ss) = stmts_same (at + 1) ss
    stmt_same at (plain e) = expr_same (at + 1) e
    stmt_same at empty = refl
    stmt_same at (if_only e s) = let a = expr_same (at + 1) e in let b = stmt_same (at + 1 + expr_count e) s in rw (a, b) refl
    stmt_same at (if_else e s r) =
        let a = expr_same (at + 1) e in let b = stmt_same (at + 1 + expr_count e) s in let g = stmt_same (at + 1 + expr_count e + stmt_count s) r in rw (a, b, g) refl
    stmt_same at (returns o) = option_same (at + 1) o
    stmt_same at (while_loop e s) = let a = expr_same (at + 1) e in let b = stmt_same (at + 1 + expr_count e) s in rw (a, b) refl
    stmt_same at (do_while s e) = let a = stmt_same (at + 1) s in let b = expr_same (at + 1 + stmt_count s) e in rw (a, b) refl
    stmt_same at (for_loop x y z s) =
        let a = option_same (at + 1) x in
        let b = option_same (at + 1 + option_count x) y in
        let g = option_same (at + 1 + option_count x + option_count y) z in
        let h = stmt_same (at + 1 + option_count x + option_count y + option_count z) s in
        rw (a, b, g, h) refl
    stmt_same at (breaks l) = refl
    stmt_same at (continues l) = refl
    stmt_same at (labelled ls s) = stmt_same (at + 1) s
    stmt_same at (switches e cs) = let a = expr_same (at + 1) e in let b = clauses_same (at + 1 + expr_count e) cs in rw (a, b) refl

    pub stmts_same : (at : ℕ) (ss : Stmts) → stmts_names d at ss ≡ stmts_names c at ss
    stmts_same at no_stmts = refl
    stmts_same at (stmts s ss) = let a = stmt_same at s in let b = stmts_same (at + stmt_count s) ss in rw (a, b) refl

    clauses_same : (at : ℕ) (cs : Clauses) → clauses_names d at cs ≡ clauses_names c at cs
    clauses_same at no_clauses = refl
    clauses_same at (clauses v ss cs) = let a = stmts_same at ss in let b = clauses_same (at + stmts_count ss) cs in rw (a, b) refl
