-- Where names mean the same, statements have the same marks of limits.
use Rattle.std.proofs.Common.{◌≡◌, ℕ, ◌+◌, Bool, true, false, Option, Some, None, refl}
use Rattle.asm_lang.specs.Modules.{Expr, lit, decimal, var, index, call, table_call, assign, store, unary, binary, chain, cond, comma, Exprs, no_exprs, exprs, Links, no_links, links, Stmt, block, plain, empty, if_only, if_else, returns, while_loop, do_while, for_loop, breaks, continues, labelled, switches, Stmts, no_stmts, stmts, Clauses, no_clauses, clauses}
use Rattle.asm_lang_valid.specs.Rows.{expr_count, option_count, stmt_count, stmts_count}
use Rattle.asm_lang_valid.specs.Typing.{Scope}
use Rattle.asm_lang_valid.specs.LimitRows.{expr_marks, exprs_marks, links_marks, comma_marks, call_marks, effect_marks, part_marks, option_marks, stmt_marks, stmts_marks, clauses_marks}
use Rattle.asm2wasm_laws_acceptance.proofs.Exports.Typed.{IsAlike, call_same}

module _ (c d : Scope) (alike : IsAlike c d) where
  mutual
    expr_same : (at : ℕ) (e : Expr) → expr_marks d at e ≡ expr_marks c at e
    expr_same at (lit v) = refl
    expr_same at (decimal bs) = refl
    expr_same at (var n) = refl
    expr_same at (index n i) = expr_same (at + 1) i
    expr_same at (call n es) = exprs_same (at + 1) es
    expr_same at (table_call n i es) = let a = expr_same (at + 1) i in let b = exprs_same (at + 1 + expr_count i) es in rw (a, b) refl
    expr_same at (assign n e) = expr_same (at + 1) e
    expr_same at (store n i e) = let a = expr_same (at + 1) i in let b = expr_same (at + 1 + expr_count i) e in rw (a, b) refl
    expr_same at (unary op e) = expr_same (at + 1) e
    expr_same at (binary op l r) =
        let x = call_same c d alike l in let f = calls_same true (at + 1) l in let a = expr_same (at + 1) l in let b = expr_same (at + 1 + expr_count l) r in rw (x, f, a, b) refl
    expr_same at (chain e ls) = let a = expr_same (at + 1) e in let b = links_same (at + 1 + expr_count e) ls in rw (a, b) refl
    expr_same at (cond e p q) =
        let a = expr_same (at + 1) e in let b = expr_same (at + 1 + expr_count e) p in let g = expr_same (at + 1 + expr_count e + expr_count p) q in rw (a, b, g) refl
    expr_same at (comma es) = comma_same (at + 1) es

    exprs_same : (at : ℕ) (es : Exprs) → exprs_marks d at es ≡ exprs_marks c at es
    exprs_same at no_exprs = refl
    exprs_same at (exprs e es) = let a = expr_same at e in let b = exprs_same (at + expr_count e) es in rw (a, b) refl

    links_same : (at : ℕ) (ls : Links) → links_marks d at ls ≡ links_marks c at ls
    links_same at no_links = refl
    links_same at (links minus e ls) = let a = expr_same at e in let b = links_same (at + expr_count e) ls in rw (a, b) refl

    comma_same : (at : ℕ) (es : Exprs) → comma_marks d at es ≡ comma_marks c at es
    comma_same at no_exprs = refl
    comma_same at (exprs e no_exprs) = expr_same at e
    comma_same at (exprs e (exprs y es)) =
        let x = call_same c d alike e in let f = calls_same false at e in let a = expr_same at e in let b = comma_same (at + expr_count e) (exprs y es) in rw (x, f, a, b) refl

    calls_same : (result : Bool) (at : ℕ) (e : Expr) → call_marks d result at e ≡ call_marks c result at e
    calls_same result at (call n es) = let x = alike.names n in let a = exprs_same (at + 1) es in rw (x, a) refl
    calls_same result at (table_call n i es) = let a = expr_same (at + 1) i in let b = exprs_same (at + 1 + expr_count i) es in rw (a, b) refl
    calls_same result at (lit v) = refl
    calls_same result at (decimal bs) = refl
    calls_same result at (var n) = refl
    calls_same result at (index n i) = refl
    calls_same result at (assign n e) = refl
    calls_same result at (store n i e) = refl
    calls_same result at (unary op e) = refl
    calls_same result at (binary op l r) = refl
    calls_same result at (chain e ls) = refl
    calls_same result at (cond e p q) = refl
    calls_same result at (comma es) = refl

  effect_same : (at : ℕ) (e : Expr) → effect_marks d at e ≡ effect_marks c at e
  effect_same at e = let x = call_same c d alike e in let f = calls_same false at e in let a = expr_same at e in rw (x, f, a) refl

  part_same : (at : ℕ) (o : Option Expr) → part_marks d at o ≡ part_marks c at o
  part_same at None = refl
  part_same at (Some e) = effect_same at e

  option_same : (at : ℕ) (o : Option Expr) → option_marks d at o ≡ option_marks c at o
  option_same at None = refl
  option_same at (Some e) = expr_same at e

  mutual
    stmt_same : (at : ℕ) (s : Stmt) → stmt_marks d at s ≡ stmt_marks c at s
    stmt_same at (block ss) = stmts_same (at + 1) ss
    stmt_same at (plain e) = effect_same (at + 1) e
    stmt_same at empty = refl
    stmt_same at (if_only e s) = let a = expr_same (at + 1) e in let b = stmt_same (at + 1 + expr_count e) s in rw (a, b) refl
    stmt_same at (if_else e s r) =
        let a = expr_same (at + 1) e in let b = stmt_same (at + 1 + expr_count e) s in let g = stmt_same (at + 1 + expr_count e + stmt_count s) r in rw (a, b, g) refl
    stmt_same at (returns o) = option_same (at + 1) o
    stmt_same at (while_loop e s) = let a = expr_same (at + 1) e in let b = stmt_same (at + 1 + expr_count e) s in rw (a, b) refl
    stmt_same at (do_while s e) = let a = stmt_same (at + 1) s in let b = expr_same (at + 1 + stmt_count s) e in rw (a, b) refl
    stmt_same at (for_loop x y z s) =
        let a = part_same (at + 1) x in
        let b = option_same (at + 1 + option_count x) y in
        let g = part_same (at + 1 + option_count x + option_count y) z in
        let h = stmt_same (at + 1 + option_count x + option_count y + option_count z) s in
        rw (a, b, g, h) refl
    stmt_same at (breaks l) = refl
    stmt_same at (continues l) = refl
    stmt_same at (labelled ls s) = stmt_same (at + 1) s
    stmt_same at (switches e cs) = let a = expr_same (at + 1) e in let b = clauses_same (at + 1 + expr_count e) cs in rw (a, b) refl

    pub stmts_same : (at : ℕ) (ss : Stmts) → stmts_marks d at ss ≡ stmts_marks c at ss
    stmts_same at no_stmts = refl
    stmts_same at (stmts s ss) = let a = stmt_same at s in let b = stmts_same (at + stmt_count s) ss in rw (a, b) refl

    clauses_same : (at : ℕ) (cs : Clauses) → clauses_marks d at cs ≡ clauses_marks c at cs
    clauses_same at no_clauses = refl
    clauses_same at (clauses v ss cs) = let a = stmts_same at ss in let b = clauses_same (at + stmts_count ss) cs in rw (a, b) refl
