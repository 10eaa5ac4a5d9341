-- Where names mean the same, statements have the same rows of types.
use Rattle.std.proofs.Common.{◌≡◌, ℕ, ◌+◌, Bool, true, false, Option, Some, None, refl}
use Rattle.asm_types.specs.declared.value_type.ValueType.TheVariants.{Int, Extern}
use Rattle.asm_lang.specs.Modules.{Expr, lit, decimal, var, index, call, table_call, assign, store, unary, binary, chain, cond, comma, Exprs, no_exprs, exprs, Links, no_links, links, Stmt, block, plain, empty, if_only, if_else, returns, while_loop, do_while, for_loop, breaks, continues, labelled, switches, Stmts, no_stmts, stmts, Clauses, no_clauses, clauses}
use Rattle.asm_lang_valid.specs.Rows.{expr_count, option_count, stmt_count, stmts_count}
use Rattle.asm_lang_valid.specs.Typing.{Scope, named, Around, in_a_loop, in_a_switch, under_labels}
use Rattle.asm_lang_valid.specs.TypeRows.{expr_rows, exprs_rows, links_rows, comma_rows, call_rows, effect_rows, part_rows, condition_rows, option_rows, value_rows, stmt_rows, stmts_rows, clauses_rows}
use Rattle.asm2wasm_laws_acceptance.proofs.Exports.Typed as typed
use Rattle.asm2wasm_laws_acceptance.proofs.Exports.Typed.{IsAlike, table_same, call_same, type_same, all_same}

module _ (c d : Scope) (alike : IsAlike c d) where
  mutual
    expr_same : (at : ℕ) (e : Expr) → expr_rows d at e ≡ expr_rows c at e
    expr_same at (lit v) = refl
    expr_same at (decimal bs) = refl
    expr_same at (var n) = let x = alike.names n in rw x refl
    expr_same at (index n i) = let x = alike.names n in let a = expr_same (at + 1) i in let t = type_same c d alike i in rw (x, a, t) refl
    expr_same at (call n es) = let x = alike.names n in let a = exprs_same (at + 1) es in let t = all_same c d alike Int es in rw (x, a, t) refl
    expr_same at (table_call n i es) = let x = alike.names n in let a = expr_same (at + 1) i in let b = exprs_same (at + 1 + expr_count i) es in rw (x, a, b) refl
    expr_same at (assign n e) = let x = alike.names n in let a = expr_same (at + 1) e in let t = type_same c d alike e in rw (x, a, t) refl
    expr_same at (store n i e) =
        let x = alike.names n in
        let a = expr_same (at + 1) i in
        let b = expr_same (at + 1 + expr_count i) e in
        let t = type_same c d alike i in
        let u = type_same c d alike e in
        rw (x, a, b, t, u) refl
    expr_same at (unary op e) = let a = expr_same (at + 1) e in let t = type_same c d alike e in rw (a, t) refl
    expr_same at (binary op l r) =
        let x = call_same c d alike l in
        let f = calls_same true (at + 1) l in
        let a = expr_same (at + 1) l in
        let b = expr_same (at + 1 + expr_count l) r in
        let t = type_same c d alike l in
        let u = type_same c d alike r in
        rw (x, f, a, b, t, u) refl
    expr_same at (chain e ls) =
        let a = expr_same (at + 1) e in
        let b = links_same (at + 1 + expr_count e) ls in
        let t = type_same c d alike e in
        let u = typed.links_same c d alike ls in
        rw (a, b, t, u) refl
    expr_same at (cond e p q) =
        let a = expr_same (at + 1) e in
        let b = expr_same (at + 1 + expr_count e) p in
        let g = expr_same (at + 1 + expr_count e + expr_count p) q in
        let t = type_same c d alike e in
        let u = type_same c d alike p in
        let v = type_same c d alike q in
        rw (a, b, g, t, u, v) refl
    expr_same at (comma es) = comma_same (at + 1) es

    exprs_same : (at : ℕ) (es : Exprs) → exprs_rows d at es ≡ exprs_rows c at es
    exprs_same at no_exprs = refl
    exprs_same at (exprs e es) = let a = expr_same at e in let b = exprs_same (at + expr_count e) es in rw (a, b) refl

    links_same : (at : ℕ) (ls : Links) → links_rows d at ls ≡ links_rows c at ls
    links_same at no_links = refl
    links_same at (links minus e ls) = let a = expr_same at e in let b = links_same (at + expr_count e) ls in rw (a, b) refl

    comma_same : (at : ℕ) (es : Exprs) → comma_rows d at es ≡ comma_rows c at es
    comma_same at no_exprs = refl
    comma_same at (exprs e no_exprs) = expr_same at e
    comma_same at (exprs e (exprs y es)) =
        let x = call_same c d alike e in let f = calls_same false at e in let a = expr_same at e in let b = comma_same (at + expr_count e) (exprs y es) in rw (x, f, a, b) refl

    calls_same : (result : Bool) (at : ℕ) (e : Expr) → call_rows d result at e ≡ call_rows c result at e
    calls_same result at (call n es) =
        let x = alike.names n in let a = exprs_same (at + 1) es in let t = all_same c d alike Int es in let u = all_same c d alike Extern es in rw (x, a, t, u) refl
    calls_same result at (table_call n i es) =
        let x = alike.names n in
        let a = expr_same (at + 1) i in
        let b = exprs_same (at + 1 + expr_count i) es in
        let t = all_same c d alike Int es in
        let u = table_same c d alike (named c n) result in
        rw (x, a, b, t) (rw u refl)
    calls_same result at (lit v) = refl
    calls_same result at (decimal bs) = refl
    calls_same result at (var n) = refl
    calls_same result at (index n i) = refl
    calls_same result at (assign n e) = refl
    calls_same result at (store n i e) = refl
    calls_same result at (unary op e) = refl
    calls_same result at (binary op l r) = refl
    calls_same result at (chain e ls) = refl
    calls_same result at (cond e p q) = refl
    calls_same result at (comma es) = refl

  effect_same : (at : ℕ) (e : Expr) → effect_rows d at e ≡ effect_rows c at e
  effect_same at e = let x = call_same c d alike e in let f = calls_same false at e in let a = expr_same at e in rw (x, f, a) refl

  part_same : (at : ℕ) (o : Option Expr) → part_rows d at o ≡ part_rows c at o
  part_same at None = refl
  part_same at (Some e) = effect_same at e

  condition_same : (at : ℕ) (e : Expr) → condition_rows d at e ≡ condition_rows c at e
  condition_same at e = let a = expr_same at e in let t = type_same c d alike e in rw (a, t) refl

  option_same : (at : ℕ) (o : Option Expr) → option_rows d at o ≡ option_rows c at o
  option_same at None = refl
  option_same at (Some e) = condition_same at e

  value_same : (at : ℕ) (o : Option Expr) → value_rows d at o ≡ value_rows c at o
  value_same at None = refl
  value_same at (Some e) = expr_same at e

  mutual
    stmt_same : (x : Around) (at : ℕ) (s : Stmt) → stmt_rows d x at s ≡ stmt_rows c x at s
    stmt_same x at (block ss) = stmts_same x (at + 1) ss
    stmt_same x at (plain e) = effect_same (at + 1) e
    stmt_same x at empty = refl
    stmt_same x at (if_only e s) = let a = condition_same (at + 1) e in let b = stmt_same x (at + 1 + expr_count e) s in rw (a, b) refl
    stmt_same x at (if_else e s r) =
        let a = condition_same (at + 1) e in let b = stmt_same x (at + 1 + expr_count e) s in let g = stmt_same x (at + 1 + expr_count e + stmt_count s) r in rw (a, b, g) refl
    stmt_same x at (returns o) = let a = value_same (at + 1) o in let f = typed.returns_same c d alike o in rw (a, f) refl
    stmt_same x at (while_loop e s) = let a = condition_same (at + 1) e in let b = stmt_same (in_a_loop x) (at + 1 + expr_count e) s in rw (a, b) refl
    stmt_same x at (do_while s e) = let a = stmt_same (in_a_loop x) (at + 1) s in let b = condition_same (at + 1 + stmt_count s) e in rw (a, b) refl
    stmt_same x at (for_loop o y z s) =
        let a = part_same (at + 1) o in
        let b = option_same (at + 1 + option_count o) y in
        let g = part_same (at + 1 + option_count o + option_count y) z in
        let h = stmt_same (in_a_loop x) (at + 1 + option_count o + option_count y + option_count z) s in
        rw (a, b, g, h) refl
    stmt_same x at (breaks l) = refl
    stmt_same x at (continues l) = refl
    stmt_same x at (labelled ls s) = let a = stmt_same (under_labels ls s x) (at + 1) s in rw a refl
    stmt_same x at (switches e cs) =
        let a = expr_same (at + 1) e in let t = type_same c d alike e in let b = clauses_same (in_a_switch x) (at + 1 + expr_count e) cs in rw (a, t, b) refl

    pub stmts_same : (x : Around) (at : ℕ) (ss : Stmts) → stmts_rows d x at ss ≡ stmts_rows c x at ss
    stmts_same x at no_stmts = refl
    stmts_same x at (stmts s ss) = let a = stmt_same x at s in let b = stmts_same x (at + stmt_count s) ss in rw (a, b) refl

    clauses_same : (x : Around) (at : ℕ) (cs : Clauses) → clauses_rows d x at cs ≡ clauses_rows c x at cs
    clauses_same x at no_clauses = refl
    clauses_same x at (clauses v ss cs) = let a = stmts_same x at ss in let b = clauses_same x (at + stmts_count ss) cs in rw (a, b) refl
