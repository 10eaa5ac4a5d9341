-- Where no row is met, each call of a foreign function is within the limits.
use Rattle.std.proofs.Common.{ℕ, ◌+◌, ◌≤◌, Bool, true, false, List, ◌++◌, Option, Some, None, arith}
use Rattle.std.proofs.lemmas.Bool.Decides.{nat_tests}
use Rattle.std.specs.Prelude.{nat_le, ◌&&◌, if◌then◌else◌}
use Rattle.asm_lang.specs.Modules.{Expr, lit, decimal, var, index, call, table_call, assign, store, unary, binary, chain, cond, comma, Exprs, no_exprs, exprs, Links, no_links, links, Stmt, block, plain, empty, if_only, if_else, returns, while_loop, do_while, for_loop, breaks, continues, labelled, switches, Stmts, no_stmts, stmts, Clauses, no_clauses, clauses}
use Rattle.asm_lang_valid.specs.declared.rule.Rule.TheVariants.{PastLimit}
use Rattle.asm_lang_valid.specs.Scope.{Meaning, nothing, an_int, an_outside, a_foreign, a_builtin, a_view, a_function, a_table, a_parameter}
use Rattle.asm_lang_valid.specs.Typing.{Scope, named, exprs_length, is_call, or_zero}
use Rattle.asm_lang_valid.specs.Rows.{need, expr_count, option_count, stmt_count, stmts_count}
use Rattle.asm_lang_valid.specs.LimitRows.{Mark, rows_of, callee_marks, expr_marks, exprs_marks, links_marks, comma_marks, call_marks, effect_marks, part_marks, option_marks, clauses_length, stmt_marks, stmts_marks, clauses_marks, most_params, most_clauses}
use Rattle.asm2wasm_laws_within.specs.Uses.{AllUses}
use Rattle.asm2wasm_laws_within.specs.Within.{CallIsWithin}
use Rattle.asm2wasm_laws_within.proofs.Marks.{NoRows, rows_split, uses_join, held}
use Rattle.asm2wasm_laws_within.proofs.Names.{ForeignIsShort}

abbrev pub Fine : List Mark → Type 0
Fine ms = NoRows ms → AllUses CallIsWithin ms

pub fine_join : (ms ns : List Mark) → Fine ms → Fine ns → Fine (ms ++ ns)
fine_join ms ns p q h = let s = rows_split ms ns h in uses_join CallIsWithin ms ns (p s.0) (q s.1)

pub fine_row : (b : Bool) (at : ℕ) → Fine (rows_of (need b PastLimit at))
fine_row true at h = tt
fine_row false at h = absurd h

fine_if : (b : Bool) (ms ns : List Mark) → Fine ms → Fine ns → Fine (if b then ms else ns)
fine_if true ms ns p q = p
fine_if false ms ns p q = q

fine_callee : (x : Meaning) (result : Bool) (count at : ℕ) → ForeignIsShort x → Fine (callee_marks x result count at)
fine_callee (a_foreign p) result count at short h =
    let few = held (nat_le count most_params) at (rows_split (rows_of (need (nat_le count most_params) PastLimit at)) _ h).0 in
    let le : count ≤ most_params = grind (arith, nat_tests) in
    fine_join (rows_of (need (nat_le count most_params) PastLimit at)) _ (fine_row (nat_le count most_params) at) (λ h. (record { params = le; name = short }, tt)) h
fine_callee nothing result count at short h = tt
fine_callee an_int result count at short h = tt
fine_callee an_outside result count at short h = tt
fine_callee (a_builtin b) result count at short h = tt
fine_callee (a_view v) result count at short h = tt
fine_callee (a_function f) result count at short h = tt
fine_callee (a_table t) result count at short h = tt
fine_callee a_parameter result count at short h = tt

module _ (c : Scope) (short : (n : List ℕ) → ForeignIsShort (named c n)) where
  mutual
    pub fine_expr : (at : ℕ) (e : Expr) → Fine (expr_marks c at e)
    fine_expr at (lit v) = λ h. tt
    fine_expr at (decimal bs) = λ h. tt
    fine_expr at (var n) = λ h. tt
    fine_expr at (index n i) = fine_expr (at + 1) i
    fine_expr at (call n es) = fine_exprs (at + 1) es
    fine_expr at (table_call n i es) = fine_join (expr_marks c (at + 1) i) (exprs_marks c (at + 1 + expr_count i) es) (fine_expr (at + 1) i) (fine_exprs (at + 1 + expr_count i) es)
    fine_expr at (assign n e) = fine_expr (at + 1) e
    fine_expr at (store n i e) = fine_join (expr_marks c (at + 1) i) (expr_marks c (at + 1 + expr_count i) e) (fine_expr (at + 1) i) (fine_expr (at + 1 + expr_count i) e)
    fine_expr at (unary op e) = fine_expr (at + 1) e
    fine_expr at (binary op l r) =
        fine_if (is_call c l && or_zero op r) (call_marks c true (at + 1) l) (expr_marks c (at + 1) l ++ expr_marks c (at + 1 + expr_count l) r)
        (fine_call true (at + 1) l)
        (fine_join (expr_marks c (at + 1) l) (expr_marks c (at + 1 + expr_count l) r) (fine_expr (at + 1) l) (fine_expr (at + 1 + expr_count l) r))
    fine_expr at (chain e ls) = fine_join (expr_marks c (at + 1) e) (links_marks c (at + 1 + expr_count e) ls) (fine_expr (at + 1) e) (fine_links (at + 1 + expr_count e) ls)
    fine_expr at (cond e a b) =
        fine_join (expr_marks c (at + 1) e) (expr_marks c (at + 1 + expr_count e) a ++ expr_marks c (at + 1 + expr_count e + expr_count a) b) (fine_expr (at + 1) e)
        (fine_join (expr_marks c (at + 1 + expr_count e) a) (expr_marks c (at + 1 + expr_count e + expr_count a) b) (fine_expr (at + 1 + expr_count e) a) (fine_expr (at + 1 + expr_count e + expr_count a) b))
    fine_expr at (comma es) = fine_comma (at + 1) es

    fine_exprs : (at : ℕ) (es : Exprs) → Fine (exprs_marks c at es)
    fine_exprs at no_exprs = λ h. tt
    fine_exprs at (exprs e es) = fine_join (expr_marks c at e) (exprs_marks c (at + expr_count e) es) (fine_expr at e) (fine_exprs (at + expr_count e) es)

    fine_links : (at : ℕ) (ls : Links) → Fine (links_marks c at ls)
    fine_links at no_links = λ h. tt
    fine_links at (links minus e ls) = fine_join (expr_marks c at e) (links_marks c (at + expr_count e) ls) (fine_expr at e) (fine_links (at + expr_count e) ls)

    fine_comma : (at : ℕ) (es : Exprs) → Fine (comma_marks c at es)
    fine_comma at no_exprs = λ h. tt
    fine_comma at (exprs e no_exprs) = fine_expr at e
    fine_comma at (exprs e (exprs x es)) =
        fine_join (if is_call c e then call_marks c false at e else expr_marks c at e) (comma_marks c (at + expr_count e) (exprs x es))
        (fine_if (is_call c e) (call_marks c false at e) (expr_marks c at e) (fine_call false at e) (fine_expr at e))
        (fine_comma (at + expr_count e) (exprs x es))

    fine_call : (result : Bool) (at : ℕ) (e : Expr) → Fine (call_marks c result at e)
    fine_call result at (call n es) =
        fine_join (exprs_marks c (at + 1) es) (callee_marks (named c n) result (exprs_length es) at) (fine_exprs (at + 1) es) (fine_callee (named c n) result (exprs_length es) at (short n))
    fine_call result at (table_call n i es) = fine_join (expr_marks c (at + 1) i) (exprs_marks c (at + 1 + expr_count i) es) (fine_expr (at + 1) i) (fine_exprs (at + 1 + expr_count i) es)
    fine_call result at (lit v) = λ h. tt
    fine_call result at (decimal bs) = λ h. tt
    fine_call result at (var n) = λ h. tt
    fine_call result at (index n i) = λ h. tt
    fine_call result at (assign n e) = λ h. tt
    fine_call result at (store n i e) = λ h. tt
    fine_call result at (unary op e) = λ h. tt
    fine_call result at (binary op l r) = λ h. tt
    fine_call result at (chain e ls) = λ h. tt
    fine_call result at (cond e a b) = λ h. tt
    fine_call result at (comma es) = λ h. tt

  fine_effect : (at : ℕ) (e : Expr) → Fine (effect_marks c at e)
  fine_effect at e = fine_if (is_call c e) (call_marks c false at e) (expr_marks c at e) (fine_call false at e) (fine_expr at e)

  fine_part : (at : ℕ) (o : Option Expr) → Fine (part_marks c at o)
  fine_part at None = λ h. tt
  fine_part at (Some e) = fine_effect at e

  fine_option : (at : ℕ) (o : Option Expr) → Fine (option_marks c at o)
  fine_option at None = λ h. tt
  fine_option at (Some e) = fine_expr at e

  mutual
    fine_stmt : (at : ℕ) (s : Stmt) → Fine (stmt_marks c at s)
    fine_stmt at (block ss) = fine_stmts (at + 1) ss
    fine_stmt at (plain e) = fine_effect (at + 1) e
    fine_stmt at empty = λ h. tt
    fine_stmt at (if_only e s) = fine_join (expr_marks c (at + 1) e) (stmt_marks c (at + 1 + expr_count e) s) (fine_expr (at + 1) e) (fine_stmt (at + 1 + expr_count e) s)
    fine_stmt at (if_else e s r) =
        fine_join (expr_marks c (at + 1) e) (stmt_marks c (at + 1 + expr_count e) s ++ stmt_marks c (at + 1 + expr_count e + stmt_count s) r) (fine_expr (at + 1) e)
        (fine_join (stmt_marks c (at + 1 + expr_count e) s) (stmt_marks c (at + 1 + expr_count e + stmt_count s) r) (fine_stmt (at + 1 + expr_count e) s) (fine_stmt (at + 1 + expr_count e + stmt_count s) r))
    fine_stmt at (returns o) = fine_option (at + 1) o
    fine_stmt at (while_loop e s) = fine_join (expr_marks c (at + 1) e) (stmt_marks c (at + 1 + expr_count e) s) (fine_expr (at + 1) e) (fine_stmt (at + 1 + expr_count e) s)
    fine_stmt at (do_while s e) = fine_join (stmt_marks c (at + 1) s) (expr_marks c (at + 1 + stmt_count s) e) (fine_stmt (at + 1) s) (fine_expr (at + 1 + stmt_count s) e)
    fine_stmt at (for_loop x y z s) =
        let at1 = at + 1 + option_count x in
        let at2 = at + 1 + option_count x + option_count y in
        let at3 = at + 1 + option_count x + option_count y + option_count z in
        fine_join (part_marks c (at + 1) x) (option_marks c at1 y ++ (part_marks c at2 z ++ stmt_marks c at3 s)) (fine_part (at + 1) x)
        (fine_join (option_marks c at1 y) (part_marks c at2 z ++ stmt_marks c at3 s) (fine_option at1 y)
        (fine_join (part_marks c at2 z) (stmt_marks c at3 s) (fine_part at2 z) (fine_stmt at3 s)))
    fine_stmt at (breaks l) = λ h. tt
    fine_stmt at (continues l) = λ h. tt
    fine_stmt at (labelled ls s) = fine_stmt (at + 1) s
    fine_stmt at (switches e cs) =
        let few = nat_le (clauses_length cs) most_clauses in
        fine_join (expr_marks c (at + 1) e) (rows_of (need few PastLimit at) ++ clauses_marks c (at + 1 + expr_count e) cs) (fine_expr (at + 1) e)
        (fine_join (rows_of (need few PastLimit at)) (clauses_marks c (at + 1 + expr_count e) cs) (fine_row few at) (fine_clauses (at + 1 + expr_count e) cs))

    pub fine_stmts : (at : ℕ) (ss : Stmts) → Fine (stmts_marks c at ss)
    fine_stmts at no_stmts = λ h. tt
    fine_stmts at (stmts s ss) = fine_join (stmt_marks c at s) (stmts_marks c (at + stmt_count s) ss) (fine_stmt at s) (fine_stmts (at + stmt_count s) ss)

    fine_clauses : (at : ℕ) (cs : Clauses) → Fine (clauses_marks c at cs)
    fine_clauses at no_clauses = λ h. tt
    fine_clauses at (clauses v ss cs) = fine_join (stmts_marks c at ss) (clauses_marks c (at + stmts_count ss) cs) (fine_stmts at ss) (fine_clauses (at + stmts_count ss) cs)
