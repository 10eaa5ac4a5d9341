-- The rows of limits of what has its nodes below a number.
use Rattle.std.proofs.Common.{ℕ, ◌+◌, ◌<◌, ◌≤◌, Bool, true, false, List, [], ◌∷◌, ◌++◌, length, Option, Some, None, arith}
use Rattle.std.specs.Prelude.{if◌then◌else◌, ◌&&◌, nat_le, nat_lt}
use Rattle.asm_lang.specs.Modules.{Expr, lit, decimal as decimal_expr, var, index, call, table_call, assign, store, unary, binary, chain, cond, comma, Exprs, no_exprs, exprs, Links, no_links, links, Stmt, block, plain, empty, if_only, if_else, returns, while_loop, do_while, for_loop, breaks, continues, labelled, switches, Stmts, no_stmts, stmts, Clauses, no_clauses, clauses, Variable, Function, Table, Module}
use Rattle.asm_lang_valid.specs.declared.rule.Rule.TheVariants.{PastLimit}
use Rattle.asm_lang_valid.specs.Scope.{Meaning, a_foreign}
use Rattle.asm_lang_valid.specs.declared.rule.Met.{Met}
use Rattle.asm_lang_valid.specs.Rows.{need, expr_count, exprs_count, links_count, option_count, stmt_count, stmts_count, clauses_count, body_at, function_count, functions_count, functions_at, tables_at, exports_at}
use Rattle.asm_lang_valid.specs.Typing.{Scope, named, exprs_length, is_call, or_zero}
use Rattle.asm_lang_valid.specs.LimitRows.{most_functions, most_params, most_locals, most_globals, most_foreign_calls, most_members, most_entries, most_clauses, longest_name, ForeignCall, Mark, a_row, a_use, rows_of, callee_marks, expr_marks, exprs_marks, links_marks, comma_marks, call_marks, effect_marks, part_marks, option_marks, clauses_length, stmt_marks, stmts_marks, clauses_marks, member_length, globals_marks, names_marks, function_marks, functions_marks, tables_marks, marks, is_among, rows_after, limit_rows}
use Rattle.asm_laws_fault.proofs.Refusal.Below.{AllBelow, both as both_rows, needed}

abbrev MarkBelow : ℕ → Mark → Type 0
MarkBelow n (a_row x) = x.node < n
MarkBelow n (a_use f at) = at < n

abbrev MarksBelow : ℕ → List Mark → Type 0
MarksBelow n [] = Unit {0}
MarksBelow n (x ∷ xs) = MarkBelow n x × MarksBelow n xs

both : (n : ℕ) (xs ys : List Mark) → MarksBelow n xs → MarksBelow n ys → MarksBelow n (xs ++ ys)
both n [] ys h k = k
both n (x ∷ xs) ys h k = (h.0, both n xs ys h.1 k)

either : (n : ℕ) (b : Bool) (xs ys : List Mark) → MarksBelow n xs → MarksBelow n ys → MarksBelow n (if b then xs else ys)
either n true xs ys h k = h
either n false xs ys h k = k

a_need : (n : ℕ) (b : Bool) (at : ℕ) → at < n → MarksBelow n (rows_of (need b PastLimit at))
a_need n true at h = tt
a_need n false at h = (h, tt)

-- the rows of marks are no further than the marks
use_below : (n : ℕ) (b : Bool) (xs ys : List Met) → AllBelow n xs → AllBelow n ys → AllBelow n (if b then xs else ys)
use_below n true xs ys h k = h
use_below n false xs ys h k = k

rows_below : (n : ℕ) (seen : List ForeignCall) (ms : List Mark) → MarksBelow n ms → AllBelow n (rows_after seen ms)
rows_below n seen [] h = tt
rows_below n seen (a_row x ∷ ms) h = (h.0, rows_below n seen ms h.1)
rows_below n seen (a_use f at ∷ ms) h =
    use_below n (is_among f seen) _ _ (rows_below n seen ms h.1) (both_rows n _ _ (needed n (nat_lt (length seen) most_foreign_calls) PastLimit at h.0) (rows_below n (seen ++ f ∷ []) ms h.1))

module _ (n : ℕ) where
  callee_below : (m : Meaning) (result : Bool) (count at : ℕ) → at < n → MarksBelow n (callee_marks m result count at)
  callee_below (a_foreign p) result count at h = both n _ _ (a_need n (nat_le count most_params) at h) (h, tt)
  callee_below _ result count at h = tt

  mutual
    expr_below : (c : Scope) (at : ℕ) (e : Expr) → at + expr_count e ≤ n → MarksBelow n (expr_marks c at e)
    expr_below c at (lit v) h = tt
    expr_below c at (decimal_expr bs) h = tt
    expr_below c at (var x) h = tt
    expr_below c at (index x i) h = expr_below c (at + 1) i (omega arith)
    expr_below c at (call x es) h = exprs_below c (at + 1) es (omega arith)
    expr_below c at (table_call x i es) h = both n _ _ (expr_below c (at + 1) i (omega arith)) (exprs_below c (at + 1 + expr_count i) es (omega arith))
    expr_below c at (assign x e) h = expr_below c (at + 1) e (omega arith)
    expr_below c at (store x i e) h = both n _ _ (expr_below c (at + 1) i (omega arith)) (expr_below c (at + 1 + expr_count i) e (omega arith))
    expr_below c at (unary op e) h = expr_below c (at + 1) e (omega arith)
    expr_below c at (binary op l r) h =
        either n (is_call c l && or_zero op r) _ _ (call_below c true (at + 1) l (omega arith))
        (both n _ _ (expr_below c (at + 1) l (omega arith)) (expr_below c (at + 1 + expr_count l) r (omega arith)))
    expr_below c at (chain e ls) h = both n _ _ (expr_below c (at + 1) e (omega arith)) (links_below c (at + 1 + expr_count e) ls (omega arith))
    expr_below c at (cond e a b) h =
        both n _ _ (expr_below c (at + 1) e (omega arith)) (both n _ _ (expr_below c (at + 1 + expr_count e) a (omega arith)) (expr_below c (at + 1 + expr_count e + expr_count a) b (omega arith)))
    expr_below c at (comma es) h = comma_below c (at + 1) es (omega arith)

    exprs_below : (c : Scope) (at : ℕ) (es : Exprs) → at + exprs_count es ≤ n → MarksBelow n (exprs_marks c at es)
    exprs_below c at no_exprs h = tt
    exprs_below c at (exprs e es) h = both n _ _ (expr_below c at e (omega arith)) (exprs_below c (at + expr_count e) es (omega arith))

    links_below : (c : Scope) (at : ℕ) (ls : Links) → at + links_count ls ≤ n → MarksBelow n (links_marks c at ls)
    links_below c at no_links h = tt
    links_below c at (links minus e ls) h = both n _ _ (expr_below c at e (omega arith)) (links_below c (at + expr_count e) ls (omega arith))

    comma_below : (c : Scope) (at : ℕ) (es : Exprs) → at + exprs_count es ≤ n → MarksBelow n (comma_marks c at es)
    comma_below c at no_exprs h = tt
    comma_below c at (exprs e no_exprs) h = expr_below c at e (omega arith)
    comma_below c at (exprs e (exprs x es)) h =
        both n _ _ (either n (is_call c e) _ _ (call_below c false at e (omega arith)) (expr_below c at e (omega arith))) (comma_below c (at + expr_count e) (exprs x es) (omega arith))

    call_below : (c : Scope) (result : Bool) (at : ℕ) (e : Expr) → at + expr_count e ≤ n → MarksBelow n (call_marks c result at e)
    call_below c result at (call x es) h = both n _ _ (exprs_below c (at + 1) es (omega arith)) (callee_below (named c x) result (exprs_length es) at (omega arith))
    call_below c result at (table_call x i es) h = both n _ _ (expr_below c (at + 1) i (omega arith)) (exprs_below c (at + 1 + expr_count i) es (omega arith))
    call_below c result at _ h = tt

  effect_below : (c : Scope) (at : ℕ) (e : Expr) → at + expr_count e ≤ n → MarksBelow n (effect_marks c at e)
  effect_below c at e h = either n (is_call c e) _ _ (call_below c false at e h) (expr_below c at e h)

  part_below : (c : Scope) (at : ℕ) (o : Option Expr) → at + option_count o ≤ n → MarksBelow n (part_marks c at o)
  part_below c at None h = tt
  part_below c at (Some e) h = effect_below c at e h

  option_below : (c : Scope) (at : ℕ) (o : Option Expr) → at + option_count o ≤ n → MarksBelow n (option_marks c at o)
  option_below c at None h = tt
  option_below c at (Some e) h = expr_below c at e h

  mutual
    stmt_below : (c : Scope) (at : ℕ) (s : Stmt) → at + stmt_count s ≤ n → MarksBelow n (stmt_marks c at s)
    stmt_below c at (block ss) h = stmts_below c (at + 1) ss (omega arith)
    stmt_below c at (plain e) h = effect_below c (at + 1) e (omega arith)
    stmt_below c at empty h = tt
    stmt_below c at (if_only e s) h = both n _ _ (expr_below c (at + 1) e (omega arith)) (stmt_below c (at + 1 + expr_count e) s (omega arith))
    stmt_below c at (if_else e s r) h =
        both n _ _ (expr_below c (at + 1) e (omega arith)) (both n _ _ (stmt_below c (at + 1 + expr_count e) s (omega arith)) (stmt_below c (at + 1 + expr_count e + stmt_count s) r (omega arith)))
    stmt_below c at (returns o) h = option_below c (at + 1) o (omega arith)
    stmt_below c at (while_loop e s) h = both n _ _ (expr_below c (at + 1) e (omega arith)) (stmt_below c (at + 1 + expr_count e) s (omega arith))
    stmt_below c at (do_while s e) h = both n _ _ (stmt_below c (at + 1) s (omega arith)) (expr_below c (at + 1 + stmt_count s) e (omega arith))
    stmt_below c at (for_loop x y z s) h =
        both n _ _ (part_below c (at + 1) x (omega arith))
        (both n _ _ (option_below c (at + 1 + option_count x) y (omega arith))
        (both n _ _ (part_below c (at + 1 + option_count x + option_count y) z (omega arith)) (stmt_below c (at + 1 + option_count x + option_count y + option_count z) s (omega arith))))
    stmt_below c at (breaks l) h = tt
    stmt_below c at (continues l) h = tt
    stmt_below c at (labelled ls s) h = stmt_below c (at + 1) s (omega arith)
    stmt_below c at (switches e cs) h =
        both n _ _ (expr_below c (at + 1) e (omega arith)) (both n _ _ (a_need n (nat_le (clauses_length cs) most_clauses) at (omega arith)) (clauses_below c (at + 1 + expr_count e) cs (omega arith)))

    stmts_below : (c : Scope) (at : ℕ) (ss : Stmts) → at + stmts_count ss ≤ n → MarksBelow n (stmts_marks c at ss)
    stmts_below c at no_stmts h = tt
    stmts_below c at (stmts s ss) h = both n _ _ (stmt_below c at s (omega arith)) (stmts_below c (at + stmt_count s) ss (omega arith))

    clauses_below : (c : Scope) (at : ℕ) (cs : Clauses) → at + clauses_count cs ≤ n → MarksBelow n (clauses_marks c at cs)
    clauses_below c at no_clauses h = tt
    clauses_below c at (clauses v ss cs) h = both n _ _ (stmts_below c at ss (omega arith)) (clauses_below c (at + stmts_count ss) cs (omega arith))

  -- ---- declarations

  globals_below : (m : Module) (before at : ℕ) (vs : List Variable) → at + length vs ≤ n → MarksBelow n (globals_marks m before at vs)
  globals_below m before at [] h = tt
  globals_below m before at (v ∷ vs) h =
      both n _ _ (a_need n (nat_lt before most_globals) at (omega arith))
      (both n _ _ (a_need n (nat_le (member_length m v.init) longest_name) at (omega arith)) (globals_below m (before + 1) (at + 1) vs (omega arith)))

  names_below : {A : Type 0} (before limit at : ℕ) (xs : List A) → at + length xs ≤ n → MarksBelow n (names_marks before limit at xs)
  names_below before limit at [] h = tt
  names_below before limit at (x ∷ xs) h = both n _ _ (a_need n (nat_lt before limit) at (omega arith)) (names_below (before + 1) limit (at + 1) xs (omega arith))

  function_below : (m : Module) (before at : ℕ) (f : Function) → at + function_count f ≤ n → MarksBelow n (function_marks m before at f)
  function_below m before at f h =
      both n _ _ (a_need n (nat_lt before most_functions) at (omega arith))
      (both n _ _ (names_below 0 most_params (at + 1) f.params (omega arith))
      (both n _ _ (names_below (length f.params) most_locals (at + 1 + length f.params) f.locals (omega arith)) (stmts_below (record { home = m; within = f }) (body_at f at) f.body (omega arith))))

  functions_below : (m : Module) (before at : ℕ) (fs : List Function) → at + functions_count fs ≤ n → MarksBelow n (functions_marks m before at fs)
  functions_below m before at [] h = tt
  functions_below m before at (f ∷ fs) h = both n _ _ (function_below m before at f (omega arith)) (functions_below m (before + 1) (at + function_count f) fs (omega arith))

  tables_below : (before at : ℕ) (ts : List Table) → at + length ts ≤ n → MarksBelow n (tables_marks before at ts)
  tables_below before at [] h = tt
  tables_below before at (t ∷ ts) h =
      both n _ _ (a_need n (nat_le (length t.members) most_members && nat_le (before + length t.members) most_entries) at (omega arith)) (tables_below (before + length t.members) (at + 1) ts (omega arith))

  pub limits_below : (m : Module) → exports_at m ≤ n → AllBelow n (limit_rows m)
  limits_below m h =
      rows_below n [] (marks m)
      (both n _ _ (globals_below m 0 1 m.globals (omega arith))
      (both n _ _ (functions_below m 0 (functions_at m) m.functions (omega arith)) (tables_below 0 (tables_at m) m.tables (omega arith))))
