-- The rows of names of what has its nodes below a number.
use Rattle.std.proofs.Common.{ℕ, ◌+◌, ◌<◌, ◌≤◌, Bool, false, List, [], ◌∷◌, ◌++◌, length, Option, Some, None, arith}
use Rattle.std.specs.Prelude.{not, ◌||◌}
use Rattle.asm_lang.specs.Trees.{Init}
use Rattle.asm_lang.specs.Modules.{Expr, lit, decimal as decimal_expr, var, index, call, table_call, assign, store, unary, binary, chain, cond, comma, Exprs, no_exprs, exprs, Links, no_links, links, Stmt, block, plain, empty, if_only, if_else, returns, while_loop, do_while, for_loop, breaks, continues, labelled, switches, Stmts, no_stmts, stmts, Clauses, no_clauses, clauses, Variable, Param, Function, Table, Export, Exports, one, many, Module}
use Rattle.asm_lang_valid.specs.declared.rule.Rule.TheVariants.{NameTaken, ForbiddenName, UnknownName, WrongKind}
use Rattle.asm_lang_valid.specs.Scope.{Meaning, is_in}
use Rattle.asm_lang_valid.specs.Rows.{expr_count, exprs_count, links_count, option_count, stmt_count, stmts_count, clauses_count, body_at, function_count, functions_count, functions_at, tables_at, exports_at, exports_count, module_count}
use Rattle.asm_lang_valid.specs.Typing.{Scope, named}
use Rattle.asm_lang_valid.specs.NameRows.{is_forbidden, is_forbidden_key, declares, is_declared, uses, as_variable, as_view, as_callee, as_table, expr_names, exprs_names, links_names, option_names, stmt_names, stmts_names, clauses_names, Imports, with_import, clashes, has_forbidden_member, knows_all, right_parameters, init_rows, global_names, globals_names, params_names, locals_names, param_texts, function_names, functions_names, all_known, all_functions, function_uses, tables_names, declares_key, keys_names, exports_names, all_new, own_name, any_forbidden, global_texts, function_texts, name_rows}
use Rattle.asm_laws_fault.proofs.Refusal.Below.{AllBelow, both, needed, either}

module _ (n : ℕ) where
  uses_below : (m : Meaning) (fits : Bool) (at : ℕ) → at < n → AllBelow n (uses m fits at)
  uses_below m fits at h = either n (is_declared m) _ _ (needed n fits WrongKind at h) (needed n false UnknownName at h)

  declares_below : (before : List (List ℕ)) (x : List ℕ) (at : ℕ) → at < n → AllBelow n (declares before x at)
  declares_below before x at h = both n _ _ (needed n (not (is_in x before)) NameTaken at h) (needed n (not (is_forbidden x)) ForbiddenName at h)

  mutual
    expr_below : (c : Scope) (at : ℕ) (e : Expr) → at + expr_count e ≤ n → AllBelow n (expr_names c at e)
    expr_below c at (lit v) h = tt
    expr_below c at (decimal_expr bs) h = tt
    expr_below c at (var x) h = uses_below (named c x) (as_variable (named c x)) at (omega arith)
    expr_below c at (index x i) h = both n _ _ (expr_below c (at + 1) i (omega arith)) (uses_below (named c x) (as_view (named c x)) at (omega arith))
    expr_below c at (call x es) h = both n _ _ (exprs_below c (at + 1) es (omega arith)) (uses_below (named c x) (as_callee (named c x)) at (omega arith))
    expr_below c at (table_call x i es) h =
        both n _ _ (expr_below c (at + 1) i (omega arith)) (both n _ _ (exprs_below c (at + 1 + expr_count i) es (omega arith)) (uses_below (named c x) (as_table (named c x)) at (omega arith)))
    expr_below c at (assign x e) h = both n _ _ (expr_below c (at + 1) e (omega arith)) (uses_below (named c x) (as_variable (named c x)) at (omega arith))
    expr_below c at (store x i e) h =
        both n _ _ (expr_below c (at + 1) i (omega arith)) (both n _ _ (expr_below c (at + 1 + expr_count i) e (omega arith)) (uses_below (named c x) (as_view (named c x)) at (omega arith)))
    expr_below c at (unary op e) h = expr_below c (at + 1) e (omega arith)
    expr_below c at (binary op l r) h = both n _ _ (expr_below c (at + 1) l (omega arith)) (expr_below c (at + 1 + expr_count l) r (omega arith))
    expr_below c at (chain e ls) h = both n _ _ (expr_below c (at + 1) e (omega arith)) (links_below c (at + 1 + expr_count e) ls (omega arith))
    expr_below c at (cond e a b) h =
        both n _ _ (expr_below c (at + 1) e (omega arith)) (both n _ _ (expr_below c (at + 1 + expr_count e) a (omega arith)) (expr_below c (at + 1 + expr_count e + expr_count a) b (omega arith)))
    expr_below c at (comma es) h = exprs_below c (at + 1) es (omega arith)

    exprs_below : (c : Scope) (at : ℕ) (es : Exprs) → at + exprs_count es ≤ n → AllBelow n (exprs_names c at es)
    exprs_below c at no_exprs h = tt
    exprs_below c at (exprs e es) h = both n _ _ (expr_below c at e (omega arith)) (exprs_below c (at + expr_count e) es (omega arith))

    links_below : (c : Scope) (at : ℕ) (ls : Links) → at + links_count ls ≤ n → AllBelow n (links_names c at ls)
    links_below c at no_links h = tt
    links_below c at (links minus e ls) h = both n _ _ (expr_below c at e (omega arith)) (links_below c (at + expr_count e) ls (omega arith))

  option_below : (c : Scope) (at : ℕ) (o : Option Expr) → at + option_count o ≤ n → AllBelow n (option_names c at o)
  option_below c at None h = tt
  option_below c at (Some e) h = expr_below c at e h

  mutual
    stmt_below : (c : Scope) (at : ℕ) (s : Stmt) → at + stmt_count s ≤ n → AllBelow n (stmt_names c at s)
    stmt_below c at (block ss) h = stmts_below c (at + 1) ss (omega arith)
    stmt_below c at (plain e) h = expr_below c (at + 1) e (omega arith)
    stmt_below c at empty h = tt
    stmt_below c at (if_only e s) h = both n _ _ (expr_below c (at + 1) e (omega arith)) (stmt_below c (at + 1 + expr_count e) s (omega arith))
    stmt_below c at (if_else e s r) h =
        both n _ _ (expr_below c (at + 1) e (omega arith)) (both n _ _ (stmt_below c (at + 1 + expr_count e) s (omega arith)) (stmt_below c (at + 1 + expr_count e + stmt_count s) r (omega arith)))
    stmt_below c at (returns o) h = option_below c (at + 1) o (omega arith)
    stmt_below c at (while_loop e s) h = both n _ _ (expr_below c (at + 1) e (omega arith)) (stmt_below c (at + 1 + expr_count e) s (omega arith))
    stmt_below c at (do_while s e) h = both n _ _ (stmt_below c (at + 1) s (omega arith)) (expr_below c (at + 1 + stmt_count s) e (omega arith))
    stmt_below c at (for_loop x y z s) h =
        both n _ _ (option_below c (at + 1) x (omega arith))
        (both n _ _ (option_below c (at + 1 + option_count x) y (omega arith))
        (both n _ _ (option_below c (at + 1 + option_count x + option_count y) z (omega arith)) (stmt_below c (at + 1 + option_count x + option_count y + option_count z) s (omega arith))))
    stmt_below c at (breaks l) h = tt
    stmt_below c at (continues l) h = tt
    stmt_below c at (labelled ls s) h = stmt_below c (at + 1) s (omega arith)
    stmt_below c at (switches e cs) h = both n _ _ (expr_below c (at + 1) e (omega arith)) (clauses_below c (at + 1 + expr_count e) cs (omega arith))

    stmts_below : (c : Scope) (at : ℕ) (ss : Stmts) → at + stmts_count ss ≤ n → AllBelow n (stmts_names c at ss)
    stmts_below c at no_stmts h = tt
    stmts_below c at (stmts s ss) h = both n _ _ (stmt_below c at s (omega arith)) (stmts_below c (at + stmt_count s) ss (omega arith))

    clauses_below : (c : Scope) (at : ℕ) (cs : Clauses) → at + clauses_count cs ≤ n → AllBelow n (clauses_names c at cs)
    clauses_below c at no_clauses h = tt
    clauses_below c at (clauses v ss cs) h = both n _ _ (stmts_below c at ss (omega arith)) (clauses_below c (at + stmts_count ss) cs (omega arith))

  -- ---- declarations

  init_below : (m : Module) (i : Init) (at : ℕ) → at < n → AllBelow n (init_rows m i at)
  init_below m i at h = either n (knows_all m i) _ _ (needed n (right_parameters m i) WrongKind at h) (needed n false UnknownName at h)

  global_below : (m : Module) (before : List (List ℕ)) (is : Imports) (v : Variable) (at : ℕ) → at < n → AllBelow n (global_names m before is v at)
  global_below m before is v at h =
      both n _ _ (needed n (not (is_in v.name before || clashes m is v.init)) NameTaken at h)
      (both n _ _ (needed n (not (is_forbidden v.name || has_forbidden_member m v.init)) ForbiddenName at h) (init_below m v.init at h))

  globals_below : (m : Module) (before : List (List ℕ)) (is : Imports) (vs : List Variable) (at : ℕ) → at + length vs ≤ n → AllBelow n (globals_names m before is vs at)
  globals_below m before is [] at h = tt
  globals_below m before is (v ∷ vs) at h = both n _ _ (global_below m before is v at (omega arith)) (globals_below m (before ++ v.name ∷ []) (with_import m v.init is) vs (at + 1) (omega arith))

  params_below : (before : List (List ℕ)) (ps : List Param) (at : ℕ) → at + length ps ≤ n → AllBelow n (params_names before ps at)
  params_below before [] at h = tt
  params_below before (p ∷ ps) at h = both n _ _ (declares_below before p.name at (omega arith)) (params_below (before ++ p.name ∷ []) ps (at + 1) (omega arith))

  locals_below : (before : List (List ℕ)) (vs : List Variable) (at : ℕ) → at + length vs ≤ n → AllBelow n (locals_names before vs at)
  locals_below before [] at h = tt
  locals_below before (v ∷ vs) at h = both n _ _ (declares_below before v.name at (omega arith)) (locals_below (before ++ v.name ∷ []) vs (at + 1) (omega arith))

  function_below : (m : Module) (before : List (List ℕ)) (f : Function) (at : ℕ) → at + function_count f ≤ n → AllBelow n (function_names m before f at)
  function_below m before f at h =
      both n _ _ (declares_below before f.name at (omega arith))
      (both n _ _ (params_below [] f.params (at + 1) (omega arith))
      (both n _ _ (locals_below (param_texts f.params) f.locals (at + 1 + length f.params) (omega arith)) (stmts_below (record { home = m; within = f }) (body_at f at) f.body (omega arith))))

  functions_below : (m : Module) (before : List (List ℕ)) (fs : List Function) (at : ℕ) → at + functions_count fs ≤ n → AllBelow n (functions_names m before fs at)
  functions_below m before [] at h = tt
  functions_below m before (f ∷ fs) at h = both n _ _ (function_below m before f at (omega arith)) (functions_below m (before ++ f.name ∷ []) fs (at + function_count f) (omega arith))

  function_uses_below : (m : Module) (ns : List (List ℕ)) (at : ℕ) → at < n → AllBelow n (function_uses m ns at)
  function_uses_below m ns at h = either n (all_known m ns) _ _ (needed n (all_functions m ns) WrongKind at h) (needed n false UnknownName at h)

  tables_below : (m : Module) (before : List (List ℕ)) (ts : List Table) (at : ℕ) → at + length ts ≤ n → AllBelow n (tables_names m before ts at)
  tables_below m before [] at h = tt
  tables_below m before (t ∷ ts) at h =
      both n _ _ (declares_below before t.name at (omega arith)) (both n _ _ (function_uses_below m t.members at (omega arith)) (tables_below m (before ++ t.name ∷ []) ts (at + 1) (omega arith)))

  key_below : (before : List (List ℕ)) (k : List ℕ) (at : ℕ) → at < n → AllBelow n (declares_key before k at)
  key_below before k at h = both n _ _ (needed n (not (is_in k before)) NameTaken at h) (needed n (not (is_forbidden_key k)) ForbiddenName at h)

  keys_below : (m : Module) (before : List (List ℕ)) (es : List Export) (at : ℕ) → at + length es ≤ n → AllBelow n (keys_names m before es at)
  keys_below m before [] at h = tt
  keys_below m before (e ∷ es) at h =
      both n _ _ (key_below before e.key at (omega arith)) (both n _ _ (function_uses_below m (e.function ∷ []) at (omega arith)) (keys_below m (before ++ e.key ∷ []) es (at + 1) (omega arith)))

  exports_below : (m : Module) (es : Exports) (at : ℕ) → at + exports_count es ≤ n → AllBelow n (exports_names m es at)
  exports_below m (one f) at h = function_uses_below m (f ∷ []) at (omega arith)
  exports_below m (many es) at h = keys_below m [] es at h

  pub names_below : (m : Module) → module_count m ≤ n → AllBelow n (name_rows m)
  names_below m h =
      both n _ _ (needed n (all_new [] m.params) NameTaken 0 (omega arith))
      (both n _ _ (needed n (not (any_forbidden (own_name m.name ++ m.params))) ForbiddenName 0 (omega arith))
      (both n _ _ (globals_below m m.params (record { values = []; functions = [] }) m.globals 1 (omega arith))
      (both n _ _ (functions_below m (m.params ++ global_texts m) m.functions (functions_at m) (omega arith))
      (both n _ _ (tables_below m (m.params ++ (global_texts m ++ function_texts m)) m.tables (tables_at m) (omega arith)) (exports_below m m.exports (exports_at m) (omega arith))))))
