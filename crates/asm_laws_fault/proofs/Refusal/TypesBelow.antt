-- The rows of types of what has its nodes below a number.
use Rattle.std.proofs.Common.{◌≡◌, refl, ℕ, ◌+◌, ◌<◌, ◌≤◌, Bool, true, false, List, [], ◌∷◌, length, Option, Some, None, arith}
use Rattle.std.specs.Prelude.{not, ◌&&◌, nat_le, is_some}
use Rattle.asm_lang.specs.Modules.{Expr, lit, decimal as decimal_expr, var, index, call, table_call, assign, store, unary, binary, chain, cond, comma, Exprs, no_exprs, exprs, Links, no_links, links, Stmt, block, plain, empty, if_only, if_else, returns, while_loop, do_while, for_loop, breaks, continues, labelled, switches, Stmts, no_stmts, stmts, Clauses, no_clauses, clauses, Variable, Function, Table, Module}
use Rattle.asm_types.specs.declared.value_type.ValueType.{ValueType}
use Rattle.asm_types.specs.declared.value_type.ValueType.TheVariants.{Signed, Int, Intish, Extern}
use Rattle.asm_lang_valid.specs.declared.rule.Rule.TheVariants.{LiteralRange, OutsideInteger, Operand, CallShape, TableSize, TableMask, ReturnKind, Label, SwitchCases, ChainLong}
use Rattle.asm_lang_valid.specs.Scope.{shift_of, Meaning, a_view}
use Rattle.asm_lang_valid.specs.Rows.{expr_count, exprs_count, links_count, option_count, stmt_count, stmts_count, clauses_count, body_at, function_count, functions_count, functions_at, tables_at, exports_at}
use Rattle.asm_lang_valid.specs.Typing.{Scope, named, literal_type, most_operators, links_length, typed_below, is_int, index_form, operated, exprs_length, is_call, or_zero, callee_fits, table_fits, mask_fits, type_of, all_below, links_fit, Around, at_top, in_a_loop, in_a_switch, under_labels, new_labels, break_fits, continue_fits, cases_fit, return_fits}
use Rattle.asm_lang_valid.specs.Typed.{scope_of, literal_fits, member_fits, table_typed}
use Rattle.asm_lang_valid.specs.TypeRows.{agrees, is_outside, used, index_rule, element_rows, unary_rule, expr_rows, exprs_rows, links_rows, comma_rows, call_rows, effect_rows, part_rows, condition_rows, option_rows, value_rows, stmt_rows, stmts_rows, clauses_rows, globals_rows, locals_rows, function_rows, functions_rows, tables_rows, type_rows}
use Rattle.std.specs.List.{AllByRecursion}
use Rattle.asm_laws_print.specs.Spelled.{two_exprs, FitsExpr, FitsExprs, FitsLinks}
use Rattle.asm_laws_print.specs.Fitting.{FitsOption, FitsStmt, FitsStmts, FitsClauses, FitsFunction, FitsModule}
use Rattle.asm_laws_fault.proofs.Refusal.Below.{AllBelow, both, needed, either}

abbrev some_exprs : Exprs → Bool
some_exprs no_exprs = false
some_exprs (exprs e es) = true

some_of_two : (es : Exprs) → two_exprs es ≡ true → some_exprs es ≡ true
some_of_two no_exprs h = h
some_of_two (exprs e es) h = refl

-- an expression is a node
some_node : (e : Expr) → 1 ≤ expr_count e
some_node (lit v) = omega arith
some_node (decimal_expr bs) = omega arith
some_node (var x) = omega arith
some_node (index x i) = omega arith
some_node (call x es) = omega arith
some_node (table_call x i es) = omega arith
some_node (assign x e) = omega arith
some_node (store x i e) = omega arith
some_node (unary op e) = omega arith
some_node (binary op l r) = omega arith
some_node (chain e ls) = omega arith
some_node (cond e a b) = omega arith
some_node (comma es) = omega arith

module _ (n : ℕ) where
  used_below : (m : Meaning) (at : ℕ) → at < n → AllBelow n (used m at)
  used_below m at h = needed n (not (is_outside m)) OutsideInteger at h

  element_below : (m : Meaning) (i : Expr) (t : Option ValueType) (at : ℕ) → at < n → AllBelow n (element_rows m i t at)
  element_below (a_view v) i t at h = needed n (index_form (shift_of v) i t) (index_rule (shift_of v) i) at h
  element_below _ i t at h = (h, tt)

  mutual
    expr_below : (c : Scope) (at : ℕ) (e : Expr) → FitsExpr e → at + expr_count e ≤ n → AllBelow n (expr_rows c at e)
    expr_below c at (lit v) f h = needed n (is_some (literal_type v)) LiteralRange at (omega arith)
    expr_below c at (decimal_expr bs) f h = needed n false OutsideInteger at (omega arith)
    expr_below c at (var x) f h = needed n (is_int (named c x)) OutsideInteger at (omega arith)
    expr_below c at (index x i) f h = both n _ _ (expr_below c (at + 1) i f.1 (omega arith)) (element_below (named c x) i (type_of c i) at (omega arith))
    expr_below c at (call x es) f h =
        both n _ _ (exprs_below c (at + 1) es f.1 (omega arith)) (both n _ _ (used_below (named c x) at (omega arith)) (needed n (is_some (type_of c (call x es))) CallShape at (omega arith)))
    expr_below c at (table_call x i es) f h =
        both n _ _ (expr_below c (at + 1) i f.1 (omega arith))
        (both n _ _ (exprs_below c (at + 1 + expr_count i) es f.2 (omega arith)) (both n _ _ (used_below (named c x) at (omega arith)) (needed n false CallShape at (omega arith))))
    expr_below c at (assign x e) f h =
        both n _ _ (expr_below c (at + 1) e f.1 (omega arith))
        (both n _ _ (needed n (is_int (named c x)) OutsideInteger at (omega arith)) (needed n (agrees Int (type_of c e)) Operand at (omega arith)))
    expr_below c at (store x i e) f h =
        both n _ _ (expr_below c (at + 1) i f.1 (omega arith))
        (both n _ _ (expr_below c (at + 1 + expr_count i) e f.2 (omega arith))
        (both n _ _ (used_below (named c x) at (omega arith))
        (both n _ _ (needed n (agrees Intish (type_of c e)) Operand at (omega arith)) (element_below (named c x) i (type_of c i) at (omega arith)))))
    expr_below c at (unary op e) f h = both n _ _ (expr_below c (at + 1) e f (omega arith)) (needed n (is_some (type_of c (unary op e))) (unary_rule op) at (omega arith))
    expr_below c at (binary op l r) f h =
        either n (is_call c l && or_zero op r) _ _ (call_below c true (at + 1) l f.1 (omega arith))
        (both n _ _ (expr_below c (at + 1) l f.1 (omega arith))
        (both n _ _ (expr_below c (at + 1 + expr_count l) r f.2 (omega arith)) (needed n (is_some (operated op l r (type_of c l) (type_of c r))) Operand at (omega arith))))
    expr_below c at (chain e ls) f h =
        both n _ _ (expr_below c (at + 1) e f.2 (omega arith))
        (both n _ _ (links_below c (at + 1 + expr_count e) ls f.3 (omega arith))
        (both n _ _ (needed n (typed_below Int (type_of c e) && links_fit c ls) Operand at (omega arith)) (needed n (nat_le (links_length ls) most_operators) ChainLong at (omega arith))))
    expr_below c at (cond e a b) f h =
        let some : 1 ≤ expr_count e = some_node e in
        both n _ _ (expr_below c (at + 1) e f.0 (omega arith))
        (both n _ _ (needed n (agrees Int (type_of c e)) Operand (at + 1) (omega arith))
        (both n _ _ (expr_below c (at + 1 + expr_count e) a f.1 (omega arith))
        (both n _ _ (expr_below c (at + 1 + expr_count e + expr_count a) b f.2 (omega arith)) (needed n (agrees Int (type_of c a) && agrees Int (type_of c b)) Operand at (omega arith)))))
    expr_below c at (comma es) f h = comma_below c (at + 1) es (some_of_two es f.0) f.1 (omega arith)

    exprs_below : (c : Scope) (at : ℕ) (es : Exprs) → FitsExprs es → at + exprs_count es ≤ n → AllBelow n (exprs_rows c at es)
    exprs_below c at no_exprs f h = tt
    exprs_below c at (exprs e es) f h = both n _ _ (expr_below c at e f.0 (omega arith)) (exprs_below c (at + expr_count e) es f.1 (omega arith))

    links_below : (c : Scope) (at : ℕ) (ls : Links) → FitsLinks ls → at + links_count ls ≤ n → AllBelow n (links_rows c at ls)
    links_below c at no_links f h = tt
    links_below c at (links minus e ls) f h = both n _ _ (expr_below c at e f.0 (omega arith)) (links_below c (at + expr_count e) ls f.1 (omega arith))

    comma_below : (c : Scope) (at : ℕ) (es : Exprs) → some_exprs es ≡ true → FitsExprs es → at + exprs_count es ≤ n → AllBelow n (comma_rows c at es)
    comma_below c at no_exprs some f h = absurd cc
    comma_below c at (exprs e no_exprs) some f h = expr_below c at e f.0 (omega arith)
    comma_below c at (exprs e (exprs x es)) some f h =
        both n _ _ (either n (is_call c e) _ _ (call_below c false at e f.0 (omega arith)) (expr_below c at e f.0 (omega arith))) (comma_below c (at + expr_count e) (exprs x es) refl f.1 (omega arith))

    call_below : (c : Scope) (result : Bool) (at : ℕ) (e : Expr) → FitsExpr e → at + expr_count e ≤ n → AllBelow n (call_rows c result at e)
    call_below c result at (call x es) f h =
        both n _ _ (exprs_below c (at + 1) es f.1 (omega arith))
        (both n _ _ (used_below (named c x) at (omega arith)) (needed n (callee_fits (named c x) result (exprs_length es) (all_below c Int es) (all_below c Extern es)) CallShape at (omega arith)))
    call_below c result at (table_call x i es) f h =
        both n _ _ (expr_below c (at + 1) i f.1 (omega arith))
        (both n _ _ (exprs_below c (at + 1 + expr_count i) es f.2 (omega arith))
        (both n _ _ (used_below (named c x) at (omega arith))
        (both n _ _ (needed n (table_fits c.home (named c x) result (exprs_length es) (all_below c Int es)) CallShape at (omega arith)) (needed n (mask_fits (named c x) i) TableMask at (omega arith)))))
    call_below c result at _ f h = tt

  effect_below : (c : Scope) (at : ℕ) (e : Expr) → FitsExpr e → at + expr_count e ≤ n → AllBelow n (effect_rows c at e)
  effect_below c at e f h = either n (is_call c e) _ _ (call_below c false at e f h) (expr_below c at e f h)

  part_below : (c : Scope) (at : ℕ) (o : Option Expr) → FitsOption o → at + option_count o ≤ n → AllBelow n (part_rows c at o)
  part_below c at None f h = tt
  part_below c at (Some e) f h = effect_below c at e f h

  condition_below : (c : Scope) (at : ℕ) (e : Expr) → FitsExpr e → at + expr_count e ≤ n → AllBelow n (condition_rows c at e)
  condition_below c at e f h = let some : 1 ≤ expr_count e = some_node e in both n _ _ (expr_below c at e f h) (needed n (agrees Int (type_of c e)) Operand at (omega arith))

  option_below : (c : Scope) (at : ℕ) (o : Option Expr) → FitsOption o → at + option_count o ≤ n → AllBelow n (option_rows c at o)
  option_below c at None f h = tt
  option_below c at (Some e) f h = condition_below c at e f h

  value_below : (c : Scope) (at : ℕ) (o : Option Expr) → FitsOption o → at + option_count o ≤ n → AllBelow n (value_rows c at o)
  value_below c at None f h = tt
  value_below c at (Some e) f h = expr_below c at e f h

  mutual
    stmt_below : (c : Scope) (a : Around) (at : ℕ) (s : Stmt) → FitsStmt s → at + stmt_count s ≤ n → AllBelow n (stmt_rows c a at s)
    stmt_below c a at (block ss) f h = stmts_below c a (at + 1) ss f (omega arith)
    stmt_below c a at (plain e) f h = effect_below c (at + 1) e f (omega arith)
    stmt_below c a at empty f h = tt
    stmt_below c a at (if_only e s) f h = both n _ _ (condition_below c (at + 1) e f.0 (omega arith)) (stmt_below c a (at + 1 + expr_count e) s f.1 (omega arith))
    stmt_below c a at (if_else e s r) f h =
        both n _ _ (condition_below c (at + 1) e f.0 (omega arith))
        (both n _ _ (stmt_below c a (at + 1 + expr_count e) s f.2 (omega arith)) (stmt_below c a (at + 1 + expr_count e + stmt_count s) r f.3 (omega arith)))
    stmt_below c a at (returns o) f h = both n _ _ (value_below c (at + 1) o f (omega arith)) (needed n (return_fits c o) ReturnKind at (omega arith))
    stmt_below c a at (while_loop e s) f h = both n _ _ (condition_below c (at + 1) e f.0 (omega arith)) (stmt_below c (in_a_loop a) (at + 1 + expr_count e) s f.1 (omega arith))
    stmt_below c a at (do_while s e) f h = both n _ _ (stmt_below c (in_a_loop a) (at + 1) s f.0 (omega arith)) (condition_below c (at + 1 + stmt_count s) e f.1 (omega arith))
    stmt_below c a at (for_loop x y z s) f h =
        both n _ _ (part_below c (at + 1) x f.0 (omega arith))
        (both n _ _ (option_below c (at + 1 + option_count x) y f.1 (omega arith))
        (both n _ _ (part_below c (at + 1 + option_count x + option_count y) z f.2 (omega arith))
        (stmt_below c (in_a_loop a) (at + 1 + option_count x + option_count y + option_count z) s f.3 (omega arith))))
    stmt_below c a at (breaks l) f h = needed n (break_fits a l) Label at (omega arith)
    stmt_below c a at (continues l) f h = needed n (continue_fits a l) Label at (omega arith)
    stmt_below c a at (labelled ls s) f h = both n _ _ (needed n (new_labels ls a.labels) Label at (omega arith)) (stmt_below c (under_labels ls s a) (at + 1) s f.3 (omega arith))
    stmt_below c a at (switches e cs) f h =
        let some : 1 ≤ expr_count e = some_node e in
        both n _ _ (expr_below c (at + 1) e f.0 (omega arith))
        (both n _ _ (needed n (agrees Signed (type_of c e)) Operand (at + 1) (omega arith))
        (both n _ _ (needed n (cases_fit cs) SwitchCases at (omega arith)) (clauses_below c (in_a_switch a) (at + 1 + expr_count e) cs f.1 (omega arith))))

    stmts_below : (c : Scope) (a : Around) (at : ℕ) (ss : Stmts) → FitsStmts ss → at + stmts_count ss ≤ n → AllBelow n (stmts_rows c a at ss)
    stmts_below c a at no_stmts f h = tt
    stmts_below c a at (stmts s ss) f h = both n _ _ (stmt_below c a at s f.0 (omega arith)) (stmts_below c a (at + stmt_count s) ss f.1 (omega arith))

    clauses_below : (c : Scope) (a : Around) (at : ℕ) (cs : Clauses) → FitsClauses cs → at + clauses_count cs ≤ n → AllBelow n (clauses_rows c a at cs)
    clauses_below c a at no_clauses f h = tt
    clauses_below c a at (clauses None ss no_clauses) f h = both n _ _ (stmts_below c a at ss f.0 (omega arith)) tt
    clauses_below c a at (clauses None ss (clauses v rs cs)) f h = absurd cc
    clauses_below c a at (clauses (Some v) ss cs) f h = both n _ _ (stmts_below c a at ss f.1 (omega arith)) (clauses_below c a (at + stmts_count ss) cs f.2 (omega arith))

  -- ---- declarations

  globals_below : (m : Module) (at : ℕ) (vs : List Variable) → at + length vs ≤ n → AllBelow n (globals_rows m at vs)
  globals_below m at [] h = tt
  globals_below m at (v ∷ vs) h =
      both n _ _ (needed n (literal_fits v.init) LiteralRange at (omega arith))
      (both n _ _ (needed n (member_fits m v.init) OutsideInteger at (omega arith)) (globals_below m (at + 1) vs (omega arith)))

  locals_below : (at : ℕ) (vs : List Variable) → at + length vs ≤ n → AllBelow n (locals_rows at vs)
  locals_below at [] h = tt
  locals_below at (v ∷ vs) h = both n _ _ (needed n (literal_fits v.init) LiteralRange at (omega arith)) (locals_below (at + 1) vs (omega arith))

  function_below : (m : Module) (at : ℕ) (f : Function) → FitsFunction f → at + function_count f ≤ n → AllBelow n (function_rows m at f)
  function_below m at f fits h = both n _ _ (locals_below (at + 1 + length f.params) f.locals (omega arith)) (stmts_below (scope_of m f) at_top (body_at f at) f.body fits.body (omega arith))

  functions_below : (m : Module) (at : ℕ) (fs : List Function) → AllByRecursion FitsFunction fs → at + functions_count fs ≤ n → AllBelow n (functions_rows m at fs)
  functions_below m at [] fits h = tt
  functions_below m at (f ∷ fs) fits h = both n _ _ (function_below m at f fits.0 (omega arith)) (functions_below m (at + function_count f) fs fits.1 (omega arith))

  tables_below : (m : Module) (at : ℕ) (ts : List Table) → at + length ts ≤ n → AllBelow n (tables_rows m at ts)
  tables_below m at [] h = tt
  tables_below m at (t ∷ ts) h = both n _ _ (needed n (table_typed m t) TableSize at (omega arith)) (tables_below m (at + 1) ts (omega arith))

  pub types_below : (m : Module) → FitsModule m → exports_at m ≤ n → AllBelow n (type_rows m)
  types_below m fits h =
      both n _ _ (globals_below m 1 m.globals (omega arith))
      (both n _ _ (functions_below m (functions_at m) m.functions fits.functions (omega arith)) (tables_below m (tables_at m) m.tables (omega arith)))
