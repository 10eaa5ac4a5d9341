-- The rows of types, which come where no row of names does.
use Rattle.std.specs.Prelude.{ℕ, ◌+◌, Bool, true, false, not, ◌&&◌, List, [], ◌∷◌, ◌++◌, length, Option, Some, None, ◌==◌, nat_le, if◌then◌else◌, is_some}
use Rattle.sem_words.specs.declared.js_value.JsOp.TheVariants.{Sar}
use Rattle.sem_words.specs.declared.js_value.JsUnary.{JsUnary}
use Rattle.sem_words.specs.declared.js_value.JsUnary.TheVariants.{Plus}
use Rattle.asm_types.specs.declared.value_type.ValueType.{ValueType}
use Rattle.asm_types.specs.declared.value_type.ValueType.TheVariants.{Signed, Int, Intish, Extern}
use Rattle.asm_types.specs.Types.{is_below}
use Rattle.asm_lang.specs.Trees.{Init}
use Rattle.asm_lang.specs.Modules.{Expr, lit, decimal as decimal_expr, var, index, call, table_call, assign, store, unary, binary, chain, cond, comma, Exprs, no_exprs, exprs, Links, no_links, links, Stmt, block, plain, empty, if_only, if_else, returns, while_loop, do_while, for_loop, breaks, continues, labelled, switches, Stmts, no_stmts, stmts, Clauses, no_clauses, clauses, Variable, Function, Table, Module}
use Rattle.asm_lang_valid.specs.declared.rule.Rule.{Rule}
use Rattle.asm_lang_valid.specs.declared.rule.Rule.TheVariants.{LiteralRange, OutsideInteger, Operand, CallShape, BareByteIndex, ViewShift, TableSize, TableMask, ReturnKind, Label, SwitchCases, ChainLong}
use Rattle.asm_lang_valid.specs.Scope.{shift_of, Meaning, an_outside, a_view}
use Rattle.asm_lang_valid.specs.Rows.{Met, need, expr_count, option_count, stmt_count, stmts_count, body_at, function_count, functions_at, tables_at}
use Rattle.asm_lang_valid.specs.Typing.{Scope, named, literal_type, most_operators, links_length, typed_below, is_int, index_form, operated, exprs_length, is_call, or_zero, callee_fits, table_fits, mask_fits, type_of, all_below, links_fit, Around, at_top, in_a_loop, in_a_switch, under_labels, new_labels, break_fits, continue_fits, cases_fit, return_fits}
use Rattle.asm_lang_valid.specs.Typed.{scope_of, literal_fits, member_fits, table_typed}

-- ---- expressions

-- the row of an expression whose type has to be below this one; where it has no type, an earlier row is met
abbrev pub agrees : ValueType → Option ValueType → Bool
agrees top None = true
agrees top (Some t) = is_below t top

abbrev pub is_outside : Meaning → Bool
is_outside an_outside = true
is_outside _ = false

abbrev pub used : Meaning → ℕ → List Met
used m at = need (not (is_outside m)) OutsideInteger at

-- which rule an index breaks
abbrev pub index_rule : ℕ → Expr → Rule
index_rule k (lit v) = ViewShift
index_rule k (binary Sar e s) = ViewShift
index_rule k i = if k == 0 then BareByteIndex else ViewShift

abbrev pub element_rows : Meaning → Expr → Option ValueType → ℕ → List Met
element_rows (a_view v) i t at = need (index_form (shift_of v) i t) (index_rule (shift_of v) i) at
element_rows _ i t at = need false OutsideInteger at

abbrev pub unary_rule : JsUnary → Rule
unary_rule Plus = OutsideInteger
unary_rule _ = Operand

abbrev mutual
  -- an expression where no call may stand, as node `at`
  pub expr_rows : Scope → ℕ → Expr → List Met
  expr_rows c at (lit v) = need (is_some (literal_type v)) LiteralRange at
  expr_rows c at (decimal_expr bs) = need false OutsideInteger at
  expr_rows c at (var n) = need (is_int (named c n)) OutsideInteger at
  expr_rows c at (index n i) = expr_rows c (at + 1) i ++ element_rows (named c n) i (type_of c i) at
  expr_rows c at (call n es) = exprs_rows c (at + 1) es ++ (used (named c n) at ++ need (is_some (type_of c (call n es))) CallShape at)
  expr_rows c at (table_call n i es) = expr_rows c (at + 1) i ++ (exprs_rows c (at + 1 + expr_count i) es ++ (used (named c n) at ++ need false CallShape at))
  expr_rows c at (assign n e) = expr_rows c (at + 1) e ++ (need (is_int (named c n)) OutsideInteger at ++ need (agrees Int (type_of c e)) Operand at)
  expr_rows c at (store n i e) =
      expr_rows c (at + 1) i ++ (expr_rows c (at + 1 + expr_count i) e ++ (used (named c n) at ++ (need (agrees Intish (type_of c e)) Operand at ++ element_rows (named c n) i (type_of c i) at)))
  expr_rows c at (unary op e) = expr_rows c (at + 1) e ++ need (is_some (type_of c (unary op e))) (unary_rule op) at
  expr_rows c at (binary op l r) =
      if is_call c l && or_zero op r then call_rows c true (at + 1) l
      else expr_rows c (at + 1) l ++ (expr_rows c (at + 1 + expr_count l) r ++ need (is_some (operated op l r (type_of c l) (type_of c r))) Operand at)
  expr_rows c at (chain e ls) =
      expr_rows c (at + 1) e ++ (links_rows c (at + 1 + expr_count e) ls ++ (need (typed_below Int (type_of c e) && links_fit c ls) Operand at ++ need (nat_le (links_length ls) most_operators) ChainLong at))
  expr_rows c at (cond e a b) =
      expr_rows c (at + 1) e
      ++ (need (agrees Int (type_of c e)) Operand (at + 1)
      ++ (expr_rows c (at + 1 + expr_count e) a
      ++ (expr_rows c (at + 1 + expr_count e + expr_count a) b ++ need (agrees Int (type_of c a) && agrees Int (type_of c b)) Operand at)))
  expr_rows c at (comma es) = comma_rows c (at + 1) es

  -- the first of them is node `at`, and likewise below
  pub exprs_rows : Scope → ℕ → Exprs → List Met
  exprs_rows c at no_exprs = []
  exprs_rows c at (exprs e es) = expr_rows c at e ++ exprs_rows c (at + expr_count e) es

  pub links_rows : Scope → ℕ → Links → List Met
  links_rows c at no_links = []
  links_rows c at (links minus e ls) = expr_rows c at e ++ links_rows c (at + expr_count e) ls

  -- a comma without a part, which the grammar doesn't have, is no operand
  pub comma_rows : Scope → ℕ → Exprs → List Met
  comma_rows c at no_exprs = need false Operand at
  comma_rows c at (exprs e no_exprs) = expr_rows c at e
  comma_rows c at (exprs e (exprs x es)) = (if is_call c e then call_rows c false at e else expr_rows c at e) ++ comma_rows c (at + expr_count e) (exprs x es)

  -- a call with a result or without, where it may stand
  pub call_rows : Scope → Bool → ℕ → Expr → List Met
  call_rows c result at (call n es) =
      exprs_rows c (at + 1) es ++ (used (named c n) at ++ need (callee_fits (named c n) result (exprs_length es) (all_below c Int es) (all_below c Extern es)) CallShape at)
  call_rows c result at (table_call n i es) =
      expr_rows c (at + 1) i
      ++ (exprs_rows c (at + 1 + expr_count i) es
      ++ (used (named c n) at
      ++ (need (table_fits c.home (named c n) result (exprs_length es) (all_below c Int es)) CallShape at ++ need (mask_fits (named c n) i) TableMask at)))
  call_rows c result at _ = []

-- an expression whose value isn't used, or a call without a result
abbrev pub effect_rows : Scope → ℕ → Expr → List Met
effect_rows c at e = if is_call c e then call_rows c false at e else expr_rows c at e

abbrev pub part_rows : Scope → ℕ → Option Expr → List Met
part_rows c at None = []
part_rows c at (Some e) = effect_rows c at e

-- ---- statements

abbrev pub condition_rows : Scope → ℕ → Expr → List Met
condition_rows c at e = expr_rows c at e ++ need (agrees Int (type_of c e)) Operand at

abbrev pub option_rows : Scope → ℕ → Option Expr → List Met
option_rows c at None = []
option_rows c at (Some e) = condition_rows c at e

abbrev pub value_rows : Scope → ℕ → Option Expr → List Met
value_rows c at None = []
value_rows c at (Some e) = expr_rows c at e

abbrev mutual
  pub stmt_rows : Scope → Around → ℕ → Stmt → List Met
  stmt_rows c a at (block ss) = stmts_rows c a (at + 1) ss
  stmt_rows c a at (plain e) = effect_rows c (at + 1) e
  stmt_rows c a at empty = []
  stmt_rows c a at (if_only e s) = condition_rows c (at + 1) e ++ stmt_rows c a (at + 1 + expr_count e) s
  stmt_rows c a at (if_else e s r) = condition_rows c (at + 1) e ++ (stmt_rows c a (at + 1 + expr_count e) s ++ stmt_rows c a (at + 1 + expr_count e + stmt_count s) r)
  stmt_rows c a at (returns o) = value_rows c (at + 1) o ++ need (return_fits c o) ReturnKind at
  stmt_rows c a at (while_loop e s) = condition_rows c (at + 1) e ++ stmt_rows c (in_a_loop a) (at + 1 + expr_count e) s
  stmt_rows c a at (do_while s e) = stmt_rows c (in_a_loop a) (at + 1) s ++ condition_rows c (at + 1 + stmt_count s) e
  stmt_rows c a at (for_loop x y z s) =
      part_rows c (at + 1) x
      ++ (option_rows c (at + 1 + option_count x) y
      ++ (part_rows c (at + 1 + option_count x + option_count y) z ++ stmt_rows c (in_a_loop a) (at + 1 + option_count x + option_count y + option_count z) s))
  stmt_rows c a at (breaks l) = need (break_fits a l) Label at
  stmt_rows c a at (continues l) = need (continue_fits a l) Label at
  stmt_rows c a at (labelled ls s) = need (new_labels ls a.labels) Label at ++ stmt_rows c (under_labels ls s a) (at + 1) s
  stmt_rows c a at (switches e cs) =
      expr_rows c (at + 1) e ++ (need (agrees Signed (type_of c e)) Operand (at + 1) ++ (need (cases_fit cs) SwitchCases at ++ clauses_rows c (in_a_switch a) (at + 1 + expr_count e) cs))

  pub stmts_rows : Scope → Around → ℕ → Stmts → List Met
  stmts_rows c a at no_stmts = []
  stmts_rows c a at (stmts s ss) = stmt_rows c a at s ++ stmts_rows c a (at + stmt_count s) ss

  pub clauses_rows : Scope → Around → ℕ → Clauses → List Met
  clauses_rows c a at no_clauses = []
  clauses_rows c a at (clauses v ss cs) = stmts_rows c a at ss ++ clauses_rows c a (at + stmts_count ss) cs

-- ---- declarations

abbrev pub literal_rows : Init → ℕ → List Met
literal_rows i at = need (literal_fits i) LiteralRange at

abbrev pub member_rows : Module → Init → ℕ → List Met
member_rows m i at = need (member_fits m i) OutsideInteger at

abbrev pub globals_rows : Module → ℕ → List Variable → List Met
globals_rows m at [] = []
globals_rows m at (v ∷ vs) = literal_rows v.init at ++ (member_rows m v.init at ++ globals_rows m (at + 1) vs)

abbrev pub locals_rows : ℕ → List Variable → List Met
locals_rows at [] = []
locals_rows at (v ∷ vs) = literal_rows v.init at ++ locals_rows (at + 1) vs

abbrev pub function_rows : Module → ℕ → Function → List Met
function_rows m at f = locals_rows (at + 1 + length f.params) f.locals ++ stmts_rows (scope_of m f) at_top (body_at f at) f.body

abbrev pub functions_rows : Module → ℕ → List Function → List Met
functions_rows m at [] = []
functions_rows m at (f ∷ fs) = function_rows m at f ++ functions_rows m (at + function_count f) fs

abbrev pub tables_rows : Module → ℕ → List Table → List Met
tables_rows m at [] = []
tables_rows m at (t ∷ ts) = need (table_typed m t) TableSize at ++ tables_rows m (at + 1) ts

abbrev pub type_rows : Module → List Met
type_rows m = globals_rows m 1 m.globals ++ (functions_rows m (functions_at m) m.functions ++ tables_rows m (tables_at m) m.tables)
