-- The height that a module has at least, once a state is reached; and what a state's functions keep of it.
use Rattle.std.proofs.Common.{ℕ, ◌≤◌, ◌+◌, false, List, [], Option, Some, None}
use Rattle.asm_lang.specs.Lexemes.{other, Lexeme}
use Rattle.asm_lang.specs.Trees.{ExprTree, variable, element, ExprTrees, no_expr, StmtTree, empty, if_only, StmtTrees, ClauseTrees, no_clause, one_clause, Init, number, member, VariableTree, ParamTree, ExportTree}
use Rattle.asm_lang.specs.Machine.{State, closes, at_expr, after_minus, after_name, after_index, after_expr, at_arguments, in_rest, ends, ends_do, at_stmt, after_stmt_name, at_option, at_return, at_target, after_arm, after_body, at_stmts, at_clauses, in_case, at_literal, after_sign, at_init, after_member, in_names, at_marks, at_locals, in_locals, may_comma, at_use, at_globals, at_value, in_globals, at_functions, at_tables, in_tables, at_export, at_exports, in_exports, at_end, Step, goes, expects, either, refuses}
use Rattle.asm_lang.specs.TreeHeights.{height, all_height, part_height, stmt_height, body_height, block_height, cases_height, whole_height}
use Rattle.std.specs.Prelude.{pos}
use Rattle.asm_laws_height.specs.Peaks.{peak}
use Rattle.asm_laws_height.proofs.Sizes.{bodies}

abbrev pub least : ExprTree
least = variable 0 []

abbrev pub no_init : Init
no_init = number (pos 0)

abbrev pub no_token : Lexeme
no_token = record { class = other; text = []; value = 0; line = false; at = 0 }

-- ---- the bound

abbrev mutual
  -- with the lowest trees that may stand here
  pub bound : State → ℕ
  bound (closes c q s) = step_bound s
  bound (at_expr p k) = bound (k least)
  bound (after_minus m k) = bound (k least)
  bound (after_name p n k) = bound (k (variable n.at n.text))
  bound (after_index p n i k) = bound (k (element n.at n.text i))
  bound (after_expr p e k) = bound (k e)
  bound (at_arguments k) = bound (k no_expr)
  bound (in_rest es k) = bound (k es)
  bound (ends s) = bound s
  bound (ends_do s) = bound s
  bound (at_stmt k) = bound (k (empty 0))
  bound (after_stmt_name n k) = bound (k (empty 0))
  bound (at_option c q b k) = step_bound (k None)
  bound (at_return k) = bound (k None)
  bound (at_target k) = bound (k None)
  bound (after_arm at c s k) = bound (k (if_only at c s))
  bound (after_body b s) = step_bound s
  bound (at_stmts ss k) = step_bound (k ss)
  bound (at_clauses k) = step_bound (k no_clause)
  bound (in_case v ss k) = step_bound (k (one_clause (Some v) ss no_clause))
  bound (at_literal d k) = bound (k no_init)
  bound (after_sign d m k) = bound (k no_init)
  bound (at_init k) = bound (k no_init)
  bound (after_member f p k) = bound (k (member f.text p.text))
  bound (in_names c q ns k) = step_bound (k ns)
  bound (at_marks ps ds k) = bound (k ds)
  bound (at_locals ls k) = bound (k ls)
  bound (in_locals ls k) = bound (k ls)
  bound (may_comma k s) = bound s
  bound (at_use h) = 0
  bound (at_globals h gs) = 1
  bound (at_value h gs n) = 1
  bound (in_globals h gs) = 1
  bound (at_functions h gs fs) = 1 + bodies fs
  bound (at_tables h gs fs ts) = 1 + bodies fs
  bound (in_tables h gs fs ts) = 1 + bodies fs
  bound (at_export h gs fs ts) = 1 + bodies fs
  bound (at_exports es k) = step_bound (k [])
  bound (in_exports es k) = step_bound (k [])
  bound (at_end b m) = whole_height m

  pub step_bound : Step → ℕ
  step_bound (goes s) = bound s
  step_bound (expects w k) = step_bound (k no_token)
  step_bound (either w d q k s) = step_bound s
  step_bound (refuses f back) = 0

-- ---- what the functions of a state keep

-- What is put in has the module round it, and its function: two more. What is at most d higher makes the bound at most d higher.
pub record Holds {A : Type 0} (high floor top : A → ℕ) : Type 0 where
  pub covers : (a : A) → 2 + high a ≤ floor a
  pub rises : (d : ℕ) (a b : A) → high a ≤ d + high b → floor a ≤ d + floor b
  pub tops : (a : A) → 2 + top a ≤ floor a

-- the same for statements, which have two heights
pub record HoldsStmt (floor top : StmtTree → ℕ) : Type 0 where
  pub covers : (s : StmtTree) → 2 + stmt_height s ≤ floor s
  pub rises : (d : ℕ) (s r : StmtTree) → stmt_height s ≤ d + stmt_height r → body_height s ≤ d + body_height r → floor s ≤ d + floor r
  pub tops : (s : StmtTree) → 2 + top s ≤ floor s

-- what is put in has no height
abbrev pub Flat : {A : Type 0} → (A → ℕ) → Type 0
Flat {A = A} floor = (a b : A) → floor a ≤ floor b

abbrev pub none : {A : Type 0} → A → ℕ
none a = 0

abbrev mutual
  pub Kept : State → Type 0
  Kept (closes c q s) = KeptStep s
  Kept (at_expr p k) = Holds height (λ e. bound (k e)) (λ e. peak (k e)) × ((e : ExprTree) → Kept (k e))
  Kept (after_minus m k) = Holds height (λ e. bound (k e)) (λ e. peak (k e)) × ((e : ExprTree) → Kept (k e))
  Kept (after_name p n k) = Holds height (λ e. bound (k e)) (λ e. peak (k e)) × ((e : ExprTree) → Kept (k e))
  Kept (after_index p n i k) = Holds height (λ e. bound (k e)) (λ e. peak (k e)) × ((e : ExprTree) → Kept (k e))
  Kept (after_expr p e k) = Holds height (λ f. bound (k f)) (λ f. peak (k f)) × ((f : ExprTree) → Kept (k f))
  Kept (at_arguments k) = Holds all_height (λ es. bound (k es)) (λ es. peak (k es)) × ((es : ExprTrees) → Kept (k es))
  Kept (in_rest fs k) = Holds all_height (λ es. bound (k es)) (λ es. peak (k es)) × ((es : ExprTrees) → Kept (k es))
  Kept (ends s) = Kept s
  Kept (ends_do s) = Kept s
  Kept (at_stmt k) = HoldsStmt (λ s. bound (k s)) (λ s. peak (k s)) × ((s : StmtTree) → Kept (k s))
  Kept (after_stmt_name n k) = HoldsStmt (λ s. bound (k s)) (λ s. peak (k s)) × ((s : StmtTree) → Kept (k s))
  Kept (at_option c q b k) = Holds part_height (λ o. step_bound (k o)) none × ((o : Option ExprTree) → KeptStep (k o))
  Kept (at_return k) = Holds part_height (λ o. bound (k o)) (λ o. peak (k o)) × ((o : Option ExprTree) → Kept (k o))
  Kept (at_target k) = Flat (λ (o : Option (List ℕ)). bound (k o)) × ((o : Option (List ℕ)) → Kept (k o))
  Kept (after_arm at c s k) = HoldsStmt (λ r. bound (k r)) (λ r. peak (k r)) × ((r : StmtTree) → Kept (k r))
  Kept (after_body b s) = (2 + body_height b ≤ step_bound s) × KeptStep s
  Kept (at_stmts rs k) = Holds block_height (λ ss. step_bound (k ss)) none × ((ss : StmtTrees) → KeptStep (k ss))
  Kept (at_clauses k) = Holds cases_height (λ cs. step_bound (k cs)) none × ((cs : ClauseTrees) → KeptStep (k cs))
  Kept (in_case v ss k) = Holds cases_height (λ cs. step_bound (k cs)) none × ((cs : ClauseTrees) → KeptStep (k cs))
  Kept (at_literal d k) = Flat (λ (i : Init). bound (k i)) × ((i : Init) → Kept (k i))
  Kept (after_sign d m k) = Flat (λ (i : Init). bound (k i)) × ((i : Init) → Kept (k i))
  Kept (at_init k) = Flat (λ (i : Init). bound (k i)) × ((i : Init) → Kept (k i))
  Kept (after_member f p k) = Flat (λ (i : Init). bound (k i)) × ((i : Init) → Kept (k i))
  Kept (in_names c q ns k) = Flat (λ (ms : List Lexeme). step_bound (k ms)) × ((ms : List Lexeme) → KeptStep (k ms))
  Kept (at_marks ps ds k) = Flat (λ (es : List ParamTree). bound (k es)) × ((es : List ParamTree) → Kept (k es))
  Kept (at_locals ls k) = Flat (λ (ds : List VariableTree). bound (k ds)) × ((ds : List VariableTree) → Kept (k ds))
  Kept (in_locals ls k) = Flat (λ (ds : List VariableTree). bound (k ds)) × ((ds : List VariableTree) → Kept (k ds))
  Kept (may_comma k s) = ((t : Lexeme) → (bound s ≤ step_bound (k t)) × KeptStep (k t)) × Kept s
  Kept (at_exports es k) = (ds : List ExportTree) → (step_bound (k []) ≤ step_bound (k ds)) × KeptStep (k ds)
  Kept (in_exports es k) = (ds : List ExportTree) → (step_bound (k []) ≤ step_bound (k ds)) × KeptStep (k ds)
  Kept _ = Unit {0}

  pub KeptStep : Step → Type 0
  KeptStep (goes s) = Kept s
  KeptStep (expects w k) = (t : Lexeme) → (step_bound (k no_token) ≤ step_bound (k t)) × KeptStep (k t)
  KeptStep (either w d q k s) = ((t : Lexeme) → (step_bound s ≤ step_bound (k t)) × KeptStep (k t)) × KeptStep s
  KeptStep (refuses f back) = Unit {0}

-- what a token leads to
abbrev pub Rises : ℕ → Step → Type 0
Rises n (refuses f back) = Unit {0}
Rises n s = (n ≤ step_bound s) × KeptStep s
