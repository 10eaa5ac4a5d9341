-- Which tokens complete a node above a limit: the whole of what the tokens spell, or one of its parts. A mark is a number of
-- tokens that are left after it, and a node ends at the mark or before it where at least so many are left after the node.
use Rattle.std.specs.Prelude.{ℕ, ◌+◌, ◌<◌, ◌≤◌, Bool, true, false, ◌⊎◌, List, ◌++◌, length, take, Option}
use Rattle.asm_lang.specs.Lexemes.{Lexeme}
use Rattle.asm_lang.specs.Trees.{ExprTree, element, call, table_call, assignment, store, unary, binary, conditional, listed, ExprTrees, one_expr, StmtTree, block, plain, if_only, if_else, returns, while_loop, do_loop, for_loop, switches, StmtTrees, ClauseTrees, FunctionTree, ModuleTree}
use Rattle.sem_words.specs.declared.js_value.JsUnary.TheVariants.{Neg}
use Rattle.asm_lang.specs.Grammar.{IsExpr, an_operand, a_binary, a_conditional, an_assignment, a_store, a_list, IsOperand, a_literal, a_negative, a_decimal_literal, a_variable, an_element, a_call, a_table_call, in_parens, a_prefix, a_minus, IsIndex, an_index, IsArguments, no_argument, arguments, IsRest, no_further, a_further, place_of, IsOption, absent, present, IsReturned, no_value, a_value, IsStmt, a_block, a_plain, an_empty, an_if_only, an_if_else, a_return, a_while, a_do, a_for, a_break, a_continue, a_labelled, a_switch, IsStmts, no_stmts, more_stmts, IsClauses, no_clauses, a_case, a_default, IsFunction, a_function, IsFunctions, no_functions, more_functions, IsModule, a_module}
use Rattle.asm_lang.specs.Modules.{function_of}
use Rattle.asm_lang.specs.Heights.{function_height}
use Rattle.asm_lang.specs.TreeHeights.{height, whole_height, counted}

-- a node of height h above the limit, which ends where ys are left: at the mark or before
abbrev pub Here : ℕ → ℕ → ℕ → List Lexeme → Type 0
Here limit mark h ys = (limit < h) × (mark ≤ length ys)

-- Each operation is taken as a node, also a sum that is the front of a longer one: where it stands, the longer one is as high,
-- and where it ends, a module may end it.
abbrev mutual
  pub HighExpr : ℕ → ℕ → {p : ℕ} {e : ExprTree} {xs ys : List Lexeme} → IsExpr p e xs ys → Type 0
  HighExpr limit mark (an_operand x) = HighOperand limit mark x
  HighExpr limit mark (a_binary {l = l} {r = r} {op = op} {t = t} {ws = ws} low x i y) = Here limit mark (height (binary t.at l op r)) ws ⊎ (HighExpr limit mark x ⊎ HighExpr limit mark y)
  HighExpr limit mark (a_conditional {c = c} {a = a} {b = b} {t = t} {us = us} low x i y j z) = Here limit mark (height (conditional t.at c a b)) us ⊎ (HighExpr limit mark x ⊎ (HighExpr limit mark y ⊎ HighExpr limit mark z))
  HighExpr limit mark (an_assignment {e = e} {n = n} {t = t} {ws = ws} low i j x) = Here limit mark (height (assignment t.at n.text e)) ws ⊎ HighExpr limit mark x
  HighExpr limit mark (a_store {i = i} {e = e} {n = n} {t = t} {vs = vs} low a x j y) = Here limit mark (height (store t.at n.text i e)) vs ⊎ (HighIndex limit mark x ⊎ HighExpr limit mark y)
  HighExpr limit mark (a_list {e = e} {f = f} {es = es} {t = t} {vs = vs} low x i y r) = Here limit mark (height (listed t.at (one_expr e (one_expr f es)))) vs ⊎ (HighExpr limit mark x ⊎ (HighExpr limit mark y ⊎ HighRest limit mark r))

  pub HighOperand : ℕ → ℕ → {e : ExprTree} {xs ys : List Lexeme} → IsOperand e xs ys → Type 0
  HighOperand limit mark (a_literal {ys = ys} i) = Here limit mark 1 ys
  HighOperand limit mark (a_negative {zs = zs} i j) = Here limit mark 1 zs
  HighOperand limit mark (a_decimal_literal {ys = ys} i) = Here limit mark 1 ys
  HighOperand limit mark (a_variable {ys = ys} i) = Here limit mark 1 ys
  HighOperand limit mark (an_element {n = n} {i = i} {zs = zs} a x) = Here limit mark (height (element n.at n.text i)) zs ⊎ HighIndex limit mark x
  HighOperand limit mark (a_call {n = n} {es = es} {ws = ws} i j x) = Here limit mark (height (call n.at n.text es)) ws ⊎ HighArguments limit mark x
  HighOperand limit mark (a_table_call {n = n} {i = i} {es = es} {vs = vs} a x j y) = Here limit mark (height (table_call n.at n.text i es)) vs ⊎ (HighIndex limit mark x ⊎ HighArguments limit mark y)
  HighOperand limit mark (in_parens i x j) = HighExpr limit mark x
  HighOperand limit mark (a_prefix {op = op} {t = t} {e = e} {zs = zs} q i x) = Here limit mark (height (unary t.at op e)) zs ⊎ HighExpr limit mark x
  HighOperand limit mark (a_minus {t = t} {e = e} {zs = zs} i b x) = Here limit mark (height (unary t.at Neg e)) zs ⊎ HighExpr limit mark x

  pub HighIndex : ℕ → ℕ → {e : ExprTree} {xs ys : List Lexeme} → IsIndex e xs ys → Type 0
  HighIndex limit mark (an_index i x j) = HighExpr limit mark x

  pub HighArguments : ℕ → ℕ → {es : ExprTrees} {xs ys : List Lexeme} → IsArguments es xs ys → Type 0
  HighArguments limit mark (no_argument i) = ⊥
  HighArguments limit mark (arguments x r j) = HighExpr limit mark x ⊎ HighRest limit mark r

  pub HighRest : ℕ → ℕ → {es : ExprTrees} {xs ys : List Lexeme} → IsRest es xs ys → Type 0
  HighRest limit mark no_further = ⊥
  HighRest limit mark (a_further i x r) = HighExpr limit mark x ⊎ HighRest limit mark r

abbrev pub HighOption : ℕ → ℕ → {o : Option ExprTree} {xs ys : List Lexeme} → IsOption o xs ys → Type 0
HighOption limit mark absent = ⊥
HighOption limit mark (present x) = HighExpr limit mark x

abbrev pub HighReturned : ℕ → ℕ → {o : Option ExprTree} {xs ys : List Lexeme} → IsReturned o xs ys → Type 0
HighReturned limit mark (no_value end) = ⊥
HighReturned limit mark (a_value line x end) = HighExpr limit mark x

-- The test says whether the statement is the whole body of a loop or an arm of an `if`. Labels make no node of their own.
abbrev mutual
  pub HighStmt : ℕ → ℕ → Bool → {s : StmtTree} {xs ys : List Lexeme} → IsStmt s xs ys → Type 0
  HighStmt limit mark body (a_block {t = t} {ss = ss} {ws = ws} i x j) = Here limit mark (counted body (block t.at ss)) ws ⊎ HighStmts limit mark x
  HighStmt limit mark body (a_plain {e = e} {xs = xs} {zs = zs} x end) = Here limit mark (counted body (plain (place_of xs) e)) zs ⊎ HighExpr limit mark x
  HighStmt limit mark body (an_empty {ys = ys} i) = Here limit mark 1 ys
  HighStmt limit mark body (an_if_only {t = t} {c = c} {s = s} {us = us} i j x l y h) = Here limit mark (counted body (if_only t.at c s)) us ⊎ (HighExpr limit mark x ⊎ HighStmt limit mark true y)
  HighStmt limit mark body (an_if_else {t = t} {c = c} {s = s} {r = r} {rs = rs} i j x l y m z) = Here limit mark (counted body (if_else t.at c s r)) rs ⊎ (HighExpr limit mark x ⊎ (HighStmt limit mark true y ⊎ HighStmt limit mark true z))
  HighStmt limit mark body (a_return {t = t} {o = o} {zs = zs} i x) = Here limit mark (counted body (returns t.at o)) zs ⊎ HighReturned limit mark x
  HighStmt limit mark body (a_while {t = t} {c = c} {s = s} {us = us} i j x l y) = Here limit mark (counted body (while_loop t.at c s)) us ⊎ (HighExpr limit mark x ⊎ HighStmt limit mark true y)
  HighStmt limit mark body (a_do {t = t} {c = c} {s = s} {rs = rs} i y j l x m end) = Here limit mark (counted body (do_loop t.at s c)) rs ⊎ (HighStmt limit mark true y ⊎ HighExpr limit mark x)
  HighStmt limit mark body (a_for {t = t} {a = a} {b = b} {c = c} {s = s} {ps = ps} i j x l y m z n w) =
      Here limit mark (counted body (for_loop t.at a b c s)) ps ⊎ (HighOption limit mark x ⊎ (HighOption limit mark y ⊎ (HighOption limit mark z ⊎ HighStmt limit mark true w)))
  HighStmt limit mark body (a_break {zs = zs} i x) = Here limit mark 1 zs
  HighStmt limit mark body (a_continue {zs = zs} i x) = Here limit mark 1 zs
  HighStmt limit mark body (a_labelled i j x) = HighStmt limit mark false x
  HighStmt limit mark body (a_switch {t = t} {e = e} {cs = cs} {rs = rs} i j x l m y n) = Here limit mark (counted body (switches t.at e cs)) rs ⊎ (HighExpr limit mark x ⊎ HighClauses limit mark y)

  pub HighStmts : ℕ → ℕ → {ss : StmtTrees} {xs ys : List Lexeme} → IsStmts ss xs ys → Type 0
  HighStmts limit mark no_stmts = ⊥
  HighStmts limit mark (more_stmts x y) = HighStmt limit mark false x ⊎ HighStmts limit mark y

  pub HighClauses : ℕ → ℕ → {cs : ClauseTrees} {xs ys : List Lexeme} → IsClauses cs xs ys → Type 0
  HighClauses limit mark no_clauses = ⊥
  HighClauses limit mark (a_case i l j x y) = HighStmts limit mark x ⊎ HighClauses limit mark y
  HighClauses limit mark (a_default i j x) = HighStmts limit mark x

-- Declarations have height 1, within each limit of 1 or more.
abbrev pub HighFunction : ℕ → ℕ → {f : FunctionTree} {xs ys : List Lexeme} → IsFunction f xs ys → Type 0
HighFunction limit mark (a_function {n = n} {ds = ds} {ls = ls} {ss = ss} {os = os} i j l x m y z v w) = Here limit mark (function_height (function_of (record { at = n.at; name = n.text; params = ds; locals = ls; body = ss }))) os ⊎ HighStmts limit mark v

abbrev pub HighFunctions : ℕ → ℕ → {fs : List FunctionTree} {xs ys : List Lexeme} → IsFunctions fs xs ys → Type 0
HighFunctions limit mark no_functions = ⊥
HighFunctions limit mark (more_functions x y) = HighFunction limit mark x ⊎ HighFunctions limit mark y

-- the module ends at its `}`
abbrev pub HighModule : ℕ → ℕ → {m : ModuleTree} {xs : List Lexeme} → IsModule m xs → Type 0
HighModule limit mark (a_module {h = h} {gs = gs} {fs = fs} {ts = ts} {ex = ex} {x8 = x8} heading i end globals functions tables exported w last) =
    Here limit mark (whole_height (record { heading = h; globals = gs; functions = fs; tables = ts; exports = ex })) x8 ⊎ HighFunctions limit mark functions

-- Some module, its height set aside, begins with these tokens, and has a node above the limit that ends at the last of them or before.
abbrev pub BeginsHigh : ℕ → List Lexeme → Type 0
BeginsHigh limit xs = (m : ModuleTree) × (ys : List Lexeme) × (d : IsModule m (xs ++ ys)) × HighModule limit (length ys) d

-- the first token such that some module begins with the tokens up to it and has a node above the limit that ends there or before
pub record IsHeightFault (limit : ℕ) (xs : List Lexeme) (k : ℕ) : Type 0 where
  pub within : k < length xs
  pub here : BeginsHigh limit (take (k + 1) xs)
  pub before : (j : ℕ) → j < k → ¬ BeginsHigh limit (take (j + 1) xs)
