-- Code of two modules that differs in names alone: each name stands for the same in both.
use Rattle.std.specs.Prelude.{◌≡◌, ℕ, ℤ, Bool, List, length, Option, Some, None, Contains}
use Rattle.std.specs.List.{AllZip}
use Rattle.sem_words.specs.declared.js_value.JsOp.{JsOp}
use Rattle.sem_words.specs.declared.js_value.JsUnary.{JsUnary}
use Rattle.asm_lang.specs.Modules.{Expr, lit, decimal, var, index, call, table_call, assign, store, unary, binary, chain, cond, comma, Exprs, no_exprs, exprs, Links, no_links, links, Stmt, block, plain, empty, if_only, if_else, returns, while_loop, do_while, for_loop, breaks, continues, labelled, switches, Stmts, no_stmts, stmts, Clauses, no_clauses, clauses, Function, Table, Module}
use Rattle.asm_lang_valid.specs.declared.meaning.Element.{Element}
use Rattle.asm_lang_valid.specs.declared.meaning.Builtin.{Builtin}
use Rattle.asm_lang_valid.specs.Scope.{Meaning, nothing, an_int, an_outside, a_foreign, a_builtin, a_view, a_function, a_table, a_parameter, module_meaning}
use Rattle.asm_lang_valid.specs.Typing.{Scope, named}
use Rattle.asm_lang_exec.specs.Values.{function_of}
use Rattle.asm_short_lang.specs.Renaming.{local_names}
use Rattle.asm_laws_alike.specs.Places.{place_of, valued_names, Open, in_part, in_loop, under}

-- a function of the one module, and the function of the other module that stands for it
pub record Pair : Type 0 where
  pub old : Function
  pub new : Function

abbrev pub ArePaired : List Pair → Function → Function → Type 0
ArePaired pairs f f' = Contains pairs (record { old = f; new = f' })

-- paired functions, or none
pub data SameOption (pairs : List Pair) : Option Function → Option Function → Type 0 where
  neither : SameOption pairs None None
  both : {f f' : Function} → ArePaired pairs f f' → SameOption pairs (Some f) (Some f')

-- ---- names

-- names that stand for paired functions in the modules, or for none
abbrev pub SameMember : List Pair → Module → Module → List ℕ → List ℕ → Type 0
SameMember pairs m m' n n' = SameOption pairs (function_of (module_meaning m n)) (function_of (module_meaning m' n'))

pub data SameMeaning (pairs : List Pair) (m m' : Module) : Meaning → Meaning → Type 0 where
  same_nothing : SameMeaning pairs m m' nothing nothing
  same_int : SameMeaning pairs m m' an_int an_int
  same_outside : SameMeaning pairs m m' an_outside an_outside
  same_foreign : (p : List ℕ) → SameMeaning pairs m m' (a_foreign p) (a_foreign p)
  same_builtin : (b : Builtin) → SameMeaning pairs m m' (a_builtin b) (a_builtin b)
  same_view : (e : Element) → SameMeaning pairs m m' (a_view e) (a_view e)
  same_function : {f f' : Function} → ArePaired pairs f f' → SameMeaning pairs m m' (a_function f) (a_function f')
  same_table : {t t' : Table} → AllZip (SameMember pairs m m') t.members t'.members → SameMeaning pairs m m' (a_table t) (a_table t')
  same_parameter : SameMeaning pairs m m' a_parameter a_parameter

-- what a name stands for in one function, the other name stands for in the other function
pub record SameName (pairs : List Pair) (c c' : Scope) (n n' : List ℕ) : Type 0 where
  pub local : place_of (local_names c'.within) n' ≡ place_of (local_names c.within) n
  -- asked where no variable of the function has the name
  pub global : place_of (local_names c.within) n ≡ None → place_of (valued_names c'.home.globals) n' ≡ place_of (valued_names c.home.globals) n
  pub meaning : SameMeaning pairs c.home c'.home (named c n) (named c' n')

-- ---- expressions of the same form

mutual
  pub data SameExpr (pairs : List Pair) (c c' : Scope) : Expr → Expr → Type 0 where
    same_lit : (z : ℤ) → SameExpr pairs c c' (lit z) (lit z)
    same_decimal : (bs : List ℕ) → SameExpr pairs c c' (decimal bs) (decimal bs)
    same_var : {n n' : List ℕ} → SameName pairs c c' n n' → SameExpr pairs c c' (var n) (var n')
    same_index : {n n' : List ℕ} {i i' : Expr} → SameName pairs c c' n n' → SameExpr pairs c c' i i' → SameExpr pairs c c' (index n i) (index n' i')
    same_call : {n n' : List ℕ} {es es' : Exprs} → SameName pairs c c' n n' → SameExprs pairs c c' es es' → SameExpr pairs c c' (call n es) (call n' es')
    same_table_call : {n n' : List ℕ} {i i' : Expr} {es es' : Exprs}
        → SameName pairs c c' n n' → SameExpr pairs c c' i i' → SameExprs pairs c c' es es' → SameExpr pairs c c' (table_call n i es) (table_call n' i' es')
    same_assign : {n n' : List ℕ} {e e' : Expr} → SameName pairs c c' n n' → SameExpr pairs c c' e e' → SameExpr pairs c c' (assign n e) (assign n' e')
    same_store : {n n' : List ℕ} {i i' e e' : Expr}
        → SameName pairs c c' n n' → SameExpr pairs c c' i i' → SameExpr pairs c c' e e' → SameExpr pairs c c' (store n i e) (store n' i' e')
    same_unary : (op : JsUnary) {e e' : Expr} → SameExpr pairs c c' e e' → SameExpr pairs c c' (unary op e) (unary op e')
    same_binary : (op : JsOp) {l l' r r' : Expr} → SameExpr pairs c c' l l' → SameExpr pairs c c' r r' → SameExpr pairs c c' (binary op l r) (binary op l' r')
    same_chain : {e e' : Expr} {ls ls' : Links} → SameExpr pairs c c' e e' → SameLinks pairs c c' ls ls' → SameExpr pairs c c' (chain e ls) (chain e' ls')
    same_cond : {e e' a a' b b' : Expr} → SameExpr pairs c c' e e' → SameExpr pairs c c' a a' → SameExpr pairs c c' b b' → SameExpr pairs c c' (cond e a b) (cond e' a' b')
    same_comma : {es es' : Exprs} → SameExprs pairs c c' es es' → SameExpr pairs c c' (comma es) (comma es')

  pub data SameExprs (pairs : List Pair) (c c' : Scope) : Exprs → Exprs → Type 0 where
    same_no_exprs : SameExprs pairs c c' no_exprs no_exprs
    same_exprs : {e e' : Expr} {es es' : Exprs} → SameExpr pairs c c' e e' → SameExprs pairs c c' es es' → SameExprs pairs c c' (exprs e es) (exprs e' es')

  pub data SameLinks (pairs : List Pair) (c c' : Scope) : Links → Links → Type 0 where
    same_no_links : SameLinks pairs c c' no_links no_links
    same_links : (minus : Bool) {e e' : Expr} {ls ls' : Links} → SameExpr pairs c c' e e' → SameLinks pairs c c' ls ls' → SameLinks pairs c c' (links minus e ls) (links minus e' ls')

pub data SamePart (pairs : List Pair) (c c' : Scope) : Option Expr → Option Expr → Type 0 where
  no_part : SamePart pairs c c' None None
  a_part : {e e' : Expr} → SameExpr pairs c c' e e' → SamePart pairs c c' (Some e) (Some e')

-- ---- labels at the same places, or none

pub data SameLabel (names names' : List (List ℕ)) : Option (List ℕ) → Option (List ℕ) → Type 0 where
  no_label : SameLabel names names' None None
  a_label : {n n' : List ℕ} → place_of names' n' ≡ place_of names n → SameLabel names names' (Some n) (Some n')

-- ---- statements of the same form

mutual
  pub data SameStmt (pairs : List Pair) (c c' : Scope) : Open → Open → Stmt → Stmt → Type 0 where
    same_block : {a a' : Open} {ss ss' : Stmts} → SameStmts pairs c c' a a' ss ss' → SameStmt pairs c c' a a' (block ss) (block ss')
    same_plain : {a a' : Open} {e e' : Expr} → SameExpr pairs c c' e e' → SameStmt pairs c c' a a' (plain e) (plain e')
    same_empty : {a a' : Open} → SameStmt pairs c c' a a' empty empty
    same_if_only : {a a' : Open} {e e' : Expr} {s s' : Stmt} → SameExpr pairs c c' e e' → SameStmt pairs c c' (in_part a) (in_part a') s s' → SameStmt pairs c c' a a' (if_only e s) (if_only e' s')
    same_if_else : {a a' : Open} {e e' : Expr} {s s' r r' : Stmt}
        → SameExpr pairs c c' e e' → SameStmt pairs c c' (in_part a) (in_part a') s s' → SameStmt pairs c c' (in_part a) (in_part a') r r' → SameStmt pairs c c' a a' (if_else e s r) (if_else e' s' r')
    same_returns : {a a' : Open} {o o' : Option Expr} → SamePart pairs c c' o o' → SameStmt pairs c c' a a' (returns o) (returns o')
    same_while : {a a' : Open} {e e' : Expr} {s s' : Stmt} → SameExpr pairs c c' e e' → SameStmt pairs c c' (in_loop a) (in_loop a') s s' → SameStmt pairs c c' a a' (while_loop e s) (while_loop e' s')
    same_do : {a a' : Open} {e e' : Expr} {s s' : Stmt} → SameStmt pairs c c' (in_loop a) (in_loop a') s s' → SameExpr pairs c c' e e' → SameStmt pairs c c' a a' (do_while s e) (do_while s' e')
    same_for : {a a' : Open} {x x' y y' z z' : Option Expr} {s s' : Stmt}
        → SamePart pairs c c' x x' → SamePart pairs c c' y y' → SamePart pairs c c' z z' → SameStmt pairs c c' (in_loop a) (in_loop a') s s' → SameStmt pairs c c' a a' (for_loop x y z s) (for_loop x' y' z' s')
    same_breaks : {a a' : Open} {l l' : Option (List ℕ)} → SameLabel a.to_break a'.to_break l l' → SameStmt pairs c c' a a' (breaks l) (breaks l')
    same_continues : {a a' : Open} {l l' : Option (List ℕ)} → SameLabel a.to_continue a'.to_continue l l' → SameStmt pairs c c' a a' (continues l) (continues l')
    same_labelled : {a a' : Open} {ns ns' : List (List ℕ)} {s s' : Stmt} → length ns' ≡ length ns → SameStmt pairs c c' (under ns a) (under ns' a') s s' → SameStmt pairs c c' a a' (labelled ns s) (labelled ns' s')
    same_switches : {a a' : Open} {e e' : Expr} {cs cs' : Clauses} → SameExpr pairs c c' e e' → SameClauses pairs c c' a a' cs cs' → SameStmt pairs c c' a a' (switches e cs) (switches e' cs')

  pub data SameStmts (pairs : List Pair) (c c' : Scope) : Open → Open → Stmts → Stmts → Type 0 where
    same_no_stmts : {a a' : Open} → SameStmts pairs c c' a a' no_stmts no_stmts
    same_stmts : {a a' : Open} {s s' : Stmt} {ss ss' : Stmts} → SameStmt pairs c c' (in_part a) (in_part a') s s' → SameStmts pairs c c' a a' ss ss' → SameStmts pairs c c' a a' (stmts s ss) (stmts s' ss')

  pub data SameClauses (pairs : List Pair) (c c' : Scope) : Open → Open → Clauses → Clauses → Type 0 where
    same_no_clauses : {a a' : Open} → SameClauses pairs c c' a a' no_clauses no_clauses
    same_clauses : {a a' : Open} (v : Option ℤ) {ss ss' : Stmts} {cs cs' : Clauses}
        → SameStmts pairs c c' a a' ss ss' → SameClauses pairs c c' a a' cs cs' → SameClauses pairs c c' a a' (clauses v ss cs) (clauses v ss' cs')
