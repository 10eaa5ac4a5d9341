-- Modules of asm.js without places, as users see them, and the places of their nodes.
use Rattle.std.specs.Prelude.{ℕ, Bool, true, false, ◌&&◌, List, [], ◌∷◌, ◌++◌, Option, Some, None, ℤ, map, if◌then◌else◌, ◌^◌, ◌-◌, pos, negsuc, int_lt}
use Rattle.sem_words.specs.declared.js_value.JsOp.{JsOp}
use Rattle.sem_words.specs.declared.js_value.JsOp.TheVariants.{Add, Sub}
use Rattle.sem_words.specs.declared.js_value.JsUnary.{JsUnary}
use Rattle.asm_lang.specs.Trees as trees
use Rattle.asm_lang.specs.Trees.{ExprTree, ExprTrees, StmtTree, StmtTrees, ClauseTrees, Init, VariableTree, ParamTree, FunctionTree, TableTree, ExportTree, ExportsTree, ModuleTree}

mutual
  pub data Expr : Type 0 where
    lit : ℤ → Expr
    decimal : List ℕ → Expr
    var : List ℕ → Expr
    index : List ℕ → Expr → Expr
    call : List ℕ → Exprs → Expr
    table_call : List ℕ → Expr → Exprs → Expr
    assign : List ℕ → Expr → Expr
    store : List ℕ → Expr → Expr → Expr
    unary : JsUnary → Expr → Expr
    binary : JsOp → Expr → Expr → Expr
    chain : Expr → Links → Expr  -- of `+` and `-`
    cond : Expr → Expr → Expr → Expr
    comma : Exprs → Expr

  pub data Exprs : Type 0 where
    no_exprs : Exprs
    exprs : Expr → Exprs → Exprs

  -- the further operands of a chain, each with whether a `-` stands before it
  pub data Links : Type 0 where
    no_links : Links
    links : Bool → Expr → Links → Links

mutual
  pub data Stmt : Type 0 where
    block : Stmts → Stmt
    plain : Expr → Stmt
    empty : Stmt
    if_only : Expr → Stmt → Stmt
    if_else : Expr → Stmt → Stmt → Stmt
    returns : Option Expr → Stmt
    while_loop : Expr → Stmt → Stmt
    do_while : Stmt → Expr → Stmt
    for_loop : Option Expr → Option Expr → Option Expr → Stmt → Stmt
    breaks : Option (List ℕ) → Stmt
    continues : Option (List ℕ) → Stmt
    labelled : List (List ℕ) → Stmt → Stmt
    switches : Expr → Clauses → Stmt

  pub data Stmts : Type 0 where
    no_stmts : Stmts
    stmts : Stmt → Stmts → Stmts

  -- the clauses of a switch: the value of a case, or None for the default
  pub data Clauses : Type 0 where
    no_clauses : Clauses
    clauses : Option ℤ → Stmts → Clauses → Clauses

-- a global variable, or a local one
pub record Variable : Type 0 where
  pub name : List ℕ
  pub init : Init

pub record Param : Type 0 where
  pub name : List ℕ
  pub double : Bool

pub record Function : Type 0 where
  pub name : List ℕ
  pub params : List Param
  pub locals : List Variable
  pub body : Stmts

pub record Table : Type 0 where
  pub name : List ℕ
  pub members : List (List ℕ)

pub record Export : Type 0 where
  pub key : List ℕ
  pub function : List ℕ

pub data Exports : Type 0 where
  one : List ℕ → Exports
  many : List Export → Exports

pub record Module : Type 0 where
  pub name : Option (List ℕ)
  pub params : List (List ℕ)
  pub globals : List Variable
  pub functions : List Function
  pub tables : List Table
  pub exports : Exports

-- ---- the module of a tree

-- the nearest number of 64 bits, as which the literals of declarations and clauses are held
abbrev pub nearest : ℤ → ℤ
nearest v = if int_lt v (negsuc (2 ^ 63 - 1)) then negsuc (2 ^ 63 - 1) else (if int_lt (pos (2 ^ 63 - 1)) v then pos (2 ^ 63 - 1) else v)

abbrev pub init_of : Init → Init
init_of (trees.number v) = trees.number (nearest v)
init_of i = i

abbrev pub value_of : Option ℤ → Option ℤ
value_of None = None
value_of (Some v) = Some (nearest v)

abbrev pub more_links : Links → Bool → Expr → Links
more_links no_links minus e = links minus e no_links
more_links (links m x ls) minus e = links m x (more_links ls minus e)

-- a chain goes on, and any other expression begins one
abbrev pub chained : Expr → Bool → Expr → Expr
chained (chain e ls) minus r = chain e (more_links ls minus r)
chained e minus r = chain e (links minus r no_links)

abbrev pub binary_of : JsOp → Expr → Expr → Expr
binary_of Add l r = chained l false r
binary_of Sub l r = chained l true r
binary_of op l r = binary op l r

abbrev mutual
  pub expr_of : ExprTree → Expr
  expr_of (trees.literal at v) = lit v
  expr_of (trees.decimals at bs) = decimal bs
  expr_of (trees.variable at n) = var n
  expr_of (trees.element at n i) = index n (expr_of i)
  expr_of (trees.call at n es) = call n (exprs_of es)
  expr_of (trees.table_call at n i es) = table_call n (expr_of i) (exprs_of es)
  expr_of (trees.assignment at n e) = assign n (expr_of e)
  expr_of (trees.store at n i e) = store n (expr_of i) (expr_of e)
  expr_of (trees.unary at op e) = unary op (expr_of e)
  expr_of (trees.binary at l op r) = binary_of op (expr_of l) (expr_of r)
  expr_of (trees.conditional at c a b) = cond (expr_of c) (expr_of a) (expr_of b)
  expr_of (trees.listed at es) = comma (exprs_of es)

  pub exprs_of : ExprTrees → Exprs
  exprs_of trees.no_expr = no_exprs
  exprs_of (trees.one_expr e es) = exprs (expr_of e) (exprs_of es)

abbrev pub option_of : Option ExprTree → Option Expr
option_of None = None
option_of (Some e) = Some (expr_of e)

abbrev mutual
  pub stmt_of : StmtTree → Stmt
  stmt_of (trees.block at ss) = block (stmts_of ss)
  stmt_of (trees.plain at e) = plain (expr_of e)
  stmt_of (trees.empty at) = empty
  stmt_of (trees.if_only at c s) = if_only (expr_of c) (stmt_of s)
  stmt_of (trees.if_else at c s r) = if_else (expr_of c) (stmt_of s) (stmt_of r)
  stmt_of (trees.returns at o) = returns (option_of o)
  stmt_of (trees.while_loop at c s) = while_loop (expr_of c) (stmt_of s)
  stmt_of (trees.do_loop at s c) = do_while (stmt_of s) (expr_of c)
  stmt_of (trees.for_loop at a b c s) = for_loop (option_of a) (option_of b) (option_of c) (stmt_of s)
  stmt_of (trees.breaks at l) = breaks l
  stmt_of (trees.continues at l) = continues l
  stmt_of (trees.labelled at ls s) = labelled ls (stmt_of s)
  stmt_of (trees.switches at e cs) = switches (expr_of e) (clauses_of cs)

  pub stmts_of : StmtTrees → Stmts
  stmts_of trees.no_stmt = no_stmts
  stmts_of (trees.one_stmt s ss) = stmts (stmt_of s) (stmts_of ss)

  pub clauses_of : ClauseTrees → Clauses
  clauses_of trees.no_clause = no_clauses
  clauses_of (trees.one_clause v ss cs) = clauses (value_of v) (stmts_of ss) (clauses_of cs)

abbrev pub variable_of : VariableTree → Variable
variable_of v = record { name = v.name; init = init_of v.init }

abbrev pub param_of : ParamTree → Param
param_of p = record { name = p.name; double = p.double }

abbrev pub function_of : FunctionTree → Function
function_of f = record { name = f.name; params = map param_of f.params; locals = map variable_of f.locals; body = stmts_of f.body }

abbrev pub table_of : TableTree → Table
table_of t = record { name = t.name; members = t.members }

abbrev pub export_of : ExportTree → Export
export_of e = record { key = e.key; function = e.function }

abbrev pub exports_of : ExportsTree → Exports
exports_of (trees.one at f) = one f
exports_of (trees.many es) = many (map export_of es)

abbrev pub module_of : ModuleTree → Module
module_of m = record { name = m.heading.name; params = m.heading.params; globals = map variable_of m.globals; functions = map function_of m.functions; tables = map table_of m.tables; exports = exports_of m.exports }

-- ---- places of nodes, a whole before its parts, in text order

abbrev pub is_sum : JsOp → Bool
is_sum Add = true
is_sum Sub = true
is_sum _ = false

-- the places of an expression: its own, those of its parts, and whether it is a chain
pub record Nodes : Type 0 where
  pub place : ℕ
  pub parts : List ℕ
  pub chain : Bool

abbrev pub nodes : ℕ → List ℕ → Nodes
nodes at parts = record { place = at; parts = parts; chain = false }

abbrev pub all_nodes : Nodes → List ℕ
all_nodes n = n.place ∷ n.parts

-- a chain is one node, at its first operator
abbrev pub sum_nodes : ℕ → Bool → Nodes → Nodes → Nodes
sum_nodes at sum l r =
    if sum && l.chain then record { place = l.place; parts = l.parts ++ all_nodes r; chain = true }
    else record { place = at; parts = all_nodes l ++ all_nodes r; chain = sum }

abbrev mutual
  pub expr_nodes : ExprTree → Nodes
  expr_nodes (trees.literal at v) = nodes at []
  expr_nodes (trees.decimals at bs) = nodes at []
  expr_nodes (trees.variable at n) = nodes at []
  expr_nodes (trees.element at n i) = nodes at (all_nodes (expr_nodes i))
  expr_nodes (trees.call at n es) = nodes at (exprs_places es)
  expr_nodes (trees.table_call at n i es) = nodes at (all_nodes (expr_nodes i) ++ exprs_places es)
  expr_nodes (trees.assignment at n e) = nodes at (all_nodes (expr_nodes e))
  expr_nodes (trees.store at n i e) = nodes at (all_nodes (expr_nodes i) ++ all_nodes (expr_nodes e))
  expr_nodes (trees.unary at op e) = nodes at (all_nodes (expr_nodes e))
  expr_nodes (trees.binary at l op r) = sum_nodes at (is_sum op) (expr_nodes l) (expr_nodes r)
  expr_nodes (trees.conditional at c a b) = nodes at (all_nodes (expr_nodes c) ++ (all_nodes (expr_nodes a) ++ all_nodes (expr_nodes b)))
  expr_nodes (trees.listed at es) = nodes at (exprs_places es)

  pub exprs_places : ExprTrees → List ℕ
  exprs_places trees.no_expr = []
  exprs_places (trees.one_expr e es) = all_nodes (expr_nodes e) ++ exprs_places es

abbrev pub expr_places : ExprTree → List ℕ
expr_places e = all_nodes (expr_nodes e)

abbrev pub option_places : Option ExprTree → List ℕ
option_places None = []
option_places (Some e) = expr_places e

abbrev mutual
  pub stmt_places : StmtTree → List ℕ
  stmt_places (trees.block at ss) = at ∷ stmts_places ss
  stmt_places (trees.plain at e) = at ∷ expr_places e
  stmt_places (trees.empty at) = at ∷ []
  stmt_places (trees.if_only at c s) = at ∷ (expr_places c ++ stmt_places s)
  stmt_places (trees.if_else at c s r) = at ∷ (expr_places c ++ (stmt_places s ++ stmt_places r))
  stmt_places (trees.returns at o) = at ∷ option_places o
  stmt_places (trees.while_loop at c s) = at ∷ (expr_places c ++ stmt_places s)
  stmt_places (trees.do_loop at s c) = at ∷ (stmt_places s ++ expr_places c)
  stmt_places (trees.for_loop at a b c s) = at ∷ (option_places a ++ (option_places b ++ (option_places c ++ stmt_places s)))
  stmt_places (trees.breaks at l) = at ∷ []
  stmt_places (trees.continues at l) = at ∷ []
  stmt_places (trees.labelled at ls s) = at ∷ stmt_places s
  stmt_places (trees.switches at e cs) = at ∷ (expr_places e ++ clauses_places cs)

  pub stmts_places : StmtTrees → List ℕ
  stmts_places trees.no_stmt = []
  stmts_places (trees.one_stmt s ss) = stmt_places s ++ stmts_places ss

  pub clauses_places : ClauseTrees → List ℕ
  clauses_places trees.no_clause = []
  clauses_places (trees.one_clause v ss cs) = stmts_places ss ++ clauses_places cs

abbrev pub variables_places : List VariableTree → List ℕ
variables_places [] = []
variables_places (v ∷ vs) = v.at ∷ variables_places vs

abbrev pub params_places : List ParamTree → List ℕ
params_places [] = []
params_places (p ∷ ps) = p.at ∷ params_places ps

abbrev pub functions_places : List FunctionTree → List ℕ
functions_places [] = []
functions_places (f ∷ fs) = f.at ∷ (params_places f.params ++ (variables_places f.locals ++ (stmts_places f.body ++ functions_places fs)))

abbrev pub tables_places : List TableTree → List ℕ
tables_places [] = []
tables_places (t ∷ ts) = t.at ∷ tables_places ts

abbrev pub exports_places : ExportsTree → List ℕ
exports_places (trees.one at f) = at ∷ []
exports_places (trees.many es) = map (λ (e : ExportTree). e.at) es

abbrev pub module_places : ModuleTree → List ℕ
module_places m = 0 ∷ (variables_places m.globals ++ (functions_places m.functions ++ (tables_places m.tables ++ exports_places m.exports)))
