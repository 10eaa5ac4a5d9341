-- What tokens say: the trees of asm.js, each node with the offset of the token that stands for it.
use Rattle.std.specs.Prelude.{ℕ, Bool, List, Option, ℤ}
use Rattle.sem_words.specs.declared.js_value.JsOp.{JsOp}
use Rattle.sem_words.specs.declared.js_value.JsUnary.{JsUnary}

-- The first part of each node is its place. `+` and `-` are binary here.
mutual
  pub data ExprTree : Type 0 where
    literal : ℕ → ℤ → ExprTree
    decimals : ℕ → List ℕ → ExprTree
    variable : ℕ → List ℕ → ExprTree
    element : ℕ → List ℕ → ExprTree → ExprTree
    call : ℕ → List ℕ → ExprTrees → ExprTree
    table_call : ℕ → List ℕ → ExprTree → ExprTrees → ExprTree
    assignment : ℕ → List ℕ → ExprTree → ExprTree
    store : ℕ → List ℕ → ExprTree → ExprTree → ExprTree
    unary : ℕ → JsUnary → ExprTree → ExprTree
    binary : ℕ → ExprTree → JsOp → ExprTree → ExprTree
    conditional : ℕ → ExprTree → ExprTree → ExprTree → ExprTree
    listed : ℕ → ExprTrees → ExprTree  -- by commas

  pub data ExprTrees : Type 0 where
    no_expr : ExprTrees
    one_expr : ExprTree → ExprTrees → ExprTrees

mutual
  pub data StmtTree : Type 0 where
    block : ℕ → StmtTrees → StmtTree
    plain : ℕ → ExprTree → StmtTree
    empty : ℕ → StmtTree
    if_only : ℕ → ExprTree → StmtTree → StmtTree
    if_else : ℕ → ExprTree → StmtTree → StmtTree → StmtTree
    returns : ℕ → Option ExprTree → StmtTree
    while_loop : ℕ → ExprTree → StmtTree → StmtTree
    do_loop : ℕ → StmtTree → ExprTree → StmtTree
    for_loop : ℕ → Option ExprTree → Option ExprTree → Option ExprTree → StmtTree → StmtTree
    breaks : ℕ → Option (List ℕ) → StmtTree
    continues : ℕ → Option (List ℕ) → StmtTree
    labelled : ℕ → List (List ℕ) → StmtTree → StmtTree
    switches : ℕ → ExprTree → ClauseTrees → StmtTree

  pub data StmtTrees : Type 0 where
    no_stmt : StmtTrees
    one_stmt : StmtTree → StmtTrees → StmtTrees

  -- the clauses of a switch: the value of a case, or None for the default
  pub data ClauseTrees : Type 0 where
    no_clause : ClauseTrees
    one_clause : Option ℤ → StmtTrees → ClauseTrees → ClauseTrees

pub data Init : Type 0 where
  number : ℤ → Init
  decimal : List ℕ → Init  -- with its minus sign as the first byte
  foreign_int : List ℕ → List ℕ → Init
  foreign_double : List ℕ → List ℕ → Init
  member : List ℕ → List ℕ → Init
  math : List ℕ → List ℕ → Init
  view : List ℕ → List ℕ → List ℕ → Init

-- a global variable, or a local one
pub record VariableTree : Type 0 where
  pub at : ℕ
  pub name : List ℕ
  pub init : Init

pub record ParamTree : Type 0 where
  pub at : ℕ
  pub name : List ℕ
  pub double : Bool

pub record FunctionTree : Type 0 where
  pub at : ℕ
  pub name : List ℕ
  pub params : List ParamTree
  pub locals : List VariableTree
  pub body : StmtTrees

pub record TableTree : Type 0 where
  pub at : ℕ
  pub name : List ℕ
  pub members : List (List ℕ)

pub record ExportTree : Type 0 where
  pub at : ℕ
  pub key : List ℕ
  pub function : List ℕ

pub data ExportsTree : Type 0 where
  one : ℕ → List ℕ → ExportsTree
  many : List ExportTree → ExportsTree

pub record Heading : Type 0 where
  pub name : Option (List ℕ)
  pub params : List (List ℕ)

pub record ModuleTree : Type 0 where
  pub heading : Heading
  pub globals : List VariableTree
  pub functions : List FunctionTree
  pub tables : List TableTree
  pub exports : ExportsTree
