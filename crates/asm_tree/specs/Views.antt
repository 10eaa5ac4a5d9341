-- What the trees of the code say, as plain modules.
use Rattle.std.specs.Prelude.{ℕ, Bool, List, [], ◌∷◌, Option, Some, None, ℤ, map}
use Rattle.sem_words.specs.Lists.{text_bytes, list_items}
use Rattle.sem_words.specs.declared.text.Text.{Text}
use Rattle.asm_tree.specs.declared.tree.Expr.{Expr as CodeExpr, Expr-F, fold-Expr}
use Rattle.asm_tree.specs.declared.tree.Expr.TheOpen as exprs_open
use Rattle.asm_tree.specs.declared.tree.Link.{Link as CodeLink, Link-F, fold-Link}
use Rattle.asm_tree.specs.declared.tree.Stmt.{Stmt as CodeStmt, Stmt-F, fold-Stmt}
use Rattle.asm_tree.specs.declared.tree.Stmt.TheOpen as stmts_open
use Rattle.asm_tree.specs.declared.tree.Clause.{Clause as CodeClause, Clause-F, fold-Clause}
use Rattle.asm_tree.specs.declared.tree.Init.{Init as CodeInit}
use Rattle.asm_tree.specs.declared.tree.Init.TheVariants as inits
use Rattle.asm_tree.specs.declared.tree.Global_.{Global_}
use Rattle.asm_tree.specs.declared.tree.Local.{Local}
use Rattle.asm_tree.specs.declared.tree.Param.{Param as CodeParam}
use Rattle.asm_tree.specs.declared.tree.Function.{Function as CodeFunction}
use Rattle.asm_tree.specs.declared.tree.Table.{Table as CodeTable}
use Rattle.asm_tree.specs.declared.tree.Export.{Export as CodeExport}
use Rattle.asm_tree.specs.declared.tree.Exports.{Exports as CodeExports}
use Rattle.asm_tree.specs.declared.tree.Exports.TheVariants as exports
use Rattle.asm_tree.specs.declared.tree.Module.{Module as CodeModule}
use Rattle.asm_lang.specs.Trees.{Init, number, decimal as decimal_init, foreign_int, foreign_double, member, math, view}
use Rattle.asm_lang.specs.Modules.{Expr, lit, decimal, var, index, call, table_call, assign, store, unary, binary, chain, cond, comma, Exprs, no_exprs, exprs, Links, no_links, links, Stmt, block, plain, empty, if_only, if_else, returns, while_loop, do_while, for_loop, breaks, continues, labelled, switches, Stmts, no_stmts, stmts, Clauses, no_clauses, clauses, Variable, Param, Function, Table, Export, Exports, one, many, Module}

abbrev pub texts_view : List Text → List (List ℕ)
texts_view ts = map text_bytes ts

abbrev pub text_option : Option Text → Option (List ℕ)
text_option None = None
text_option (Some t) = Some (text_bytes t)

-- ---- expressions

abbrev pub exprs_in : List Expr → Exprs
exprs_in [] = no_exprs
exprs_in (e ∷ es) = exprs e (exprs_in es)

-- a further operand of a chain
pub record LinkView : Type 0 where
  pub minus : Bool
  pub operand : Expr

abbrev pub links_in : List LinkView → Links
links_in [] = no_links
links_in (l ∷ ls) = links l.minus l.operand (links_in ls)

abbrev pub expr_layer : Expr-F Expr LinkView → Expr
expr_layer (exprs_open.Lit v) = lit v
expr_layer (exprs_open.Decimal t) = decimal (text_bytes t)
expr_layer (exprs_open.Var n) = var (text_bytes n)
expr_layer (exprs_open.Index n i) = index (text_bytes n) i.value
expr_layer (exprs_open.Call n es) = call (text_bytes n) (exprs_in es.items.items)
expr_layer (exprs_open.TableCall n i es) = table_call (text_bytes n) i.value (exprs_in es.items.items)
expr_layer (exprs_open.Assign n e) = assign (text_bytes n) e.value
expr_layer (exprs_open.Store n i e) = store (text_bytes n) i.value e.value
expr_layer (exprs_open.Unary op e) = unary op e.value
expr_layer (exprs_open.Binary op l r) = binary op l.value r.value
expr_layer (exprs_open.Chain e ls) = chain e.value (links_in ls.items.items)
expr_layer (exprs_open.Cond c a b) = cond c.value a.value b.value
expr_layer (exprs_open.Comma es) = comma (exprs_in es.items.items)

abbrev pub link_layer : Link-F Expr LinkView → LinkView
link_layer l = record { minus = l.minus; operand = l.operand }

unfoldable pub expr_view : CodeExpr → Expr
expr_view = fold-Expr Expr LinkView expr_layer link_layer

unfoldable pub link_view : CodeLink → LinkView
link_view = fold-Link Expr LinkView expr_layer link_layer

abbrev pub exprs_view : List CodeExpr → Exprs
exprs_view es = exprs_in (map expr_view es)

abbrev pub links_view : List CodeLink → Links
links_view ls = links_in (map link_view ls)

abbrev pub expr_option : Option CodeExpr → Option Expr
expr_option None = None
expr_option (Some e) = Some (expr_view e)

-- ---- statements

abbrev pub stmts_in : List Stmt → Stmts
stmts_in [] = no_stmts
stmts_in (s ∷ ss) = stmts s (stmts_in ss)

pub record ClauseView : Type 0 where
  pub value : Option ℤ
  pub body : Stmts

abbrev pub clauses_in : List ClauseView → Clauses
clauses_in [] = no_clauses
clauses_in (c ∷ cs) = clauses c.value c.body (clauses_in cs)

abbrev pub stmt_layer : Stmt-F Stmt ClauseView → Stmt
stmt_layer (stmts_open.Block ss) = block (stmts_in ss.items.items)
stmt_layer (stmts_open.Plain e) = plain (expr_view e)
stmt_layer stmts_open.Empty = empty
stmt_layer (stmts_open.If s None c) = if_only (expr_view c) s.value
stmt_layer (stmts_open.If s (Some r) c) = if_else (expr_view c) s.value r.value
stmt_layer (stmts_open.Return o) = returns (expr_option o)
stmt_layer (stmts_open.While c s) = while_loop (expr_view c) s.value
stmt_layer (stmts_open.DoWhile s c) = do_while s.value (expr_view c)
stmt_layer (stmts_open.For h s) = for_loop (expr_option h.value.start) (expr_option h.value.condition) (expr_option h.value.step) s.value
stmt_layer (stmts_open.Break l) = breaks (text_option l)
stmt_layer (stmts_open.Continue l) = continues (text_option l)
stmt_layer (stmts_open.Labelled ls s) = labelled (texts_view (list_items ls)) s.value
stmt_layer (stmts_open.Switch cs e) = switches (expr_view e) (clauses_in cs.items.items)

abbrev pub clause_layer : Clause-F Stmt ClauseView → ClauseView
clause_layer c = record { value = c.value; body = stmts_in c.body.items.items }

unfoldable pub stmt_view : CodeStmt → Stmt
stmt_view = fold-Stmt Stmt ClauseView stmt_layer clause_layer

unfoldable pub clause_view : CodeClause → ClauseView
clause_view = fold-Clause Stmt ClauseView stmt_layer clause_layer

abbrev pub stmts_view : List CodeStmt → Stmts
stmts_view ss = stmts_in (map stmt_view ss)

abbrev pub clauses_view : List CodeClause → Clauses
clauses_view cs = clauses_in (map clause_view cs)

-- ---- declarations

abbrev pub init_view : CodeInit → Init
init_view (inits.Number v) = number v
init_view (inits.Decimal t) = decimal_init (text_bytes t)
init_view (inits.ForeignInt f p) = foreign_int (text_bytes f) (text_bytes p)
init_view (inits.ForeignDouble f p) = foreign_double (text_bytes f) (text_bytes p)
init_view (inits.Member f p) = member (text_bytes f) (text_bytes p)
init_view (inits.Math f p) = math (text_bytes f) (text_bytes p)
init_view (inits.View f p h) = view (text_bytes f) (text_bytes p) (text_bytes h)

abbrev pub global_view : Global_ → Variable
global_view g = record { name = text_bytes g.name; init = init_view g.init }

abbrev pub local_view : Local → Variable
local_view l = record { name = text_bytes l.name; init = init_view l.init }

abbrev pub param_view : CodeParam → Param
param_view p = record { name = text_bytes p.name; double = p.double }

abbrev pub function_view : CodeFunction → Function
function_view f = record { name = text_bytes f.name; params = map param_view (list_items f.params); locals = map local_view (list_items f.locals); body = stmts_view (list_items f.body) }

abbrev pub table_view : CodeTable → Table
table_view t = record { name = text_bytes t.name; members = texts_view (list_items t.members) }

abbrev pub export_view : CodeExport → Export
export_view e = record { key = text_bytes e.key; function = text_bytes e.function }

abbrev pub exports_view : CodeExports → Exports
exports_view (exports.One f) = one (text_bytes f)
exports_view (exports.Many es) = many (map export_view (list_items es))

abbrev pub module_view : CodeModule → Module
module_view m = record {
  name = text_option m.name;
  params = texts_view (list_items m.params);
  globals = map global_view (list_items m.globals);
  functions = map function_view (list_items m.functions);
  tables = map table_view (list_items m.tables);
  exports = exports_view m.exports;
}
