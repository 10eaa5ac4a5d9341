-- What the code holds, as lexemes and trees of the definitions.
use Rattle.std.specs.Prelude.{ℕ, Bool, List, [], ◌∷◌, Option, Some, None, ℤ, pos, neg_ℤ, map, if◌then◌else◌}
use Rattle.std.specs.Global.{Global}
use Rattle.std.specs.declared.boxed.Box.{Box}
use Rattle.sem_words.specs.declared.text.Text.{Text}
use Rattle.sem_words.specs.Lists.{list_items, text_bytes}
use Rattle.sem_words.specs.declared.js_value.JsOp.{JsOp}
use Rattle.sem_words.specs.declared.js_value.JsOp.TheVariants.{Add, Sub}
use Rattle.asm_grammar_nodes.specs.declared.lexeme.Class.{Class as CodeClass}
use Rattle.asm_grammar_nodes.specs.declared.lexeme.Class.TheVariants as classes
use Rattle.asm_grammar_nodes.specs.declared.lexeme.Lexeme.{Lexeme as CodeLexeme}
use Rattle.asm_grammar_nodes.specs.declared.lexeme.Word.{Word}
use Rattle.asm_grammar_nodes.specs.declared.tree.ExprTree.{ExprTree as CodeExpr, ExprTree-F, fold-ExprTree}
use Rattle.asm_grammar_nodes.specs.declared.tree.ExprTree.TheOpen as exprs_open
use Rattle.asm_grammar_nodes.specs.declared.tree.Addend.{Addend as CodeAddend, Addend-F, fold-Addend}
use Rattle.asm_grammar_nodes.specs.declared.tree.StmtTree.{StmtTree as CodeStmt, StmtTree-F, fold-StmtTree}
use Rattle.asm_grammar_nodes.specs.declared.tree.StmtTree.TheOpen as stmts_open
use Rattle.asm_grammar_nodes.specs.declared.tree.ClauseTree.{ClauseTree as CodeClause, ClauseTree-F, fold-ClauseTree}
use Rattle.asm_grammar_nodes.specs.declared.declarations.InitTree.{InitTree}
use Rattle.asm_grammar_nodes.specs.declared.declarations.InitTree.TheVariants as inits
use Rattle.asm_grammar_nodes.specs.declared.declarations.VariableTree.{VariableTree as CodeVariable}
use Rattle.asm_grammar_nodes.specs.declared.declarations.ParamTree.{ParamTree as CodeParam}
use Rattle.asm_grammar_nodes.specs.declared.declarations.FunctionTree.{FunctionTree as CodeFunction}
use Rattle.asm_grammar_nodes.specs.declared.declarations.TableTree.{TableTree as CodeTable}
use Rattle.asm_grammar_nodes.specs.declared.declarations.ExportTree.{ExportTree as CodeExport}
use Rattle.asm_grammar_nodes.specs.declared.declarations.ExportsTree.{ExportsTree as CodeExports}
use Rattle.asm_grammar_nodes.specs.declared.declarations.ExportsTree.TheVariants as exports
use Rattle.asm_grammar_nodes.specs.declared.declarations.Heading.{Heading as CodeHeading}
use Rattle.asm_grammar_nodes.specs.declared.declarations.ModuleTree.{ModuleTree as CodeModule}
use Rattle.asm_lang.specs.Lexemes as lexemes
use Rattle.asm_lang.specs.Lexemes.{Class, Lexeme}
use Rattle.asm_lang.specs.Grammar.{under}
use Rattle.asm_lang.specs.Trees.{ExprTree, literal, decimals, variable, element, call, table_call, assignment, store, unary, binary, conditional, listed, ExprTrees, no_expr, one_expr, StmtTree, block, plain, empty, if_only, if_else, returns, while_loop, do_loop, for_loop, breaks, continues, switches, StmtTrees, no_stmt, one_stmt, ClauseTrees, no_clause, one_clause, Init, number, decimal, foreign_int, foreign_double, member, math, view, VariableTree, ParamTree, FunctionTree, TableTree, ExportTree, ExportsTree, one, many, Heading, ModuleTree}

-- ---- lexemes

abbrev pub class_view : CodeClass → Class
class_view classes.Identifier = lexemes.identifier
class_view classes.Break = lexemes.break_word
class_view classes.Case = lexemes.case_word
class_view classes.Continue = lexemes.continue_word
class_view classes.Default = lexemes.default_word
class_view classes.Do = lexemes.do_word
class_view classes.Else = lexemes.else_word
class_view classes.For = lexemes.for_word
class_view classes.Function = lexemes.function_word
class_view classes.If = lexemes.if_word
class_view classes.In = lexemes.in_word
class_view classes.New = lexemes.new_word
class_view classes.Return = lexemes.return_word
class_view classes.Switch = lexemes.switch_word
class_view classes.Var = lexemes.var_word
class_view classes.While = lexemes.while_word
class_view classes.Reserved = lexemes.reserved_word
class_view classes.Number = lexemes.a_number
class_view classes.Decimal = lexemes.a_decimal
class_view classes.Directive = lexemes.directive
class_view classes.OpenBrace = lexemes.open_brace
class_view classes.CloseBrace = lexemes.close_brace
class_view classes.OpenParen = lexemes.open_paren
class_view classes.CloseParen = lexemes.close_paren
class_view classes.OpenBracket = lexemes.open_bracket
class_view classes.CloseBracket = lexemes.close_bracket
class_view classes.Dot = lexemes.dot
class_view classes.Semicolon = lexemes.semicolon
class_view classes.Comma = lexemes.comma
class_view classes.Question = lexemes.question
class_view classes.Colon = lexemes.colon
class_view classes.Equals = lexemes.equals
class_view (classes.Operator op) = lexemes.operator op
class_view classes.Tilde = lexemes.tilde
class_view classes.Bang = lexemes.bang
class_view classes.Other = lexemes.other

abbrev pub lexeme_view : CodeLexeme → Lexeme
lexeme_view t = record { class = class_view t.class; text = t.text.now; value = t.value; line = t.line; at = t.at }

abbrev pub lexemes_view : List CodeLexeme → List Lexeme
lexemes_view ts = map lexeme_view ts

abbrev pub word_view : Word → Lexeme
word_view w = record { class = class_view w.class; text = text_bytes w.text; value = w.value; line = w.line; at = w.at }

abbrev pub words_view : List Word → List Lexeme
words_view ws = map word_view ws

-- ---- expressions

abbrev pub exprs_in : List ExprTree → ExprTrees
exprs_in [] = no_expr
exprs_in (e ∷ es) = one_expr e (exprs_in es)

-- a further operand of a sum
pub record AddendView : Type 0 where
  pub at : ℕ
  pub minus : Bool
  pub operand : ExprTree

abbrev pub sign_of : Bool → JsOp
sign_of minus = if minus then Sub else Add

-- the sum of an operand and further ones, from the left
abbrev pub sum_in : ExprTree → List AddendView → ExprTree
sum_in e [] = e
sum_in e (a ∷ others) = sum_in (binary a.at e (sign_of a.minus) a.operand) others

abbrev pub expr_layer : ExprTree-F ExprTree AddendView → ExprTree
expr_layer (exprs_open.Literal at v) = literal at (pos v)
expr_layer (exprs_open.Negative at v) = literal at (neg_ℤ (pos v))
expr_layer (exprs_open.Decimals at t) = decimals at (text_bytes t)
expr_layer (exprs_open.Variable at n) = variable at (text_bytes n)
expr_layer (exprs_open.Element at n i) = element at (text_bytes n) i.value
expr_layer (exprs_open.Call at n es) = call at (text_bytes n) (exprs_in es.items.items)
expr_layer (exprs_open.TableCall at n i es) = table_call at (text_bytes n) i.value (exprs_in es.items.items)
expr_layer (exprs_open.Assignment at n e) = assignment at (text_bytes n) e.value
expr_layer (exprs_open.Store at n i e) = store at (text_bytes n) i.value e.value
expr_layer (exprs_open.Unary at op e) = unary at op e.value
expr_layer (exprs_open.Binary at l op r) = binary at l.value op r.value
expr_layer (exprs_open.Sum e others) = sum_in e.value others.items.items
expr_layer (exprs_open.Conditional at c a b) = conditional at c.value a.value b.value
expr_layer (exprs_open.Listed at es) = listed at (exprs_in es.items.items)

abbrev pub addend_layer : Addend-F ExprTree AddendView → AddendView
addend_layer a = record { at = a.at; minus = a.minus; operand = a.operand }

unfoldable pub expr_view : CodeExpr → ExprTree
expr_view = fold-ExprTree ExprTree AddendView expr_layer addend_layer

unfoldable pub addend_view : CodeAddend → AddendView
addend_view = fold-Addend ExprTree AddendView expr_layer addend_layer

abbrev pub exprs_view : List CodeExpr → ExprTrees
exprs_view es = exprs_in (map expr_view es)

abbrev pub expr_option : Option (Box CodeExpr Global) → Option ExprTree
expr_option None = None
expr_option (Some e) = Some (expr_view e.value)

-- ---- statements

abbrev pub stmts_in : List StmtTree → StmtTrees
stmts_in [] = no_stmt
stmts_in (s ∷ ss) = one_stmt s (stmts_in ss)

pub record ClauseView : Type 0 where
  pub value : Option ℤ
  pub body : StmtTrees

abbrev pub clauses_in : List ClauseView → ClauseTrees
clauses_in [] = no_clause
clauses_in (c ∷ cs) = one_clause c.value c.body (clauses_in cs)

-- clauses with one more at their end
abbrev pub more_clauses : ClauseTrees → Option ℤ → StmtTrees → ClauseTrees
more_clauses no_clause v ss = one_clause v ss no_clause
more_clauses (one_clause u rs cs) v ss = one_clause u rs (more_clauses cs v ss)

-- a statement under labels, in text order
abbrev pub under_all : List Lexeme → StmtTree → StmtTree
under_all [] s = s
under_all (n ∷ ns) s = under n (under_all ns s)

abbrev pub name_option : Option (Text) → Option (List ℕ)
name_option None = None
name_option (Some n) = Some (text_bytes n)

abbrev pub stmt_layer : StmtTree-F StmtTree ClauseView → StmtTree
stmt_layer (stmts_open.Block at ss) = block at (stmts_in ss.items.items)
stmt_layer (stmts_open.Plain at e) = plain at (expr_view e.value)
stmt_layer (stmts_open.Empty at) = empty at
stmt_layer (stmts_open.If at c s None) = if_only at (expr_view c.value) s.value
stmt_layer (stmts_open.If at c s (Some r)) = if_else at (expr_view c.value) s.value r.value
stmt_layer (stmts_open.Return at o) = returns at (expr_option o)
stmt_layer (stmts_open.While at c s) = while_loop at (expr_view c.value) s.value
stmt_layer (stmts_open.DoWhile at s c) = do_loop at s.value (expr_view c.value)
stmt_layer (stmts_open.For at h s) = for_loop at (expr_option h.value.start) (expr_option h.value.condition) (expr_option h.value.step) s.value
stmt_layer (stmts_open.Break at l) = breaks at (name_option l)
stmt_layer (stmts_open.Continue at l) = continues at (name_option l)
stmt_layer (stmts_open.Labelled ls s) = under_all (words_view (list_items ls)) s.value
stmt_layer (stmts_open.Switch at e cs) = switches at (expr_view e.value) (clauses_in cs.items.items)

abbrev pub clause_layer : ClauseTree-F StmtTree ClauseView → ClauseView
clause_layer c = record { value = c.value; body = stmts_in c.body.items.items }

unfoldable pub stmt_view : CodeStmt → StmtTree
stmt_view = fold-StmtTree StmtTree ClauseView stmt_layer clause_layer

abbrev pub stmts_view : List CodeStmt → StmtTrees
stmts_view ss = stmts_in (map stmt_view ss)

unfoldable pub clause_view : CodeClause → ClauseView
clause_view = fold-ClauseTree StmtTree ClauseView stmt_layer clause_layer

abbrev pub clauses_view : List CodeClause → ClauseTrees
clauses_view cs = clauses_in (map clause_view cs)

-- ---- declarations

abbrev pub init_view : InitTree → Init
init_view (inits.Number v) = number v
init_view (inits.Decimal minus t) = decimal (if minus then 45 ∷ (text_bytes t) else (text_bytes t))
init_view (inits.ForeignInt f p) = foreign_int (text_bytes f) (text_bytes p)
init_view (inits.ForeignDouble f p) = foreign_double (text_bytes f) (text_bytes p)
init_view (inits.Member f p) = member (text_bytes f) (text_bytes p)
init_view (inits.Math f p) = math (text_bytes f) (text_bytes p)
init_view (inits.View f p h) = view (text_bytes f) (text_bytes p) (text_bytes h)

abbrev pub variable_view : CodeVariable → VariableTree
variable_view v = record { at = v.at; name = text_bytes v.name; init = init_view v.init }

abbrev pub param_view : CodeParam → ParamTree
param_view p = record { at = p.at; name = text_bytes p.name; double = p.double }

abbrev pub function_view : CodeFunction → FunctionTree
function_view f = record { at = f.at; name = text_bytes f.name; params = map param_view (list_items f.params); locals = map variable_view (list_items f.locals); body = stmts_view (list_items f.body) }

abbrev pub names_view : List (Text) → List (List ℕ)
names_view ns = map text_bytes ns

abbrev pub table_view : CodeTable → TableTree
table_view t = record { at = t.at; name = text_bytes t.name; members = names_view (list_items t.members) }

abbrev pub export_view : CodeExport → ExportTree
export_view e = record { at = e.at; key = text_bytes e.key; function = text_bytes e.function }

abbrev pub exports_view : CodeExports → ExportsTree
exports_view (exports.One at f) = one at (text_bytes f)
exports_view (exports.Many es) = many (map export_view (list_items es))

abbrev pub heading_view : CodeHeading → Heading
heading_view h = record { name = name_option h.name; params = names_view (list_items h.params) }

abbrev pub module_view : CodeModule → ModuleTree
module_view m = record {
  heading = heading_view m.heading;
  globals = map variable_view (list_items m.globals);
  functions = map function_view (list_items m.functions);
  tables = map table_view (list_items m.tables);
  exports = exports_view m.exports;
}
