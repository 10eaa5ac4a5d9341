-- The canonical text of a module: its tokens, joined with a space only where the neighbours would run together.
use Rattle.std.specs.Prelude.{ℕ, ◌+◌, Bool, true, false, ◌&&◌, ◌||◌, not, List, [], ◌∷◌, ◌++◌, length, Option, Some, None, ℤ, pos, negsuc, nat_lt, codes, ◌==◌, if◌then◌else◌}
use Rattle.std.specs.Fmt.{decimal as decimal_text}
use Rattle.sem_words.specs.declared.js_value.JsOp.{JsOp}
use Rattle.sem_words.specs.declared.js_value.JsOp.TheVariants.{Add, Sub, Mul, Div, Rem, Or, And, Xor, Shl, Sar, Shr, Lt, Le, Gt, Ge, Eq, Ne}
use Rattle.sem_words.specs.declared.js_value.JsUnary.{JsUnary}
use Rattle.sem_words.specs.declared.js_value.JsUnary.TheVariants.{Neg, BitNot, Not, Plus}
use Rattle.asm_lang_tokens.specs.Bytes.{is_name_byte}
use Rattle.asm_lang_tokens.specs.Text.{token_len}
use Rattle.asm_lang.specs.Trees as trees
use Rattle.asm_lang.specs.Trees.{Init}
use Rattle.asm_lang.specs.Grammar.{level_of}
use Rattle.asm_lang.specs.Modules.{Expr, lit, decimal, var, index, call, table_call, assign, store, unary, binary, chain, cond, comma, Exprs, no_exprs, exprs, Links, no_links, links, Stmt, block, plain, empty, if_only, if_else, returns, while_loop, do_while, for_loop, breaks, continues, labelled, switches, Stmts, no_stmts, stmts, Clauses, no_clauses, clauses, Variable, Param, Function, Table, Export, Exports, one, many, Module}

-- a token's text, or a line feed
pub data Piece : Type 0 where
  word : List ℕ → Piece
  line_feed : Piece

abbrev pub sign_text : List ℕ → List Piece
sign_text bs = word bs ∷ []

abbrev pub between : List ℕ → List Piece → List ℕ → List Piece
between a ps b = word a ∷ (ps ++ word b ∷ [])

abbrev pub operator_text : JsOp → List ℕ
operator_text Add = codes "+"
operator_text Sub = codes "-"
operator_text Mul = codes "*"
operator_text Div = codes "/"
operator_text Rem = codes "%"
operator_text Or = codes "|"
operator_text And = codes "&"
operator_text Xor = codes "^"
operator_text Shl = codes "<<"
operator_text Sar = codes ">>"
operator_text Shr = codes ">>>"
operator_text Lt = codes "<"
operator_text Le = codes "<="
operator_text Gt = codes ">"
operator_text Ge = codes ">="
operator_text Eq = codes "=="
operator_text Ne = codes "!="

abbrev pub prefix_text : JsUnary → List ℕ
prefix_text Neg = codes "-"
prefix_text Plus = codes "+"
prefix_text BitNot = codes "~"
prefix_text Not = codes "!"

abbrev pub literal_text : ℤ → List Piece
literal_text (pos n) = word (decimal_text n) ∷ []
literal_text (negsuc n) = word (codes "-") ∷ word (decimal_text (n + 1)) ∷ []

-- ---- expressions

abbrev pub expr_level : Expr → ℕ
expr_level (lit (pos n)) = 14
expr_level (lit (negsuc n)) = 13
expr_level (assign n e) = 1
expr_level (store n i e) = 1
expr_level (unary op e) = 13
expr_level (binary op l r) = level_of op
expr_level (chain e ls) = 11
expr_level (cond c a b) = 2
expr_level (comma es) = 0
expr_level _ = 14

-- an operand in a place of this level
abbrev pub at_level : ℕ → ℕ → List Piece → List Piece
at_level p level ps = if nat_lt level p then between (codes "(") ps (codes ")") else ps

-- a literal after a prefix `-` would make a literal of it
abbrev pub is_literal : Expr → Bool
is_literal (lit (pos n)) = true
is_literal _ = false

abbrev pub after_prefix : JsUnary → Expr → List Piece → List Piece
after_prefix Neg e ps = if is_literal e then between (codes "(") ps (codes ")") else at_level 13 (expr_level e) ps
after_prefix op e ps = at_level 13 (expr_level e) ps

abbrev pub minus_text : Bool → List ℕ
minus_text true = codes "-"
minus_text false = codes "+"

abbrev mutual
  pub expr_text : Expr → List Piece
  expr_text (lit v) = literal_text v
  expr_text (decimal bs) = word bs ∷ []
  expr_text (var n) = word n ∷ []
  expr_text (index n i) = word n ∷ between (codes "[") (expr_text i) (codes "]")
  expr_text (call n es) = word n ∷ between (codes "(") (exprs_text false es) (codes ")")
  expr_text (table_call n i es) = word n ∷ (between (codes "[") (expr_text i) (codes "]") ++ between (codes "(") (exprs_text false es) (codes ")"))
  expr_text (assign n e) = word n ∷ word (codes "=") ∷ at_level 1 (expr_level e) (expr_text e)
  expr_text (store n i e) = word n ∷ (between (codes "[") (expr_text i) (codes "]") ++ word (codes "=") ∷ at_level 1 (expr_level e) (expr_text e))
  expr_text (unary op e) = word (prefix_text op) ∷ after_prefix op e (expr_text e)
  expr_text (binary op l r) = at_level (level_of op) (expr_level l) (expr_text l) ++ word (operator_text op) ∷ at_level (1 + level_of op) (expr_level r) (expr_text r)
  expr_text (chain e ls) = at_level 11 (expr_level e) (expr_text e) ++ links_text ls
  expr_text (cond c a b) = at_level 3 (expr_level c) (expr_text c) ++ word (codes "?") ∷ (at_level 1 (expr_level a) (expr_text a) ++ word (codes ":") ∷ at_level 1 (expr_level b) (expr_text b))
  expr_text (comma es) = exprs_text false es

  -- `true` says that an expression stands before
  pub exprs_text : Bool → Exprs → List Piece
  exprs_text after no_exprs = []
  exprs_text false (exprs e es) = at_level 1 (expr_level e) (expr_text e) ++ exprs_text true es
  exprs_text true (exprs e es) = word (codes ",") ∷ (at_level 1 (expr_level e) (expr_text e) ++ exprs_text true es)

  pub links_text : Links → List Piece
  links_text no_links = []
  links_text (links minus e ls) = word (minus_text minus) ∷ (at_level 12 (expr_level e) (expr_text e) ++ links_text ls)

abbrev pub option_text : Option Expr → List Piece
option_text None = []
option_text (Some e) = expr_text e

-- ---- statements

abbrev pub a_semicolon : List Piece
a_semicolon = word (codes ";") ∷ []

abbrev pub condition_text : List ℕ → Expr → List Piece
condition_text w e = word w ∷ between (codes "(") (expr_text e) (codes ")")

abbrev pub target_text : List ℕ → Option (List ℕ) → List Piece
target_text w None = word w ∷ a_semicolon
target_text w (Some l) = word w ∷ word l ∷ a_semicolon

abbrev pub labels_text : List (List ℕ) → List Piece
labels_text [] = []
labels_text (l ∷ ls) = word l ∷ word (codes ":") ∷ labels_text ls

abbrev pub value_text : Option ℤ → List Piece
value_text None = word (codes "default") ∷ word (codes ":") ∷ []
value_text (Some v) = word (codes "case") ∷ (literal_text v ++ word (codes ":") ∷ [])

abbrev mutual
  pub stmt_text : Stmt → List Piece
  stmt_text (block ss) = between (codes "{") (stmts_text ss) (codes "}")
  stmt_text (plain e) = expr_text e ++ a_semicolon
  stmt_text empty = a_semicolon
  stmt_text (if_only c s) = condition_text (codes "if") c ++ stmt_text s
  stmt_text (if_else c s r) = condition_text (codes "if") c ++ (stmt_text s ++ word (codes "else") ∷ stmt_text r)
  stmt_text (returns o) = word (codes "return") ∷ (option_text o ++ a_semicolon)
  stmt_text (while_loop c s) = condition_text (codes "while") c ++ stmt_text s
  stmt_text (do_while s c) = word (codes "do") ∷ (stmt_text s ++ (condition_text (codes "while") c ++ a_semicolon))
  stmt_text (for_loop a b c s) = word (codes "for") ∷ word (codes "(") ∷ (option_text a ++ word (codes ";") ∷ (option_text b ++ word (codes ";") ∷ (option_text c ++ word (codes ")") ∷ stmt_text s)))
  stmt_text (breaks l) = target_text (codes "break") l
  stmt_text (continues l) = target_text (codes "continue") l
  stmt_text (labelled ls s) = labels_text ls ++ stmt_text s
  stmt_text (switches e cs) = condition_text (codes "switch") e ++ between (codes "{") (clauses_text cs) (codes "}")

  pub stmts_text : Stmts → List Piece
  stmts_text no_stmts = []
  stmts_text (stmts s ss) = stmt_text s ++ stmts_text ss

  pub clauses_text : Clauses → List Piece
  clauses_text no_clauses = []
  clauses_text (clauses v ss cs) = value_text v ++ (stmts_text ss ++ clauses_text cs)

-- ---- declarations

-- the sign of a decimal is its first byte
abbrev pub decimal_pieces : List ℕ → List Piece
decimal_pieces [] = []
decimal_pieces (b ∷ bs) = if b == 45 then word (codes "-") ∷ word bs ∷ [] else word (b ∷ bs) ∷ []

abbrev pub member_text : List ℕ → List ℕ → List Piece
member_text f p = word f ∷ word (codes ".") ∷ word p ∷ []

abbrev pub init_text : Init → List Piece
init_text (trees.number v) = literal_text v
init_text (trees.decimal bs) = decimal_pieces bs
init_text (trees.foreign_int f p) = member_text f p ++ word (codes "|") ∷ word (codes "0") ∷ []
init_text (trees.foreign_double f p) = word (codes "+") ∷ member_text f p
init_text (trees.member f p) = member_text f p
init_text (trees.math f p) = member_text f (codes "Math") ++ word (codes ".") ∷ word p ∷ []
init_text (trees.view f p h) = word (codes "new") ∷ (member_text f p ++ between (codes "(") (word h ∷ []) (codes ")"))

abbrev pub binding_text : Variable → List Piece
binding_text v = word v.name ∷ word (codes "=") ∷ init_text v.init

abbrev pub variable_text : Variable → List Piece
variable_text v = word (codes "var") ∷ (binding_text v ++ a_semicolon)

-- further variables of a statement, each after a comma, and its end
abbrev pub further_text : List Variable → List Piece
further_text [] = a_semicolon
further_text (v ∷ vs) = word (codes ",") ∷ (binding_text v ++ further_text vs)

-- the variables of a function stand in one statement
abbrev pub locals_text : List Variable → List Piece
locals_text [] = []
locals_text (v ∷ vs) = word (codes "var") ∷ (binding_text v ++ further_text vs)

abbrev pub globals_text : List Variable → List Piece
globals_text [] = []
globals_text (v ∷ vs) = variable_text v ++ line_feed ∷ globals_text vs

-- names with commas between; `true` says that one stands before
abbrev pub names_text : Bool → List (List ℕ) → List Piece
names_text after [] = []
names_text false (n ∷ ns) = word n ∷ names_text true ns
names_text true (n ∷ ns) = word (codes ",") ∷ word n ∷ names_text true ns

abbrev pub param_names : List Param → List (List ℕ)
param_names [] = []
param_names (p ∷ ps) = p.name ∷ param_names ps

abbrev pub mark_text : Param → List Piece
mark_text p =
    word p.name ∷ word (codes "=") ∷ ((if p.double then word (codes "+") ∷ word p.name ∷ [] else word p.name ∷ word (codes "|") ∷ word (codes "0") ∷ []) ++ a_semicolon)

abbrev pub marks_text : List Param → List Piece
marks_text [] = []
marks_text (p ∷ ps) = mark_text p ++ marks_text ps

abbrev pub function_text : Function → List Piece
function_text f = word (codes "function") ∷ word f.name ∷ (between (codes "(") (names_text false (param_names f.params)) (codes ")") ++ between (codes "{") (marks_text f.params ++ (locals_text f.locals ++ stmts_text f.body)) (codes "}"))

abbrev pub functions_text : List Function → List Piece
functions_text [] = []
functions_text (f ∷ fs) = function_text f ++ line_feed ∷ functions_text fs

abbrev pub table_text : Table → List Piece
table_text t = word (codes "var") ∷ word t.name ∷ word (codes "=") ∷ (between (codes "[") (names_text false t.members) (codes "]") ++ a_semicolon)

abbrev pub tables_text : List Table → List Piece
tables_text [] = []
tables_text (t ∷ ts) = table_text t ++ line_feed ∷ tables_text ts

abbrev pub export_pieces : Bool → List Export → List Piece
export_pieces after [] = []
export_pieces false (e ∷ es) = word e.key ∷ word (codes ":") ∷ word e.function ∷ export_pieces true es
export_pieces true (e ∷ es) = word (codes ",") ∷ word e.key ∷ word (codes ":") ∷ word e.function ∷ export_pieces true es

abbrev pub exports_text : Exports → List Piece
exports_text (one f) = word (codes "return") ∷ word f ∷ a_semicolon
exports_text (many es) = word (codes "return") ∷ (between (codes "{") (export_pieces false es) (codes "}") ++ a_semicolon)

abbrev pub module_name_text : Option (List ℕ) → List Piece
module_name_text None = []
module_name_text (Some n) = word n ∷ []

abbrev pub module_pieces : Module → List Piece
module_pieces m =
    word (codes "function") ∷ (module_name_text m.name ++ (between (codes "(") (names_text false m.params) (codes ")") ++ word (codes "{") ∷ word (codes "\"use asm\"") ∷ word (codes ";") ∷ line_feed
    ∷ (globals_text m.globals ++ (functions_text m.functions ++ (tables_text m.tables ++ (exports_text m.exports ++ word (codes "}") ∷ line_feed ∷ []))))))

-- ---- joined

abbrev pub last_byte : List ℕ → ℕ
last_byte [] = 32
last_byte (b ∷ []) = b
last_byte (b ∷ c ∷ bs) = last_byte (c ∷ bs)

abbrev pub first_byte : List ℕ → ℕ
first_byte [] = 32
first_byte (b ∷ bs) = b

-- both neighbours are name bytes, or the first token would be longer
abbrev pub runs_together : List ℕ → List ℕ → Bool
runs_together [] b = false
runs_together (x ∷ xs) b = (is_name_byte (last_byte (x ∷ xs)) && is_name_byte (first_byte b)) || not (token_len ((x ∷ xs) ++ b) == length (x ∷ xs))

abbrev pub gap_between : List ℕ → List ℕ → List ℕ
gap_between a b = if runs_together a b then codes " " else []

-- the text of pieces after a token
abbrev pub joined : List ℕ → List Piece → List ℕ
joined before [] = []
joined before (word w ∷ ps) = gap_between before w ++ (w ++ joined w ps)
joined before (line_feed ∷ ps) = 10 ∷ joined [] ps

abbrev pub canonical_text : Module → List ℕ
canonical_text m = joined [] (module_pieces m)
