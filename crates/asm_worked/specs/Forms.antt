-- Short forms of the parts of modules and scripts, and of what is seen.
use Rattle.std.specs.Prelude.{ℕ, ℤ, pos, false, true, List, [], ◌∷◌, Some, map, codes}
use Rattle.sem_words.specs.declared.word.Word.{Word}
use Rattle.sem_words.specs.declared.word.Word.TheVariants.{W32}
use Rattle.sem_words.specs.declared.js_value.JsOp.TheVariants.{Or}
use Rattle.session_lang.specs.Script.{CallPlain, ReplyPlain, ReplyLinePlain, ScriptPlain}
use Rattle.session_lang.specs.Observation.{EventPlain, import_called, call_gave}
use Rattle.asm_lang.specs.Trees.{Init, number, member, view}
use Rattle.asm_lang.specs.Modules.{Expr, lit, var, assign, binary, chain, Exprs, no_exprs, exprs, no_links, links, Stmt, plain, returns, Stmts, no_stmts, stmts, Variable, Param, Function, Table, Exports, Module}

-- ---- expressions

abbrev pub int : ℕ → Expr
int n = lit (pos n)

-- `e|0`
abbrev pub signed : Expr → Expr
signed e = binary Or e (int 0)

abbrev pub plus : Expr → Expr → Expr
plus a b = chain a (links false b no_links)

abbrev pub minus : Expr → Expr → Expr
minus a b = chain a (links true b no_links)

abbrev pub arguments : List Expr → Exprs
arguments [] = no_exprs
arguments (e ∷ es) = exprs e (arguments es)

-- ---- statements

abbrev pub statements : List Stmt → Stmts
statements [] = no_stmts
statements (s ∷ ss) = stmts s (statements ss)

-- `n=e;`
abbrev pub sets : List ℕ → Expr → Stmt
sets n e = plain (assign n e)

-- `n=n+k|0;`
abbrev pub adds : List ℕ → Expr → Stmt
adds n k = sets n (signed (plus (var n) k))

-- `return e|0;`
abbrev pub answers : Expr → Stmt
answers e = returns (Some (signed e))

-- ---- modules

abbrev pub variable : List ℕ → Init → Variable
variable n i = record { name = n; init = i }

-- `var n=0;`
abbrev pub zero_variable : List ℕ → Variable
zero_variable n = variable n (number (pos 0))

-- `var n=new s.k(h);`
abbrev pub view_variable : List ℕ → List ℕ → Variable
view_variable n k = variable n (view (codes "s") k (codes "h"))

-- `var n=e.n;`
abbrev pub foreign_variable : List ℕ → Variable
foreign_variable n = variable n (member (codes "e") n)

abbrev pub int_param : List ℕ → Param
int_param n = record { name = n; double = false }

-- a function of ints
abbrev pub function : List ℕ → (params locals : List (List ℕ)) → List Stmt → Function
function n ps ls ss = record { name = n; params = map int_param ps; locals = map zero_variable ls; body = statements ss }

abbrev pub module_of : (params : List (List ℕ)) → List Variable → List Function → List Table → Exports → Module
module_of ps gs fs ts es = record { name = Some (codes "m"); params = ps; globals = gs; functions = fs; tables = ts; exports = es }

-- ---- scripts: a call on each line, and then the replies, one on each line

abbrev pub called : List ℕ → List ℤ → ℕ → CallPlain
called n zs line = record { name = n; args = zs; line = line }

abbrev pub replied : ReplyPlain → ℕ → ReplyLinePlain
replied r line = record { reply = r; line = line }

abbrev pub script : List CallPlain → List ReplyLinePlain → ScriptPlain
script cs rs = record { globals = []; writes = []; calls = cs; replies = rs }

-- ---- what is seen

abbrev pub gave : ℕ → EventPlain
gave w = call_gave (W32 w)

abbrev pub words : List ℕ → List Word
words ws = map W32 ws

abbrev pub imported : List ℕ → List ℕ → EventPlain
imported n ws = import_called n (words ws)
