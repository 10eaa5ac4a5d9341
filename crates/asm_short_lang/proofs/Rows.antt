-- Short forms that the checker computes: what stays of each module, with its new names.
use Rattle.std.specs.Prelude.{◌≡◌, ℕ, zero, suc, ◌+◌, ℤ, pos, false, List, [], ◌∷◌, ◌++◌, Some, map, slice_get, codes, refl}
use Rattle.sem_words.specs.declared.js_value.JsOp.TheVariants.{Or, And}
use Rattle.sem_words.specs.declared.word.Word.TheVariants.{W32}
use Rattle.session_lang.specs.Script.{ScriptPlain}
use Rattle.session_lang.specs.Observation.{call_gave, done, ended}
use Rattle.asm_lang.specs.Trees.{number, view, foreign_int}
use Rattle.asm_lang.specs.Modules.{Expr, lit, var, table_call, assign, binary, chain, no_exprs, exprs, Links, no_links, links, Stmt, block, plain, returns, while_loop, do_while, breaks, labelled, Stmts, no_stmts, stmts, Variable, Param, Function, Table, Export, Exports, one, many, Module}
use Rattle.asm_lang_exec.specs.Session.{asm}
use Rattle.asm_short_lang.specs.Sequence.{numbered, first_names}
use Rattle.asm_short_lang.specs.Renaming.{renamed}

-- ---- building modules

abbrev pub int : ℕ → Expr
int n = lit (pos n)

abbrev pub signed : Expr → Expr
signed e = binary Or e (int 0)

abbrev pub plus : Expr → Expr → Expr
plus a b = chain a (links false b no_links)

abbrev pub statements : List Stmt → Stmts
statements [] = no_stmts
statements (s ∷ ss) = stmts s (statements ss)

abbrev pub answers : Expr → Stmt
answers e = returns (Some (signed e))

abbrev pub zero_variable : List ℕ → Variable
zero_variable n = record { name = n; init = number (pos 0) }

abbrev pub int_param : List ℕ → Param
int_param n = record { name = n; double = false }

abbrev pub function : List ℕ → (params locals : List (List ℕ)) → List Stmt → Function
function n ps ls ss = record { name = n; params = map int_param ps; locals = map zero_variable ls; body = statements ss }

abbrev pub module_of : (params : List (List ℕ)) → List Variable → List Function → List Table → Exports → Module
module_of ps gs fs ts es = record { name = Some (codes "m"); params = ps; globals = gs; functions = fs; tables = ts; exports = es }

abbrev pub export : List ℕ → List ℕ → Export
export k f = record { key = k; function = f }

abbrev pub called : List ℕ → List ℤ → ScriptPlain
called n zs = record { globals = []; writes = []; calls = record { name = n; args = zs; line = 1 } ∷ []; replies = [] }

-- ---- names that a key stands for, and a function that is left out

-- function add(left,right){left=left|0;right=right|0;return left+right|0;} return {sum:add};
abbrev pub sum : Module
sum = module_of [] [] (function (codes "add") (codes "left" ∷ codes "right" ∷ []) [] (answers (plus (var (codes "left")) (var (codes "right"))) ∷ []) ∷ []) [] (many (export (codes "sum") (codes "add") ∷ []))

-- function a(a,b){a=a|0;b=b|0;return a+b|0;} return {sum:a};
abbrev pub short_sum : Module
short_sum = module_of [] [] (function (codes "a") (codes "a" ∷ codes "b" ∷ []) [] (answers (plus (var (codes "a")) (var (codes "b"))) ∷ []) ∷ []) [] (many (export (codes "sum") (codes "a") ∷ []))

sum_is_short : renamed sum ≡ short_sum
sum_is_short = refl

sum_is_its_own : renamed short_sum ≡ short_sum
sum_is_its_own = refl

sum_shows_the_same : asm short_sum 0 (called (codes "sum") (pos 2 ∷ pos 3 ∷ [])) 1 ≡ asm sum 0 (called (codes "sum") (pos 2 ∷ pos 3 ∷ [])) 1
sum_shows_the_same = refl

sum_shows_five : asm short_sum 0 (called (codes "sum") (pos 2 ∷ pos 3 ∷ [])) 1 ≡ Some (ended (call_gave (W32 5) ∷ []) done [])
sum_shows_five = refl

-- ---- a single export keeps its name

-- var v=0; function f(x,y){..return x+y|0;} return f; and so for short names
abbrev pub alone : (global x y : List ℕ) → Module
alone g x y = module_of [] (zero_variable g ∷ []) (function (codes "a") (x ∷ y ∷ []) [] (answers (plus (var x) (var y)) ∷ []) ∷ []) [] (one (codes "a"))

-- the global gets the first name that isn't kept; the variables may get the function's
alone_is_short : renamed (alone (codes "v") (codes "x") (codes "y")) ≡ alone (codes "b") (codes "a") (codes "b")
alone_is_short = refl

-- with a parameter of the module too
abbrev pub kept : (param global : List ℕ) → Module
kept p g = module_of (p ∷ []) (zero_variable g ∷ []) (function (codes "a") [] [] (answers (var g) ∷ []) ∷ []) [] (one (codes "a"))

kept_is_short : renamed (kept (codes "p") (codes "g")) ≡ kept (codes "b") (codes "c")
kept_is_short = refl

-- ---- a function that calls another one, and what no parameter gets

-- var d=1; function g(){return d|0;} function e(){return g()|0;} return g;
abbrev pub single : (params : List (List ℕ)) → (global : List ℕ) → Module
single ps d = module_of ps (record { name = d; init = number (pos 1) } ∷ []) (function (codes "g") [] [] (answers (var d) ∷ []) ∷ []) [] (one (codes "g"))

single_is_short : renamed (single (codes "a" ∷ codes "b" ∷ codes "c" ∷ []) (codes "d")) ≡ single (codes "a" ∷ codes "b" ∷ codes "c" ∷ []) (codes "d")
single_is_short = refl

-- ---- labels have names of their own, in text order

-- do{outer:while(1){break outer;}}while(0); again:{break again;} return x+y|0;
abbrev pub labels : (name first second x y : List ℕ) → Function
labels f a b x y = function f (x ∷ y ∷ []) []
    (do_while (block (statements (labelled (a ∷ []) (while_loop (int 1) (block (statements (breaks (Some a) ∷ [])))) ∷ []))) (int 0)
    ∷ labelled (b ∷ []) (block (statements (breaks (Some b) ∷ []))) ∷ answers (plus (var x) (var y)) ∷ [])

abbrev pub labelling : (first second x y : List ℕ) → Module
labelling a b x y = module_of [] [] (labels (codes "f") a b x y ∷ []) [] (one (codes "f"))

-- one label twice in the source becomes two
labels_are_short : renamed (labelling (codes "a") (codes "a") (codes "x") (codes "y")) ≡ labelling (codes "a") (codes "b") (codes "a") (codes "b")
labels_are_short = refl

-- ---- tables and their members

-- function p(x){..} function q(x){..} function f(x){x=x|0;return t[x&1](x)|0;} var t=[p,q]; return f;
abbrev pub entered : (p q t x : List ℕ) → Module
entered p q t x = module_of [] []
    (function p (x ∷ []) [] (answers (var x) ∷ []) ∷ function q (x ∷ []) [] (answers (plus (var x) (int 1)) ∷ [])
    ∷ function (codes "f") (x ∷ []) [] (answers (table_call t (binary And (var x) (int 1)) (exprs (var x) no_exprs)) ∷ []) ∷ [])
    (record { name = t; members = p ∷ q ∷ [] } ∷ []) (one (codes "f"))

-- the parameter of f may get the names of p and q, but not the table's, which f uses
entered_is_short : renamed (entered (codes "p") (codes "q") (codes "t") (codes "x")) ≡ entered (codes "a") (codes "b") (codes "c") (codes "a")
entered_is_short = refl

-- ---- what a name stands for decides

-- g is assigned, and h is a local variable that hides the global of its name
abbrev pub hiding : (g h local : List ℕ) → Module
hiding g h l = module_of [] (zero_variable g ∷ zero_variable h ∷ []) (function (codes "f") [] (l ∷ []) (plain (assign g (var l)) ∷ answers (var l) ∷ []) ∷ []) [] (one (codes "f"))

-- the local variable isn't named as the global that is assigned; the other global's name it may have
hiding_is_short : renamed (hiding (codes "g") (codes "h") (codes "h")) ≡ hiding (codes "a") (codes "b") (codes "b")
hiding_is_short = refl

-- ---- names of the outside

-- var H=new s.Int32Array(h); var k=e.start|0; return {go:f};
abbrev pub outside : (s e h view start f : List ℕ) → Module
outside s e h v k f = module_of (s ∷ e ∷ h ∷ []) (record { name = v; init = view s (codes "Int32Array") h } ∷ record { name = k; init = foreign_int e (codes "start") } ∷ [])
    (function f [] [] (answers (var k) ∷ []) ∷ []) [] (many (export (codes "go") f ∷ []))

outside_is_short : renamed (outside (codes "s") (codes "e") (codes "h") (codes "H") (codes "k") (codes "f")) ≡ outside (codes "a") (codes "b") (codes "c") (codes "d") (codes "e") (codes "f")
outside_is_short = refl

-- ---- reserved words aren't given, and names of two letters come after those of one

abbrev numbered_names : (count first : ℕ) → List (List ℕ)
numbered_names zero i = []
numbered_names (suc count) i = (codes "v" ++ numbered i) ∷ numbered_names count (i + 1)

abbrev sum_of : List (List ℕ) → Links
sum_of [] = no_links
sum_of (n ∷ ns) = links false (var n) (sum_of ns)

-- many globals, and a function that uses all of them and has three variables of its own
abbrev many_globals : (globals : List (List ℕ)) → (f x y z : List ℕ) → Module
many_globals gs f x y z = module_of [] (map zero_variable gs) (function f (x ∷ []) (y ∷ z ∷ []) (answers (chain (var x) (links false (var y) (links false (var z) (sum_of gs)))) ∷ []) ∷ []) [] (many (export (codes "go") f ∷ []))

many_globals_are_short : renamed (many_globals (numbered_names 60 0) (codes "f") (codes "x") (codes "y") (codes "z")) ≡ many_globals (first_names [] 60) (codes "ag") (codes "ag") (codes "ah") (codes "ai")
many_globals_are_short = refl

last_of_sixty : slice_get (first_names [] 60) 59 ≡ Some (codes "af")
last_of_sixty = refl
