-- Small modules of asm.js, and the parts of what they are translated to.
use Rattle.std.specs.Prelude.{ℕ, zero, suc, ◌%◌, ℤ, pos, negsuc, false, List, [], ◌∷◌, ◌++◌, Some, None, map, codes, ◌==◌, if◌then◌else◌}
use Rattle.sem_words.specs.declared.js_value.JsOp.TheVariants.{Div, Rem, Or, And, Shl, Sar, Shr, Lt, Ge, Eq}
use Rattle.sem_words.specs.declared.js_value.JsUnary.TheVariants.{Neg, BitNot, Not}
use Rattle.wasm_lang.specs.Modules.{FunctionBody}
use Rattle.session_lang.specs.Script.{CallPlain, ReplyLinePlain, give, ScriptPlain}
use Rattle.asm_lang.specs.Trees.{Init, number, foreign_int, member, view}
use Rattle.asm_lang.specs.Modules.{Expr, lit, var, call, table_call, assign, store, binary, chain, Exprs, no_exprs, exprs, no_links, links, Stmt, block, plain, if_only, returns, while_loop, breaks, continues, labelled, switches, Stmts, no_stmts, stmts, Clauses, no_clauses, clauses, Variable, Param, Function, Table, one, Module, index, unary, cond, comma, do_while, for_loop}
use Rattle.asm2wasm_translation.specs.Modules.{translation}

-- ---- parts of modules

abbrev pub int : ℕ → Expr
int n = lit (pos n)

-- `e|0`
abbrev pub signed : Expr → Expr
signed e = binary Or e (int 0)

-- the names a, b and so on
abbrev pub a : List ℕ
a = codes "a"

abbrev pub b : List ℕ
b = codes "b"

abbrev pub c : List ℕ
c = codes "c"

abbrev pub f : List ℕ
f = codes "f"

abbrev pub g : List ℕ
g = codes "g"

abbrev pub i : List ℕ
i = codes "i"

abbrev pub k : List ℕ
k = codes "k"

abbrev pub n : List ℕ
n = codes "n"

abbrev pub r : List ℕ
r = codes "r"

abbrev pub t : List ℕ
t = codes "t"

abbrev pub x : List ℕ
x = codes "x"

abbrev pub y : List ℕ
y = codes "y"

abbrev pub outer : List ℕ
outer = codes "outer"

abbrev pub heap : List ℕ
heap = codes "H"

abbrev pub arguments : List Expr → Exprs
arguments [] = no_exprs
arguments (e ∷ es) = exprs e (arguments es)

abbrev pub statements : List Stmt → Stmts
statements [] = no_stmts
statements (s ∷ ss) = stmts s (statements ss)

abbrev pub sum : Expr → Expr → Expr
sum l r = signed (chain l (links false r no_links))

abbrev pub sets : List ℕ → Expr → Stmt
sets n e = plain (assign n e)

abbrev pub int_param : List ℕ → Param
int_param n = record { name = n; double = false }

abbrev pub variable : List ℕ → Init → Variable
variable n i = record { name = n; init = i }

abbrev pub int_variable : ℕ → List ℕ → Variable
int_variable z n = variable n (number (pos z))

abbrev pub function : List ℕ → List (List ℕ) → List Variable → List Stmt → Function
function n ps ls ss = record { name = n; params = map int_param ps; locals = ls; body = statements ss }

-- a module of these functions that exports f
abbrev pub module_of : List Variable → List Function → List Table → Module
module_of gs fs ts = record { name = None; params = codes "s" ∷ codes "e" ∷ codes "h" ∷ []; globals = gs; functions = fs; tables = ts; exports = one f }

abbrev pub view_variable : Variable
view_variable = variable heap (view (codes "s") (codes "Int32Array") (codes "h"))

-- the module of f alone, with a view of 32-bit elements
abbrev pub alone : List (List ℕ) → List Variable → List Stmt → Module
alone ps ls ss = module_of (view_variable ∷ []) (function f ps ls ss ∷ []) []

-- ---- `H[a>>2]=H[b>>2]=c;`

abbrev pub element : List ℕ → Expr
element n = binary Sar (var n) (int 2)

abbrev pub storing : Module
storing = alone (a ∷ b ∷ c ∷ []) [] (plain (store heap (element a) (store heap (element b) (var c))) ∷ [])

-- ---- `H[-1]=H[3]=a;`

abbrev pub literal_indices : Module
literal_indices = alone (a ∷ []) [] (plain (store heap (lit (negsuc 0)) (store heap (int 3) (var a))) ∷ [])

-- ---- `return (a|0)/(b|0)|0;`

abbrev pub dividing : Module
dividing = alone (a ∷ b ∷ []) [] (returns (Some (signed (binary Div (signed (var a)) (signed (var b))))) ∷ [])

-- ---- `outer:while(a)while(b)continue outer;`

abbrev pub continuing : Module
continuing = alone (a ∷ b ∷ []) [] (labelled (outer ∷ []) (while_loop (var a) (while_loop (var b) (continues (Some outer)))) ∷ [])

-- ---- switches

-- `case 1:y=1;case 5:break;default:y=3;`
abbrev pub few_cases : Clauses
few_cases =
    clauses (Some (pos 1)) (statements (sets y (int 1) ∷ [])) (clauses (Some (pos 5)) (statements (breaks None ∷ [])) (clauses None (statements (sets y (int 3) ∷ [])) no_clauses))

-- `case 10:case 11:case 13:case 12:`
abbrev pub dense_cases : Clauses
dense_cases = clauses (Some (pos 10)) no_stmts (clauses (Some (pos 11)) no_stmts (clauses (Some (pos 13)) no_stmts (clauses (Some (pos 12)) no_stmts no_clauses)))

abbrev pub switching : Clauses → Module
switching cs = alone (x ∷ []) (int_variable 0 y ∷ []) (switches (signed (var x)) cs ∷ [])

-- ---- calls by a table, in the arguments of one another, of a foreign function, and turns of a labelled loop

abbrev pub at_most_one : Expr → Expr
at_most_one e = binary And e (int 1)

-- `k=k+1|0;return x+y|0;`
abbrev pub adding : Function
adding = function a (x ∷ y ∷ []) [] (sets k (sum (var k) (int 1)) ∷ returns (Some (sum (var x) (var y))) ∷ [])

abbrev pub quotient : Function
quotient = function b (x ∷ y ∷ []) [] (returns (Some (signed (binary Div (signed (var x)) (signed (var y))))) ∷ [])

-- `t[(i>>1)&1](t[n&1](r,i)|0,g(i|0)|0)|0`
abbrev pub by_tables : Expr
by_tables =
    signed (table_call t (at_most_one (binary Sar (var i) (int 1)))
    (arguments (signed (table_call t (at_most_one (var n)) (arguments (var r ∷ var i ∷ []))) ∷ signed (call g (arguments (signed (var i) ∷ []))) ∷ [])))

-- `outer:while(1){if((i|0)==(n|0))break outer;i=i+1|0;if(i&1)continue outer;r=..;}return r+k|0;`
abbrev pub turning : Function
turning = function f (n ∷ []) (int_variable 0 i ∷ int_variable 100 r ∷ [])
    (labelled (outer ∷ []) (while_loop (int 1) (block (statements
    (if_only (binary Eq (signed (var i)) (signed (var n))) (breaks (Some outer))
    ∷ sets i (sum (var i) (int 1))
    ∷ if_only (at_most_one (var i)) (continues (Some outer))
    ∷ sets r by_tables ∷ []))))
    ∷ returns (Some (sum (var r) (var k))) ∷ [])

abbrev pub tabled : Module
tabled = module_of (variable g (member (codes "e") g) ∷ variable k (foreign_int (codes "e") k) ∷ []) (adding ∷ quotient ∷ turning ∷ []) (record { name = t; members = a ∷ b ∷ [] } ∷ [])

-- ---- loops, a switch with a turn of a loop inside, and operators on signed and unsigned operands

abbrev pub unsigned : Expr → Expr
unsigned e = binary Shr e (int 0)

abbrev pub adds : List ℕ → Expr → Stmt
adds n e = sets n (sum (var n) e)

-- `do{i=i+1|0;if((i|0)==2)continue;r=r+i|0;}while((i|0)<5)`
abbrev pub do_loop : Stmt
do_loop =
    do_while (block (statements (adds i (int 1) ∷ if_only (binary Eq (signed (var i)) (int 2)) (continues None) ∷ adds r (var i) ∷ [])))
    (binary Lt (signed (var i)) (int 5))

-- `for(i=0;(i|0)<4;i=i+1|0)switch(i|0){case 0:r=r+10|0;break;case 2:continue;default:r=r+100|0;case 7:r=r+1000|0;}`
abbrev pub for_switch : Stmt
for_switch =
    for_loop (Some (assign i (int 0))) (Some (binary Lt (signed (var i)) (int 4))) (Some (assign i (sum (var i) (int 1))))
    (switches (signed (var i))
    (clauses (Some (pos 0)) (statements (adds r (int 10) ∷ breaks None ∷ []))
    (clauses (Some (pos 2)) (statements (continues None ∷ []))
    (clauses None (statements (adds r (int 100) ∷ []))
    (clauses (Some (pos 7)) (statements (adds r (int 1000) ∷ [])) no_clauses)))))

-- two quotients and two remainders, a choice by an unsigned comparison, a comma and prefix operators
abbrev pub operators : List Stmt
operators =
    adds r (signed (binary Div (signed (var a)) (signed (var b))))
    ∷ adds r (signed (binary Div (unsigned (var a)) (unsigned (var b))))
    ∷ adds r (signed (binary Rem (signed (var a)) (signed (var b))))
    ∷ adds r (signed (binary Rem (unsigned (var a)) (unsigned (var b))))
    ∷ adds r (cond (binary Ge (unsigned (var a)) (unsigned (assign y (var b)))) (signed (unary BitNot (var a))) (signed (unary Neg (var b))))
    ∷ adds r (comma (arguments (assign y (sum (var y) (int 7)) ∷ unary Not (var y) ∷ [])))
    ∷ adds r (signed (binary Shl (var a) (int 3)))
    ∷ []

abbrev pub operating : Module
operating = module_of [] (function f (a ∷ b ∷ []) (int_variable 0 i ∷ int_variable 5 r ∷ int_variable 0 y ∷ [])
    (do_loop ∷ for_switch ∷ operators ++ returns (Some (signed (var r))) ∷ []) ∷ []) []

-- ---- a switch of many clauses, of which each odd one leaves it

abbrev pub many_clauses : (left : ℕ) → (value : ℕ) → Clauses
many_clauses zero value = clauses None (statements (adds y (int 5) ∷ [])) no_clauses
many_clauses (suc left) value = clauses (Some (pos value)) (statements (adds y (int 1) ∷ (if value % 2 == 1 then breaks None ∷ [] else []))) (many_clauses left (suc value))

abbrev pub long_switch : Module
long_switch = module_of [] (function f (x ∷ []) (int_variable 0 y ∷ []) (switches (signed (var x)) (many_clauses 281 0) ∷ returns (Some (signed (var y))) ∷ []) ∷ []) []

-- ---- elements of one and two bytes, `S[a]=b;T[a>>1]=c;return (U[a]|0)+(V[b>>1]|0)|0;`

abbrev pub small_view : List ℕ → List ℕ → Variable
small_view n k = variable n (view (codes "s") k (codes "h"))

abbrev pub half : List ℕ → Expr
half n = binary Sar (var n) (int 1)

abbrev pub small_elements : Module
small_elements = module_of
    (small_view (codes "S") (codes "Int8Array") ∷ small_view (codes "T") (codes "Uint16Array") ∷ small_view (codes "U") (codes "Uint8Array") ∷ small_view (codes "V") (codes "Int16Array") ∷ [])
    (function f (a ∷ b ∷ c ∷ []) []
    (plain (store (codes "S") (signed (var a)) (var b)) ∷ plain (store (codes "T") (half a) (var c))
    ∷ returns (Some (sum (signed (index (codes "U") (signed (var a)))) (signed (index (codes "V") (half b))))) ∷ []) ∷ []) []

-- ---- scripts

abbrev pub called : List ℤ → ℕ → CallPlain
called zs line = record { name = f; args = zs; line = line }

abbrev pub replied : ℕ → ℕ → ReplyLinePlain
replied word line = record { reply = give word []; line = line }

-- 4294967295 is -1 as an int
abbrev pub tabled_script : ScriptPlain
tabled_script = record {
  globals = record { name = k; value = pos 1000; line = 1 } ∷ [];
  writes = [];
  calls = called (pos 3 ∷ []) 2 ∷ called (pos 4 ∷ []) 3 ∷ [];
  replies = replied 5 4 ∷ replied 0 5 ∷ replied 4294967295 6 ∷ [];
}

abbrev pub storing_script : ScriptPlain
storing_script = record {
  globals = [];
  writes = [];
  calls = called (pos 0 ∷ pos 4 ∷ pos 7 ∷ []) 1 ∷ called (pos 8 ∷ pos 0 ∷ pos 9 ∷ []) 2 ∷ [];
  replies = [];
}

abbrev pub calls_alone : List CallPlain → ScriptPlain
calls_alone cs = record { globals = []; writes = []; calls = cs; replies = [] }

-- -7 by 2, the least number by -1, 9 by 0, and -1 by 5
abbrev pub operating_script : ScriptPlain
operating_script = calls_alone
    (called (negsuc 6 ∷ pos 2 ∷ []) 1 ∷ called (negsuc 2147483647 ∷ negsuc 0 ∷ []) 2 ∷ called (pos 9 ∷ pos 0 ∷ []) 3 ∷ called (negsuc 0 ∷ pos 5 ∷ []) 4 ∷ [])

abbrev pub long_script : ScriptPlain
long_script = calls_alone (called (pos 4 ∷ []) 1 ∷ called (pos 280 ∷ []) 2 ∷ called (negsuc 0 ∷ []) 3 ∷ [])

-- inside, the last element, one past it, and negative indices
abbrev pub small_script : ScriptPlain
small_script = calls_alone
    (called (pos 1 ∷ pos 200 ∷ pos 40000 ∷ []) 1 ∷ called (pos 7 ∷ pos 2 ∷ negsuc 0 ∷ []) 2 ∷ called (pos 8 ∷ pos 6 ∷ pos 3 ∷ []) 3 ∷ called (negsuc 0 ∷ negsuc 1 ∷ pos 3 ∷ []) 4 ∷ [])

-- ---- what they are translated to

abbrev pub heap_length : ℕ
heap_length = 4096

abbrev pub bodies : Module → List FunctionBody
bodies m = (translation m heap_length).bodies
