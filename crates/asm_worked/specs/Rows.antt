-- The modules of the worked sessions, each with its text, and their scripts.
use Rattle.std.specs.Prelude.{ℕ, pos, negsuc, List, [], ◌∷◌, Some, None, codes}
use Rattle.sem_words.specs.declared.js_value.JsOp.TheVariants.{Div, And, Lt, Gt, Sar}
use Rattle.session_lang.specs.Script.{give, throw, ReplyPlain, ScriptPlain}
use Rattle.asm_lang.specs.Trees.{foreign_int}
use Rattle.asm_lang.specs.Modules.{lit, var, index, call, table_call, assign, store, binary, comma, block, plain, if_only, returns, while_loop, breaks, continues, labelled, switches, no_clauses, clauses, one, many, Function, Module}
use Rattle.asm_worked.specs.Forms.{int, signed, plus, minus, arguments, statements, sets, adds, answers, variable, view_variable, foreign_variable, function, module_of, called, replied, script}

-- ---- names

abbrev a : List ℕ
a = codes "a"

abbrev b : List ℕ
b = codes "b"

abbrev c : List ℕ
c = codes "c"

abbrev d : List ℕ
d = codes "d"

abbrev e : List ℕ
e = codes "e"

abbrev f : List ℕ
f = codes "f"

abbrev g : List ℕ
g = codes "g"

abbrev i : List ℕ
i = codes "i"

abbrev k : List ℕ
k = codes "k"

abbrev n : List ℕ
n = codes "n"

abbrev r : List ℕ
r = codes "r"

abbrev s : List ℕ
s = codes "s"

abbrev t : List ℕ
t = codes "t"

abbrev x : List ℕ
x = codes "x"

abbrev y : List ℕ
y = codes "y"

abbrev outer : List ℕ
outer = codes "outer"

-- the library and the foreign object, and the heap too
abbrev with_foreign : List (List ℕ)
with_foreign = s ∷ e ∷ []

abbrev with_heap : List (List ℕ)
with_heap = s ∷ e ∷ codes "h" ∷ []

-- ---- sums

abbrev pub sum : Module
sum = module_of [] [] (function f (a ∷ b ∷ []) [] (answers (plus (var a) (var b)) ∷ []) ∷ []) [] (one f)

abbrev pub sum_text : List ℕ
sum_text = codes "function m(){\"use asm\";function f(a,b){a=a|0;b=b|0;return a+b|0;}return f;}"

abbrev pub sum_script : ScriptPlain
sum_script = script (called f (pos 2147483647 ∷ pos 1 ∷ []) 1 ∷ called f (pos 4294967295 ∷ pos 0 ∷ []) 2 ∷ []) []

-- ---- quotients

abbrev pub quotient : Module
quotient = module_of [] [] (function d (a ∷ b ∷ []) [] (answers (binary Div (signed (var a)) (signed (var b))) ∷ []) ∷ []) [] (one d)

abbrev pub quotient_text : List ℕ
quotient_text = codes "function m(){\"use asm\";function d(a,b){a=a|0;b=b|0;return (a|0)/(b|0)|0;}return d;}"

-- -2147483648 / -1, 7 / 0 and -7 / 2
abbrev pub quotient_script : ScriptPlain
quotient_script = script (called d (negsuc 2147483647 ∷ negsuc 0 ∷ []) 1 ∷ called d (pos 7 ∷ pos 0 ∷ []) 2 ∷ called d (negsuc 6 ∷ pos 2 ∷ []) 3 ∷ []) []

-- ---- a comparison in an int variable

abbrev pub comparison : Module
comparison = module_of [] []
    (function f (a ∷ b ∷ []) (x ∷ []) (sets x (binary Lt (signed (var a)) (signed (var b))) ∷ answers (plus (var x) (var x)) ∷ []) ∷ []) [] (one f)

abbrev pub comparison_text : List ℕ
comparison_text = codes "function m(){\"use asm\";function f(a,b){a=a|0;b=b|0;var x=0;x=(a|0)<(b|0);return x+x|0;}return f;}"

abbrev pub comparison_script : ScriptPlain
comparison_script = script (called f (pos 1 ∷ pos 2 ∷ []) 1 ∷ called f (pos 2 ∷ pos 1 ∷ []) 2 ∷ []) []

-- ---- an element outside the view

abbrev pub outside : Module
outside = module_of (s ∷ f ∷ codes "h" ∷ []) (view_variable (codes "H") (codes "Int32Array") ∷ [])
    (function g [] [] (plain (store (codes "H") (binary Sar (int 4096) (int 2)) (int 9)) ∷ answers (index (codes "H") (binary Sar (int 4096) (int 2))) ∷ []) ∷ []) [] (one g)

abbrev pub outside_text : List ℕ
outside_text = codes "function m(s,f,h){\"use asm\";var H=new s.Int32Array(h);function g(){H[4096>>2]=9;return H[4096>>2]|0;}return g;}"

abbrev pub outside_script : ScriptPlain
outside_script = script (called g [] 1 ∷ []) []

-- ---- views of one buffer

abbrev pub mixed : Module
mixed = module_of (s ∷ f ∷ codes "h" ∷ [])
    (view_variable (codes "A") (codes "Int32Array") ∷ view_variable (codes "B") (codes "Uint8Array") ∷ view_variable (codes "C") (codes "Int16Array") ∷ [])
    (function a [] [] (plain (store (codes "A") (int 0) (lit (negsuc 1))) ∷ answers (index (codes "B") (int 0)) ∷ [])
    ∷ function c [] [] (answers (index (codes "C") (int 1)) ∷ []) ∷ []) []
    (many (record { key = a; function = a } ∷ record { key = c; function = c } ∷ []))

abbrev pub mixed_text : List ℕ
mixed_text = codes "function m(s,f,h){\"use asm\";var A=new s.Int32Array(h),B=new s.Uint8Array(h),C=new s.Int16Array(h);function a(){A[0]=-2;return B[0]|0;}function c(){return C[1]|0;}return {a:a,c:c};}"

abbrev pub mixed_script : ScriptPlain
mixed_script = script (called a [] 1 ∷ called c [] 2 ∷ []) []

-- ---- calls of a foreign function

abbrev pub two_shapes : Module
two_shapes = module_of with_foreign (foreign_variable f ∷ [])
    (function r [] [] (plain (signed (call f (arguments (int 1 ∷ [])))) ∷ plain (call f (arguments (int 1 ∷ int 2 ∷ []))) ∷ []) ∷ []) [] (one r)

abbrev pub two_shapes_text : List ℕ
two_shapes_text = codes "function m(s,e){\"use asm\";var f=e.f;function r(){f(1)|0;f(1,2);}return r;}"

abbrev pub two_shapes_script : ScriptPlain
two_shapes_script = script (called r [] 1 ∷ []) (replied (give 5 []) 2 ∷ replied (give 0 []) 3 ∷ [])

-- a reply is used
abbrev pub asking : Module
asking = module_of with_foreign (foreign_variable g ∷ [])
    (function f (a ∷ []) [] (answers (plus (signed (call g (arguments (signed (var a) ∷ [])))) (int 1)) ∷ []) ∷ []) [] (one f)

abbrev pub asking_text : List ℕ
asking_text = codes "function m(s,e){\"use asm\";var g=e.g;function f(a){a=a|0;return (g(a|0)|0)+1|0;}return f;}"

-- f(7) and f(-1), with this reply after one of 41
abbrev asking_with : List ReplyPlain → ScriptPlain
asking_with [] = script (called f (pos 7 ∷ []) 1 ∷ called f (negsuc 0 ∷ []) 2 ∷ []) (replied (give 41 []) 3 ∷ [])
asking_with (last ∷ _) = script (called f (pos 7 ∷ []) 1 ∷ called f (negsuc 0 ∷ []) 2 ∷ []) (replied (give 41 []) 3 ∷ replied last 4 ∷ [])

-- 2^32 + 41 is a word of 64 bits, of which an int has the low half
abbrev pub answered_script : ScriptPlain
answered_script = asking_with (give 4294967337 [] ∷ [])

abbrev pub unanswered_script : ScriptPlain
unanswered_script = asking_with []

abbrev pub thrown_script : ScriptPlain
thrown_script = asking_with (throw ∷ [])

-- ---- a loop without an end

abbrev pub forever : Module
forever = module_of with_foreign (foreign_variable g ∷ []) (function f [] [] (while_loop (int 1) (plain (call g (arguments []))) ∷ []) ∷ []) [] (one f)

abbrev pub forever_text : List ℕ
forever_text = codes "function m(s,e){\"use asm\";var g=e.g;function f(){while(1)g();}return f;}"

abbrev pub three_replies : ScriptPlain
three_replies = script (called f [] 1 ∷ []) (replied (give 0 []) 2 ∷ replied (give 0 []) 3 ∷ replied (give 0 []) 4 ∷ [])

abbrev pub second_throws : ScriptPlain
second_throws = script (called f [] 1 ∷ []) (replied (give 0 []) 2 ∷ replied throw 3 ∷ [])

-- ---- a table

-- x + k
abbrev member_of : List ℕ → ℕ → Function
member_of name k = function name (x ∷ []) [] (answers (plus (var x) (int k)) ∷ [])

abbrev pub tabled : Module
tabled = module_of [] []
    (member_of a 10 ∷ member_of b 20 ∷ member_of c 30 ∷ member_of d 40
    ∷ function f (e ∷ []) [] (answers (table_call t (binary And (var e) (int 3)) (arguments (int 1 ∷ []))) ∷ []) ∷ [])
    (record { name = t; members = a ∷ b ∷ c ∷ d ∷ [] } ∷ []) (one f)

abbrev pub tabled_text : List ℕ
tabled_text = codes "function m(){\"use asm\";function a(x){x=x|0;return x+10|0;}function b(x){x=x|0;return x+20|0;}function c(x){x=x|0;return x+30|0;}function d(x){x=x|0;return x+40|0;}function f(e){e=e|0;return t[e&3](1)|0;}var t=[a,b,c,d];return f;}"

abbrev pub tabled_script : ScriptPlain
tabled_script = script (called f (negsuc 0 ∷ []) 1 ∷ called f (pos 5 ∷ []) 2 ∷ []) []

-- ---- a switch that falls through

abbrev pub falling : Module
falling = module_of [] []
    (function f (x ∷ []) (y ∷ [])
    (switches (signed (var x))
    (clauses (Some (pos 1)) (statements (adds y (int 1) ∷ [])) (clauses (Some (pos 5)) (statements (adds y (int 10) ∷ [])) (clauses None (statements (adds y (int 100) ∷ [])) no_clauses)))
    ∷ answers (var y) ∷ []) ∷ []) [] (one f)

abbrev pub falling_text : List ℕ
falling_text = codes "function m(){\"use asm\";function f(x){x=x|0;var y=0;switch(x|0){case 1:y=y+1|0;case 5:y=y+10|0;default:y=y+100|0;}return y|0;}return f;}"

abbrev pub falling_script : ScriptPlain
falling_script = script (called f (pos 1 ∷ []) 1 ∷ called f (pos 5 ∷ []) 2 ∷ called f (pos 9 ∷ []) 3 ∷ []) []

-- ---- labels: the sum of the even numbers up to n

abbrev pub evens : Module
evens = module_of [] []
    (function f (n ∷ []) (i ∷ s ∷ [])
    (labelled (outer ∷ []) (while_loop (int 1) (block (statements
    (adds i (int 1)
    ∷ if_only (binary Gt (signed (var i)) (signed (var n))) (breaks (Some outer))
    ∷ while_loop (int 1) (block (statements (if_only (binary And (var i) (int 1)) (continues (Some outer)) ∷ adds s (var i) ∷ breaks None ∷ []))) ∷ []))))
    ∷ answers (var s) ∷ []) ∷ []) [] (one f)

abbrev pub evens_text : List ℕ
evens_text = codes "function m(){\"use asm\";function f(n){n=n|0;var i=0;var s=0;outer:while(1){i=i+1|0;if((i|0)>(n|0))break outer;while(1){if(i&1)continue outer;s=s+i|0;break;}}return s|0;}return f;}"

abbrev pub evens_script : ScriptPlain
evens_script = script (called f (pos 4 ∷ []) 1 ∷ []) []

-- ---- a call of itself: the sum of the numbers up to x

abbrev pub triangle : Module
triangle = module_of [] []
    (function f (x ∷ []) []
    (if_only (binary Lt (signed (var x)) (int 1)) (returns (Some (int 0)))
    ∷ answers (plus (signed (call f (arguments (signed (minus (var x) (int 1)) ∷ [])))) (var x)) ∷ []) ∷ []) [] (one f)

abbrev pub triangle_text : List ℕ
triangle_text = codes "function m(){\"use asm\";function f(x){x=x|0;if((x|0)<1)return 0;return (f(x-1|0)|0)+x|0;}return f;}"

abbrev pub triangle_script : ScriptPlain
triangle_script = script (called f (pos 3 ∷ []) 1 ∷ []) []

-- ---- the order of evaluation

abbrev pub ordered : Module
ordered = module_of with_heap (view_variable (codes "H") (codes "Uint8Array") ∷ foreign_variable g ∷ [])
    (function f [] (y ∷ [])
    (plain (call g (arguments (signed (assign y (int 5)) ∷ signed (var y) ∷ [])))
    ∷ plain (store (codes "H") (binary Sar (comma (arguments (assign y (int 1) ∷ var y ∷ []))) (int 0)) (plus (var y) (int 6)))
    ∷ answers (var y) ∷ []) ∷ []) [] (one f)

abbrev pub ordered_text : List ℕ
ordered_text = codes "function m(s,e,h){\"use asm\";var H=new s.Uint8Array(h);var g=e.g;function f(){var y=0;g((y=5)|0,y|0);H[(y=1,y)>>0]=y+6;return y|0;}return f;}"

abbrev pub ordered_script : ScriptPlain
ordered_script = script (called f [] 1 ∷ []) (replied (give 0 []) 2 ∷ [])

-- ---- what the host gives: the value of a variable, and bytes before the session and with a reply

abbrev pub counter : Module
counter = module_of with_foreign (variable k (foreign_int e k) ∷ [])
    (function f (a ∷ []) [] (adds k (var a) ∷ answers (var k) ∷ []) ∷ []) [] (one f)

abbrev pub counter_text : List ℕ
counter_text = codes "function m(s,e){\"use asm\";var k=e.k|0;function f(a){a=a|0;k=k+a|0;return k|0;}return f;}"

abbrev pub counter_script : ScriptPlain
counter_script = record {
  globals = record { name = k; value = pos 1000; line = 1 } ∷ [];
  writes = [];
  calls = called f (pos 5 ∷ []) 2 ∷ called f (negsuc 6 ∷ []) 3 ∷ [];
  replies = [];
}

abbrev pub heard : Module
heard = module_of with_heap (view_variable (codes "H") (codes "Int32Array") ∷ foreign_variable g ∷ [])
    (function f [] [] (answers (plus (signed (call g (arguments []))) (signed (index (codes "H") (int 0)))) ∷ []) ∷ []) [] (one f)

abbrev pub heard_text : List ℕ
heard_text = codes "function m(s,e,h){\"use asm\";var H=new s.Int32Array(h);var g=e.g;function f(){return (g()|0)+(H[0]|0)|0;}return f;}"

abbrev pub heard_script : ScriptPlain
heard_script = record {
  globals = [];
  writes = record { at = 4; bytes = 1 ∷ 2 ∷ []; line = 1 } ∷ [];
  calls = called f [] 2 ∷ [];
  replies = replied (give 3 (record { at = 0; bytes = 7 ∷ []; line = 3 } ∷ [])) 3 ∷ [];
}
