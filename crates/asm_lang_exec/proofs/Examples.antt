-- What small modules show, as the checker computes it: each construct, and each rule of units.
use Rattle.std.proofs.Common.{◌≡◌, ℕ, true, false, List, [], ◌∷◌, Option, Some, None, refl}
use Rattle.std.specs.Prelude.{ℤ, pos, negsuc, codes, is_some}
use Rattle.sem_words.specs.declared.word.Word.TheVariants.{W32}
use Rattle.sem_words.specs.Words as words
use Rattle.heap_lang.specs.Heap as heaps
use Rattle.sem_words.specs.declared.js_value.JsOp.TheVariants.{Mul, Div, Or, And, Lt, Sar}
use Rattle.sem_words.specs.declared.js_value.JsUnary.TheVariants.{Neg, BitNot, Not}
use Rattle.session_lang.specs.Script.{CallPlain, ReplyPlain, ReplyLinePlain, ScriptPlain, give, throw}
use Rattle.session_lang.specs.Observation.{import_called, call_gave, call_returned, done, stopped, no_reply, ObservationPlain, running, ended}
use Rattle.asm_lang.specs.Trees.{Init, number, decimal, foreign_int, member, math, view}
use Rattle.asm_lang.specs.Modules.{Expr, lit, var, index, call, table_call, assign, store, unary, binary, chain, cond, comma, no_exprs, exprs, no_links, links, Stmt, block, plain, if_only, if_else, returns, while_loop, do_while, for_loop, breaks, continues, labelled, switches, Stmts, no_stmts, stmts, no_clauses, clauses, Variable, Param, Function, Table, many, Module}
use Rattle.asm_lang_valid.specs.Refusal.{refusal}
use Rattle.asm_lang_exec.specs.Session.{asm, checked_asm}
use Rattle.asm_lang_exec.specs.Fits.{misfit}

-- ---- building modules and scripts

abbrev x : List ℕ
x = codes "x"

abbrev y : List ℕ
y = codes "y"

abbrev f : List ℕ
f = codes "f"

abbrev g : List ℕ
g = codes "g"

abbrev variable : List ℕ → Init → Variable
variable n i = record { name = n; init = i }

abbrev int_param : List ℕ → Param
int_param n = record { name = n; double = false }

abbrev function : List ℕ → List Param → List Variable → Stmts → Function
function n ps vs ss = record { name = n; params = ps; locals = vs; body = ss }

-- a module of these globals, functions and tables, which exports f
abbrev of : List Variable → List Function → List Table → Module
of gs fs ts = record { name = None; params = codes "s" ∷ codes "e" ∷ codes "h" ∷ []; globals = gs; functions = fs; tables = ts; exports = many (record { key = f; function = f } ∷ []) }

-- f has the parameter x and the local variable y, which is 0 first
abbrev body : List Variable → Stmts → Module
body gs ss = of gs (function f (int_param x ∷ []) (variable y (number (pos 0)) ∷ []) ss ∷ []) []

abbrev called : List ℤ → CallPlain
called zs = record { name = f; args = zs; line = 1 }

abbrev replied : ReplyPlain → ReplyLinePlain
replied r = record { reply = r; line = 2 }

abbrev script : List CallPlain → List ReplyLinePlain → ScriptPlain
script cs rs = record { globals = []; writes = []; calls = cs; replies = rs }

abbrev once : List ℤ → ScriptPlain
once zs = script (called zs ∷ []) []

abbrev int : ℤ → Expr
int z = lit z

abbrev signed : Expr → Expr
signed e = binary Or e (lit (pos 0))

abbrev plus : Expr → Expr → Expr
plus a b = chain a (links false b no_links)

abbrev minus : Expr → Expr → Expr
minus a b = chain a (links true b no_links)

abbrev one_more : List ℕ → Stmt
one_more n = plain (assign n (signed (plus (var n) (int (pos 1)))))

abbrev answer : Expr → Stmt
answer e = returns (Some (signed e))

abbrev s1 : Stmt → Stmts
s1 s = stmts s no_stmts

abbrev s2 : Stmt → Stmt → Stmts
s2 s t = stmts s (s1 t)

abbrev below : Expr → Expr → Expr
below a b = binary Lt (signed a) (signed b)

-- one call that gave this, and no heap
abbrev gave : ℕ → Option ObservationPlain
gave w = Some (ended (call_gave (W32 w) ∷ []) done [])

-- ---- operators

-- 2147483647 + 1 is -2147483648
abbrev sum : Module
sum = of [] (function f (int_param x ∷ int_param y ∷ []) [] (s1 (answer (plus (var x) (var y)))) ∷ []) []

sum_is_accepted : refusal sum ≡ None
sum_is_accepted = refl

sum_wraps : asm sum 0 (once (pos 2147483647 ∷ pos 1 ∷ [])) 1 ≡ gave 2147483648
sum_wraps = refl

sum_is_checked : checked_asm sum 0 (once (pos 2147483647 ∷ pos 1 ∷ [])) 1 ≡ gave 2147483648
sum_is_checked = refl

-- a parameter is converted: 4294967295 is -1
parameters_are_signed : asm sum 0 (once (pos 4294967295 ∷ pos 0 ∷ [])) 1 ≡ gave 4294967295
parameters_are_signed = refl

-- -2147483648 / -1, 7 / 0 and -7 / 2
abbrev quotient : Module
quotient = of [] (function f (int_param x ∷ int_param y ∷ []) [] (s1 (answer (binary Div (signed (var x)) (signed (var y))))) ∷ []) []

quotients_are_cut_off : asm quotient 0 (script (called (negsuc 2147483647 ∷ negsuc 0 ∷ []) ∷ called (pos 7 ∷ pos 0 ∷ []) ∷ called (negsuc 6 ∷ pos 2 ∷ []) ∷ []) []) 3
    ≡ Some (ended (call_gave (W32 2147483648) ∷ call_gave (W32 0) ∷ call_gave (W32 4294967293) ∷ []) done [])
quotients_are_cut_off = refl

-- a comparison leaves a boolean in an int variable, and true + true is 2
abbrev boolean : Module
boolean = body [] (s2 (plain (assign y (below (var x) (int (pos 2))))) (answer (plus (var y) (var y))))

booleans_add : asm boolean 0 (once (pos 1 ∷ [])) 1 ≡ gave 2
booleans_add = refl

booleans_are_ints : checked_asm boolean 0 (once (pos 1 ∷ [])) 1 ≡ gave 2
booleans_are_ints = refl

-- ~(-(!x)), which is ~(-1) where x is 0, and ~(-0) else
prefix_operators : asm (body [] (s1 (answer (unary BitNot (unary Neg (unary Not (var x))))))) 0 (script (called (pos 0 ∷ []) ∷ called (pos 5 ∷ []) ∷ []) []) 2
    ≡ Some (ended (call_gave (W32 0) ∷ call_gave (W32 4294967295) ∷ []) done [])
prefix_operators = refl

-- a product that isn't of a small literal may be past 2 ^ 53: the module is refused, and its meaning is wrong
abbrev product : Module
product = body [] (s1 (answer (binary Mul (var x) (var x))))

product_is_refused : is_some (refusal product) ≡ true
product_is_refused = refl

large_products_go_wrong : asm product 0 (once (pos 2147483647 ∷ [])) 1 ≡ None
large_products_go_wrong = refl

-- x ? 10 : 20, and a comma has the value of its last part
conditional : asm (body [] (s1 (answer (comma (exprs (assign y (cond (var x) (int (pos 10)) (int (pos 20)))) (exprs (plus (var y) (int (pos 1))) no_exprs)))))) 0
    (script (called (pos 3 ∷ []) ∷ called (pos 0 ∷ []) ∷ []) []) 2 ≡ Some (ended (call_gave (W32 11) ∷ call_gave (W32 21) ∷ []) done [])
conditional = refl

-- Math.imul and Math.clz32
standard_library : asm (body (variable g (math (codes "s") (codes "imul")) ∷ variable (codes "z") (math (codes "s") (codes "clz32")) ∷ []) (s1 (answer (call g (exprs (var x) (exprs (call (codes "z") (exprs (int (pos 1)) no_exprs)) no_exprs)))))) 0
    (once (negsuc 0 ∷ [])) 1 ≡ gave 4294967265
unfolding words.leading_zeros_of
standard_library = refl

-- ---- what the checks are for

-- y is an int by its declaration, and a quotient that isn't whole is written into it: such a module is refused
abbrev fractional : Module
fractional = body [] (s2 (plain (assign y (binary Div (signed (var x)) (int (pos 2))))) (answer (var y)))

fractions_are_cut_off : asm fractional 0 (once (pos 5 ∷ [])) 1 ≡ gave 2
fractions_are_cut_off = refl

fractions_are_no_ints : checked_asm fractional 0 (once (pos 5 ∷ [])) 1 ≡ None
fractions_are_no_ints = refl

-- ---- the heap

abbrev view_of : List ℕ → Init
view_of k = view (codes "s") k (codes "h")

abbrev ints : Variable
ints = variable g (view_of (codes "Int32Array"))

-- the heap has 8 bytes: element 2 is outside; the value was evaluated, and the read gives undefined
abbrev outside : Module
outside = body (ints ∷ []) (s2 (plain (store g (binary Sar (int (pos 8)) (int (pos 2))) (assign y (int (pos 9))))) (answer (plus (signed (index g (binary Sar (int (pos 8)) (int (pos 2))))) (var y))))

outside_is_accepted : refusal outside ≡ None
outside_is_accepted = refl

outside_nothing_is_written : asm outside 8 (once (pos 0 ∷ [])) 1 ≡ Some (ended (call_gave (W32 9) ∷ []) done (0 ∷ 0 ∷ 0 ∷ 0 ∷ 0 ∷ 0 ∷ 0 ∷ 0 ∷ []))
unfolding heaps.load heaps.store heaps.load_bytes heaps.store_bytes heaps.run_at heaps.with_run
outside_nothing_is_written = refl

-- the value of a store is the stored value, before it is cut to the element
stores_give_their_value : asm (body (variable g (view_of (codes "Uint8Array")) ∷ []) (s1 (answer (store g (int (pos 1)) (int (pos 257)))))) 4 (once (pos 0 ∷ [])) 1
    ≡ Some (ended (call_gave (W32 257) ∷ []) done (0 ∷ 1 ∷ 0 ∷ 0 ∷ []))
unfolding heaps.load heaps.store heaps.load_bytes heaps.store_bytes heaps.run_at heaps.with_run
stores_give_their_value = refl

-- -2 as a 32-bit number is read as a byte and as a signed 16-bit number
abbrev mixed : Module
mixed = body
    (ints ∷ variable (codes "B") (view_of (codes "Uint8Array")) ∷ variable (codes "C") (view_of (codes "Int16Array")) ∷ [])
    (stmts (plain (store g (int (pos 0)) (int (negsuc 1)))) (s2 (if_only (var x) (answer (index (codes "B") (int (pos 0))))) (answer (index (codes "C") (int (pos 1))))))

mixed_views : asm mixed 4 (script (called (pos 1 ∷ []) ∷ called (pos 0 ∷ []) ∷ []) []) 2
    ≡ Some (ended (call_gave (W32 254) ∷ call_gave (W32 4294967295) ∷ []) done (254 ∷ 255 ∷ 255 ∷ 255 ∷ []))
unfolding heaps.load heaps.store heaps.load_bytes heaps.store_bytes heaps.run_at heaps.with_run
mixed_views = refl

-- the index is evaluated before the value
index_comes_first : asm (body (variable g (view_of (codes "Uint8Array")) ∷ []) (s2 (plain (store g (binary Sar (comma (exprs (assign y (int (pos 1))) (exprs (var y) no_exprs))) (int (pos 0))) (plus (var y) (int (pos 6))))) (answer (var y)))) 4
    (once (pos 0 ∷ [])) 1 ≡ Some (ended (call_gave (W32 1) ∷ []) done (0 ∷ 7 ∷ 0 ∷ 0 ∷ []))
unfolding heaps.load heaps.store heaps.load_bytes heaps.store_bytes heaps.run_at heaps.with_run
index_comes_first = refl

-- ---- foreign calls

abbrev foreign : Variable
foreign = variable g (member (codes "e") (codes "p"))

abbrev p : List ℕ
p = codes "p"

-- r() calls p with one argument for a result, and with two for none
abbrev two_shapes : Module
two_shapes = of (foreign ∷ []) (function f [] [] (s2 (plain (signed (call g (exprs (int (pos 1)) no_exprs)))) (plain (call g (exprs (int (pos 1)) (exprs (int (pos 2)) no_exprs))))) ∷ []) []

two_shapes_are_accepted : refusal two_shapes ≡ None
two_shapes_are_accepted = refl

calls_of_two_shapes : asm two_shapes 0 (script (called [] ∷ []) (replied (give 5 []) ∷ replied (give 0 []) ∷ [])) 1
    ≡ Some (ended (import_called p (W32 1 ∷ []) ∷ import_called p (W32 1 ∷ W32 2 ∷ []) ∷ call_returned ∷ []) done [])
calls_of_two_shapes = refl

-- arguments are evaluated from left to right
arguments_from_the_left : asm (body (foreign ∷ []) (s1 (plain (call g (exprs (signed (assign y (int (pos 5)))) (exprs (signed (var y)) no_exprs)))))) 0 (script (called (pos 0 ∷ []) ∷ []) (replied (give 0 []) ∷ [])) 1
    ≡ Some (ended (import_called p (W32 5 ∷ W32 5 ∷ []) ∷ call_returned ∷ []) done [])
arguments_from_the_left = refl

-- a reply's bytes are written before the caller goes on, which sees the low 32 bits
replies_write : asm (body (ints ∷ variable (codes "i") (member (codes "e") p) ∷ []) (s1 (answer (plus (signed (call (codes "i") no_exprs)) (signed (index g (int (pos 0)))))))) 4
    (script (called (pos 0 ∷ []) ∷ []) (replied (give 4294967299 (record { at = 0; bytes = 7 ∷ []; line = 2 } ∷ [])) ∷ [])) 1
    ≡ Some (ended (import_called p [] ∷ call_gave (W32 10) ∷ []) done (7 ∷ 0 ∷ 0 ∷ 0 ∷ []))
unfolding heaps.load heaps.store heaps.load_bytes heaps.store_bytes heaps.run_at heaps.with_run
replies_write = refl

-- `$high` gives the high bits of the last reply, without an event; `$trap` stops
abbrev high : Module
high = body (foreign ∷ variable (codes "hi") (member (codes "e") (codes "$high")) ∷ variable (codes "tr") (member (codes "e") (codes "$trap")) ∷ [])
    (stmts (plain (signed (call g no_exprs))) (s2 (if_only (var x) (plain (call (codes "tr") (exprs (int (pos 3)) no_exprs)))) (answer (call (codes "hi") no_exprs))))

high_bits : asm high 0 (script (called (pos 0 ∷ []) ∷ []) (replied (give 21474836480 []) ∷ [])) 1 ≡ Some (ended (import_called p [] ∷ call_gave (W32 5) ∷ []) done [])
high_bits = refl

trap_stops : asm high 0 (script (called (pos 1 ∷ []) ∷ []) (replied (give 0 []) ∷ [])) 1 ≡ Some (ended (import_called p [] ∷ []) (stopped (codes "$trap") (W32 3 ∷ [])) [])
trap_stops = refl

-- while (1) g();
abbrev forever : Module
forever = of (foreign ∷ []) (function f [] [] (s1 (while_loop (int (pos 1)) (plain (call g no_exprs)))) ∷ []) []

no_reply_is_left : asm forever 0 (script (called [] ∷ []) (replied (give 0 []) ∷ replied (give 0 []) ∷ [])) 9 ≡ Some (ended (import_called p [] ∷ import_called p [] ∷ []) (no_reply p []) [])
no_reply_is_left = refl

throw_stops : asm forever 0 (script (called [] ∷ []) (replied (give 0 []) ∷ replied throw ∷ [])) 9 ≡ Some (ended (import_called p [] ∷ []) (stopped p []) [])
throw_stops = refl

-- the call is one unit and a turn another
two_units : asm forever 0 (script (called [] ∷ []) (replied (give 0 []) ∷ replied (give 0 []) ∷ [])) 2 ≡ Some (running (import_called p [] ∷ []))
two_units = refl

-- a global takes the script's value
abbrev imported : Module
imported = body (variable g (foreign_int (codes "e") (codes "k")) ∷ []) (s1 (answer (var g)))

abbrev given : ScriptPlain
given = record { globals = record { name = codes "k"; value = pos 1000; line = 1 } ∷ []; writes = []; calls = called (pos 0 ∷ []) ∷ []; replies = [] }

globals_are_given : asm imported 0 given 1 ≡ gave 1000
globals_are_given = refl

-- ---- calls and tables

-- members give x + 10, x + 20, x + 30, x + 40; the index is masked
abbrev adds : List ℕ → ℤ → Function
adds n z = function n (int_param x ∷ []) [] (s1 (answer (plus (var x) (int z))))

abbrev table : Module
table = of []
    (adds (codes "a") (pos 10) ∷ adds (codes "b") (pos 20) ∷ adds (codes "c") (pos 30) ∷ adds (codes "d") (pos 40)
    ∷ function f (int_param x ∷ []) [] (s1 (answer (table_call (codes "t") (binary And (var x) (int (pos 3))) (exprs (int (pos 1)) no_exprs)))) ∷ [])
    (record { name = codes "t"; members = codes "a" ∷ codes "b" ∷ codes "c" ∷ codes "d" ∷ [] } ∷ [])

table_is_accepted : refusal table ≡ None
table_is_accepted = refl

tables_by_mask : asm table 0 (script (called (negsuc 0 ∷ []) ∷ called (pos 1 ∷ []) ∷ []) []) 4 ≡ Some (ended (call_gave (W32 41) ∷ call_gave (W32 21) ∷ []) done [])
tables_by_mask = refl

-- the call of the member is a unit
tables_take_units : asm table 0 (once (pos 1 ∷ [])) 1 ≡ Some (running [])
tables_take_units = refl

-- the callee's x is its own
abbrev recursive : Module
recursive = of [] (function f (int_param x ∷ []) [] (s2 (if_only (below (var x) (int (pos 1))) (returns (Some (int (pos 0))))) (answer (plus (signed (call f (exprs (minus (var x) (int (pos 1))) no_exprs))) (var x)))) ∷ []) []

locals_come_back : asm recursive 0 (once (pos 3 ∷ [])) 4 ≡ gave 6
locals_come_back = refl

each_call_takes_a_unit : asm recursive 0 (once (pos 3 ∷ [])) 3 ≡ Some (running [])
each_call_takes_a_unit = refl

-- ---- statements and units

-- switch with fall-through
abbrev falls : Module
falls = body [] (s2 (switches (signed (var x)) (clauses (Some (pos 1)) (s1 (one_more y)) (clauses (Some (pos 5)) (s1 (plain (assign y (signed (plus (var y) (int (pos 10))))))) (clauses None (s1 (plain (assign y (signed (plus (var y) (int (pos 100))))))) no_clauses)))) (answer (var y)))

fall_through : asm falls 0 (script (called (pos 1 ∷ []) ∷ called (pos 5 ∷ []) ∷ called (pos 9 ∷ []) ∷ []) []) 3
    ≡ Some (ended (call_gave (W32 111) ∷ call_gave (W32 110) ∷ call_gave (W32 100) ∷ []) done [])
fall_through = refl

-- a break leaves the switch
breaks_leave_switches : asm (body [] (s2 (switches (signed (var x)) (clauses (Some (pos 1)) (s2 (one_more y) (breaks None)) (clauses None (s1 (plain (assign y (int (pos 100))))) no_clauses))) (answer (var y)))) 0
    (script (called (pos 1 ∷ []) ∷ called (pos 2 ∷ []) ∷ []) []) 2 ≡ Some (ended (call_gave (W32 1) ∷ call_gave (W32 100) ∷ []) done [])
breaks_leave_switches = refl

-- while (y < x) y = y + 1: x + 1 conditions
abbrev counts : Module
counts = body [] (s2 (while_loop (below (var y) (var x)) (one_more y)) (answer (var y)))

conditions_take_units : asm counts 0 (once (pos 2 ∷ [])) 4 ≡ gave 2
conditions_take_units = refl

the_last_condition_takes_one : asm counts 0 (once (pos 2 ∷ [])) 3 ≡ Some (running [])
the_last_condition_takes_one = refl

-- do y = y + 1 while (y < x): as many bodies
abbrev does : Module
does = body [] (s2 (do_while (one_more y) (below (var y) (var x))) (answer (var y)))

bodies_take_units : asm does 0 (once (pos 2 ∷ [])) 3 ≡ gave 2
bodies_take_units = refl

the_last_body_takes_one : asm does 0 (once (pos 2 ∷ [])) 2 ≡ Some (running [])
the_last_body_takes_one = refl

-- for (;; y = y + 1) if (y < x) continue else break: continue goes on with the step, and the missing condition takes units
abbrev steps : Module
steps = body [] (s2 (for_loop None None (Some (assign y (signed (plus (var y) (int (pos 1)))))) (if_else (below (var y) (var x)) (continues None) (breaks None))) (answer (var y)))

missing_conditions_take_units : asm steps 0 (once (pos 2 ∷ [])) 4 ≡ gave 2
missing_conditions_take_units = refl

continue_takes_the_next_unit : asm steps 0 (once (pos 2 ∷ [])) 3 ≡ Some (running [])
continue_takes_the_next_unit = refl

-- l: while (1) { while (1) { y = y + 1; if (y < x) continue l; break l; } }: each turn of the outer loop has one of the inner
abbrev labels : Module
labels = body [] (s2 (labelled (codes "l" ∷ []) (while_loop (int (pos 1)) (while_loop (int (pos 1)) (block (stmts (one_more y) (s2 (if_only (below (var y) (var x)) (continues (Some (codes "l")))) (breaks (Some (codes "l")))))))))
    (answer (var y)))

labels_are_accepted : refusal labels ≡ None
labels_are_accepted = refl

labels_lead_to_their_loop : asm labels 0 (once (pos 2 ∷ [])) 5 ≡ gave 2
labels_lead_to_their_loop = refl

both_loops_take_units : asm labels 0 (once (pos 2 ∷ [])) 4 ≡ Some (running [])
both_loops_take_units = refl

-- a label of a block
labelled_blocks_are_left : asm (body [] (s2 (labelled (codes "l" ∷ []) (block (stmts (one_more y) (s2 (breaks (Some (codes "l"))) (one_more y))))) (answer (var y)))) 0 (once (pos 0 ∷ [])) 1 ≡ gave 1
labelled_blocks_are_left = refl

-- a return leaves its loops
returns_leave_loops : asm (body [] (s1 (while_loop (int (pos 1)) (returns (Some (int (pos 7))))))) 0 (once (pos 0 ∷ [])) 2 ≡ Some (ended (call_returned ∷ []) done [])
returns_leave_loops = refl

-- with no unit at all the first call hasn't begun
nothing_begins : asm counts 0 (once (pos 2 ∷ [])) 0 ≡ Some (running [])
nothing_begins = refl

empty_scripts_end : asm counts 0 (script [] []) 0 ≡ Some (ended [] done [])
empty_scripts_end = refl

-- ---- scripts

it_fits : misfit imported 0 given ≡ None
it_fits = refl

one_argument_is_missing : misfit sum 0 (once (pos 1 ∷ [])) ≡ Some 1
one_argument_is_missing = refl

an_argument_is_too_large : misfit sum 0 (once (pos 1 ∷ pos 4294967296 ∷ [])) ≡ Some 1
an_argument_is_too_large = refl

the_global_is_missing : misfit imported 0 (once (pos 1 ∷ [])) ≡ Some 0
the_global_is_missing = refl

bytes_pass_the_end : misfit outside 8 (record (once (pos 1 ∷ [])) { writes = record { at = 7; bytes = 1 ∷ 2 ∷ []; line = 5 } ∷ [] }) ≡ Some 5
bytes_pass_the_end = refl

what_is_written_are_bytes : misfit outside 8 (record (once (pos 1 ∷ [])) { writes = record { at = 0; bytes = 1 ∷ 256 ∷ []; line = 5 } ∷ [] }) ≡ Some 5
what_is_written_are_bytes = refl

without_a_heap_no_byte_fits : misfit sum 8 (record (script [] []) { writes = record { at = 0; bytes = 1 ∷ []; line = 5 } ∷ [] }) ≡ Some 5
without_a_heap_no_byte_fits = refl

without_a_heap_nothing_fits : misfit sum 8 (record (script [] []) { writes = record { at = 0; bytes = []; line = 5 } ∷ [] }) ≡ Some 5
without_a_heap_nothing_fits = refl

-- ---- a module as a compiler writes it, with what it declares and doesn't use

abbrev top : List ℕ
top = codes "STACKTOP"

abbrev size : List ℕ
size = codes "size"

abbrev ret : List ℕ
ret = codes "ret"

abbrev v : List ℕ
v = codes "v"

abbrev stack_alloc : Function
stack_alloc = function (codes "stackAlloc") (int_param size ∷ []) (variable ret (number (pos 0)) ∷ [])
    (stmts (plain (assign ret (var top))) (stmts (plain (assign top (signed (plus (var top) (var size))))) (s2 (plain (assign top (binary And (plus (var top) (int (pos 15))) (int (negsuc 15))))) (answer (var ret)))))

abbrev put : Function
put = function (codes "_put") (int_param p ∷ int_param v ∷ []) []
    (stmts (plain (store (codes "HEAP32") (binary Sar (var p) (int (pos 2))) (signed (call (codes "Math_imul") (exprs (var v) (exprs (int (pos 3)) no_exprs))))))
    (stmts (plain (store (codes "HEAP8") (binary Sar (plus (var p) (int (pos 4))) (int (pos 0))) (var v)))
    (s2 (if_only (below (var v) (int (pos 0))) (plain (call (codes "abort") (exprs (signed (var v)) no_exprs)))) (answer (index (codes "HEAP8") (binary Sar (var p) (int (pos 0))))))))

abbrev produced : Module
produced = record {
  name = Some (codes "asm");
  params = codes "global" ∷ codes "env" ∷ codes "buffer" ∷ [];
  globals =
      variable (codes "HEAP8") (view (codes "global") (codes "Int8Array") (codes "buffer"))
      ∷ variable (codes "HEAP32") (view (codes "global") (codes "Int32Array") (codes "buffer"))
      ∷ variable (codes "HEAPF64") (view (codes "global") (codes "Float64Array") (codes "buffer"))
      ∷ variable top (foreign_int (codes "env") top)
      ∷ variable (codes "tempInt") (number (pos 0))
      ∷ variable (codes "tempDouble") (decimal (codes "0.0"))
      ∷ variable (codes "nan") (member (codes "global") (codes "NaN"))
      ∷ variable (codes "inf") (member (codes "global") (codes "Infinity"))
      ∷ variable (codes "Math_floor") (math (codes "global") (codes "floor"))
      ∷ variable (codes "Math_imul") (math (codes "global") (codes "imul"))
      ∷ variable (codes "abort") (member (codes "env") (codes "abort"))
      ∷ [];
  functions = stack_alloc ∷ put ∷ [];
  tables = [];
  exports = many (record { key = stack_alloc.name; function = stack_alloc.name } ∷ record { key = put.name; function = put.name } ∷ []);
}

produced_is_accepted : refusal produced ≡ None
produced_is_accepted = refl

abbrev session : ScriptPlain
session = record {
  globals = record { name = top; value = pos 1000; line = 1 } ∷ [];
  writes = [];
  calls =
      record { name = stack_alloc.name; args = pos 5 ∷ []; line = 2 }
      ∷ record { name = stack_alloc.name; args = pos 0 ∷ []; line = 3 }
      ∷ record { name = put.name; args = pos 16 ∷ negsuc 1 ∷ []; line = 4 }
      ∷ [];
  replies = record { reply = give 0 []; line = 5 } ∷ [];
}

session_fits : misfit produced 24 session ≡ None
session_fits = refl

produced_runs : asm produced 24 session 3
    ≡ Some (ended (call_gave (W32 1000) ∷ call_gave (W32 1008) ∷ import_called (codes "abort") (W32 4294967294 ∷ []) ∷ call_gave (W32 4294967290) ∷ []) done
    (0 ∷ 0 ∷ 0 ∷ 0 ∷ 0 ∷ 0 ∷ 0 ∷ 0 ∷ 0 ∷ 0 ∷ 0 ∷ 0 ∷ 0 ∷ 0 ∷ 0 ∷ 0 ∷ 250 ∷ 255 ∷ 255 ∷ 255 ∷ 254 ∷ 0 ∷ 0 ∷ 0 ∷ []))
unfolding heaps.load heaps.store heaps.load_bytes heaps.store_bytes heaps.run_at heaps.with_run
produced_runs = refl
