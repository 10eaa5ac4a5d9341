-- Small modules and what they break, as the checker computes it.
use Rattle.std.proofs.Common.{◌≡◌, ℕ, true, false, List, [], ◌∷◌, Option, Some, None, refl}
use Rattle.std.specs.Prelude.{pos, negsuc, codes}
use Rattle.sem_words.specs.declared.js_value.JsOp.TheVariants.{Mul, Div, Or, And, Shr, Sar}
use Rattle.sem_words.specs.declared.js_value.JsUnary.TheVariants.{Plus}
use Rattle.asm_lang.specs.Trees.{Init, number, foreign_int, foreign_double, member, view}
use Rattle.asm_lang.specs.Modules.{Expr, lit, var, index, call, table_call, assign, store, unary, binary, chain, comma, no_exprs, exprs, no_links, links, Stmt, block, plain, empty, if_only, returns, while_loop, breaks, continues, labelled, switches, Stmts, no_stmts, stmts, no_clauses, clauses, Variable, Param, Function, one, Module}
use Rattle.asm_lang_valid.specs.declared.rule.Rule.{Rule}
use Rattle.asm_lang_valid.specs.declared.rule.Rule.TheVariants.{NameTaken, ForbiddenName, UnknownName, WrongKind, LiteralRange, OutsideInteger, Operand, CallShape, BareByteIndex, ViewShift, TableSize, TableMask, ReturnKind, Label, SwitchCases}
use Rattle.asm_lang_valid.specs.Rows.{Met}
use Rattle.asm_lang_valid.specs.LimitRows.{foreign_calls}
use Rattle.asm_lang_valid.specs.Refusal.{refusal, has_heap}

abbrev met : Rule → ℕ → Option Met
met r at = Some (record { rule = r; node = at })

abbrev x : List ℕ
x = codes "x"

abbrev y : List ℕ
y = codes "y"

abbrev f : List ℕ
f = codes "f"

abbrev g : List ℕ
g = codes "g"

abbrev int_param : List ℕ → Param
int_param n = record { name = n; double = false }

abbrev init : List ℕ → Init → Variable
init n i = record { name = n; init = i }

abbrev function : List ℕ → List Param → Stmts → Function
function n ps ss = record { name = n; params = ps; locals = []; body = ss }

-- a module of these globals and functions, which exports f
abbrev of : List Variable → List Function → Module
of gs fs = record { name = None; params = codes "s" ∷ codes "e" ∷ codes "h" ∷ []; globals = gs; functions = fs; tables = []; exports = one f }

-- f has the parameters x and y, and this one statement; without globals it is node 1, and the statement node 4
abbrev body : Stmt → Module
body s = of [] (function f (int_param x ∷ int_param y ∷ []) (stmts s no_stmts) ∷ [])

abbrev signed : Expr → Expr
signed e = binary Or e (lit (pos 0))

abbrev plus : Expr → Expr → Expr
plus a b = chain a (links false b no_links)

sum_is_accepted : refusal (body (returns (Some (signed (plus (var x) (var y)))))) ≡ None
sum_is_accepted = refl

sum_is_intish : refusal (body (returns (Some (plus (var x) (var y))))) ≡ met ReturnKind 4
sum_is_intish = refl

no_such_name : refusal (body (plain (assign x (var g)))) ≡ met UnknownName 6
no_such_name = refl

function_as_variable : refusal (body (plain (assign x (var f)))) ≡ met WrongKind 6
function_as_variable = refl

names_come_first : refusal (body (plain (assign x (comma (exprs (plus (plus (var x) (var y)) (lit (pos 4294967296))) (exprs (var g) no_exprs)))))) ≡ met UnknownName 12
names_come_first = refl

large_literal : refusal (body (plain (assign x (lit (pos 4294967296))))) ≡ met LiteralRange 6
large_literal = refl

greatest_literal : refusal (body (plain (assign x (lit (pos 4294967295))))) ≡ None
greatest_literal = refl

quotient_of_ints : refusal (body (plain (assign x (signed (binary Div (var x) (var y)))))) ≡ met Operand 7
quotient_of_ints = refl

quotient_of_unsigned : refusal (body (plain (assign x (signed (binary Div (binary Shr (var x) (lit (pos 0))) (binary Shr (var y) (lit (pos 0)))))))) ≡ None
quotient_of_unsigned = refl

product_of_ints : refusal (body (plain (assign x (signed (binary Mul (var x) (var y)))))) ≡ met Operand 7
product_of_ints = refl

product_with_literal : refusal (body (plain (assign x (signed (binary Mul (var x) (lit (negsuc 1048574))))))) ≡ None
product_with_literal = refl

product_with_large_literal : refusal (body (plain (assign x (signed (binary Mul (var x) (lit (pos 1048576))))))) ≡ met Operand 7
product_with_large_literal = refl

prefix_plus : refusal (body (plain (unary Plus (var x)))) ≡ met OutsideInteger 5
prefix_plus = refl

call_needs_no_result : refusal (body (plain (signed (call f (exprs (var x) (exprs (var y) no_exprs)))))) ≡ met CallShape 6
call_needs_no_result = refl

call_of_other_length : refusal (body (plain (call f (exprs (var x) no_exprs)))) ≡ met CallShape 5
call_of_other_length = refl

call_as_condition : refusal (body (if_only (call f (exprs (var x) (exprs (var y) no_exprs))) empty)) ≡ met CallShape 5
call_as_condition = refl

break_outside : refusal (body (breaks None)) ≡ met Label 4
break_outside = refl

continue_of_no_loop : refusal (body (labelled (g ∷ []) (while_loop (lit (pos 1)) (labelled (x ∷ []) (block (stmts (continues (Some x)) no_stmts)))))) ≡ met Label 9
continue_of_no_loop = refl

label_in_itself : refusal (body (labelled (g ∷ []) (labelled (g ∷ []) empty))) ≡ met Label 5
label_in_itself = refl

case_twice : refusal (body (switches (signed (var x)) (clauses (Some (pos 1)) no_stmts (clauses (Some (pos 1)) no_stmts no_clauses)))) ≡ met SwitchCases 4
case_twice = refl

cases_far_apart : refusal (body (switches (signed (var x)) (clauses (Some (pos 2147483647)) no_stmts (clauses (Some (negsuc 0)) no_stmts no_clauses)))) ≡ met SwitchCases 4
cases_far_apart = refl

-- ---- globals; the function is node 2

abbrev bytes_view : Module
bytes_view = of (init g (view (codes "s") (codes "Uint8Array") (codes "h")) ∷ []) (function f (int_param x ∷ []) (stmts (plain (index g (var x))) no_stmts) ∷ [])

bare_int_index : refusal bytes_view ≡ met BareByteIndex 5
bare_int_index = refl

bytes_have_a_heap : has_heap bytes_view ≡ true
bytes_have_a_heap = refl

word_shift : refusal (of (init g (view (codes "s") (codes "Int32Array") (codes "h")) ∷ []) (function f (int_param x ∷ []) (stmts (plain (store g (binary Sar (var x) (lit (pos 2))) (var x))) no_stmts) ∷ [])) ≡ None
word_shift = refl

half_shift : refusal (of (init g (view (codes "s") (codes "Int32Array") (codes "h")) ∷ []) (function f (int_param x ∷ []) (stmts (plain (store g (binary Sar (var x) (lit (pos 1))) (var x))) no_stmts) ∷ [])) ≡ met ViewShift 5
half_shift = refl

large_index : refusal (of (init g (view (codes "s") (codes "Int32Array") (codes "h")) ∷ []) (function f [] (stmts (plain (index g (lit (pos 536870912)))) no_stmts) ∷ [])) ≡ met ViewShift 4
large_index = refl

other_view_is_unused : refusal (of (init g (view (codes "s") (codes "Float64Array") (codes "h")) ∷ []) (function f [] no_stmts ∷ [])) ≡ None
other_view_is_unused = refl

other_view_is_used : refusal (of (init g (view (codes "s") (codes "Float64Array") (codes "h")) ∷ []) (function f [] (stmts (plain (index g (lit (pos 0)))) no_stmts) ∷ [])) ≡ met OutsideInteger 4
other_view_is_used = refl

taken : refusal (of (init f (number (pos 0)) ∷ []) (function f [] no_stmts ∷ [])) ≡ met NameTaken 2
taken = refl

both_ways : refusal (of (init g (foreign_int (codes "e") (codes "m")) ∷ init x (member (codes "e") (codes "m")) ∷ []) (function f [] no_stmts ∷ [])) ≡ met NameTaken 2
both_ways = refl

-- a member of what isn't the foreign parameter is none of its members
other_object : refusal (of (init g (member (codes "e") (codes "m")) ∷ init x (foreign_int (codes "s") (codes "m")) ∷ []) (function f [] no_stmts ∷ [])) ≡ met WrongKind 2
other_object = refl

other_object_key : refusal (of (init x (foreign_int (codes "s") (codes "__proto__")) ∷ []) (function f [] no_stmts ∷ [])) ≡ met WrongKind 1
other_object_key = refl

unknown_object_key : refusal (of (init x (foreign_double (codes "q") (codes "__proto__")) ∷ []) (function f [] no_stmts ∷ [])) ≡ met UnknownName 1
unknown_object_key = refl

foreign_key : refusal (of (init x (foreign_int (codes "e") (codes "__proto__")) ∷ []) (function f [] no_stmts ∷ [])) ≡ met ForbiddenName 1
foreign_key = refl

eval_is_forbidden : refusal (of (init (codes "eval") (number (pos 0)) ∷ []) (function f [] no_stmts ∷ [])) ≡ met ForbiddenName 1
eval_is_forbidden = refl

-- ---- foreign functions

abbrev twice : Module
twice =
    of (init g (member (codes "e") (codes "out")) ∷ [])
    (function f [] (stmts (plain (call g no_exprs)) (stmts (plain (signed (call g no_exprs))) (stmts (plain (call g no_exprs)) no_stmts))) ∷ [])

twice_is_accepted : refusal twice ≡ None
twice_is_accepted = refl

two_shapes : foreign_calls twice ≡ record { name = codes "out"; params = 0; result = false } ∷ record { name = codes "out"; params = 0; result = true } ∷ []
two_shapes = refl

int_goes_out : refusal (of (init g (member (codes "e") (codes "out")) ∷ []) (function f (int_param x ∷ []) (stmts (plain (call g (exprs (var x) no_exprs))) no_stmts) ∷ [])) ≡ met CallShape 5
int_goes_out = refl

-- ---- tables

abbrev tabled : List (List ℕ) → Expr → Module
tabled ms i = record {
  name = None;
  params = [];
  globals = [];
  functions = function f (int_param x ∷ []) (stmts (plain (table_call g i (exprs (var x) no_exprs))) no_stmts) ∷ [];
  tables = record { name = g; members = ms } ∷ [];
  exports = one f;
}

masked_call : refusal (tabled (f ∷ f ∷ []) (binary And (var x) (lit (pos 1)))) ≡ None
masked_call = refl

other_mask : refusal (tabled (f ∷ f ∷ []) (binary And (var x) (lit (pos 3)))) ≡ met TableMask 4
other_mask = refl

table_of_three : refusal (tabled (f ∷ f ∷ f ∷ []) (binary And (var x) (lit (pos 2)))) ≡ met TableSize 9
table_of_three = refl
