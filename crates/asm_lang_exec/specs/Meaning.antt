-- What expressions, statements and functions of asm.js do (ECMA-262, 6th edition, chapters 12 to 14): a recursion on trees.
-- With the checks, a part is wrong as well where an expression has a type and its value isn't one of it.
use Rattle.std.specs.Prelude.{ℕ, zero, suc, Bool, true, false, ◌&&◌, List, [], ◌∷◌, ◌++◌, Option, Some, None, ℤ, int_le, option_map, map, if◌then◌else◌}
use Rattle.sem_words.specs.declared.js_value.JsValue.{JsValue}
use Rattle.sem_words.specs.declared.js_value.JsValue.TheVariants.{Whole, Bool as Boolean, Undef}
use Rattle.sem_words.specs.declared.js_value.JsOp.{JsOp}
use Rattle.sem_words.specs.declared.js_value.JsOp.TheVariants.{Add, Sub}
use Rattle.sem_words.specs.JsValues.{truthy_of}
use Rattle.sem_words.specs.JsOperators.{js_binary_of, js_unary_of}
use Rattle.asm_types.specs.declared.value_type.ValueType.{ValueType}
use Rattle.asm_types.specs.Values.{fits_of}
use Rattle.asm_lang.specs.Trees.{Init, number}
use Rattle.asm_lang.specs.Modules.{Expr, lit, decimal, var, index, call, table_call, assign, store, unary, binary, chain, cond, comma, Exprs, no_exprs, exprs, Links, no_links, links, Stmt, block, plain, empty, if_only, if_else, returns, while_loop, do_while, for_loop, breaks, continues, labelled, switches, Stmts, no_stmts, stmts, Clauses, no_clauses, clauses, Variable, Param, Function, Module}
use Rattle.asm_lang_valid.specs.Scope.{is_in}
use Rattle.asm_lang_valid.specs.Typing.{Scope, named, type_of}
use Rattle.asm_lang_valid.specs.Typed.{scope_of}
use Rattle.asm_lang_exec.specs.Runs.{Binding, binding, Part, and_then, gives, goes_wrong, defined, out_of_units, pay, read, write, with_locals}
use Rattle.asm_lang_exec.specs.Values.{read_element, write_element, Calls, call_named, entry_of, marked}

-- ---- expressions (chapter 12)

abbrev pub in_type : Option ValueType → JsValue → Bool
in_type None v = true
in_type (Some t) v = fits_of t v

-- the value of an expression of this type, where checks are asked for
abbrev pub seen : Bool → Option ValueType → Part JsValue → Part JsValue
seen false type f = f
seen true type f = and_then f (λ v. if in_type type v then gives v else goes_wrong)

-- an operand of a chain has a `-` before it or a `+`
abbrev pub link_operator : Bool → JsOp
link_operator true = Sub
link_operator false = Add

module _ (checks : Bool) (calls : Calls) (c : Scope) where
  abbrev mutual
    pub eval : Expr → Part JsValue
    eval (lit z) = seen checks (type_of c (lit z)) (gives (Whole z))
    -- no double has a value here
    eval (decimal bs) = goes_wrong
    eval (var n) = seen checks (type_of c (var n)) (read n)
    eval (index n i) = seen checks (type_of c (index n i)) (and_then (eval i) (λ x. read_element (named c n) x))
    eval (call n es) = seen checks (type_of c (call n es)) (and_then (eval_all es) (λ vs. call_named calls (named c n) vs))
    eval (table_call n i es) = and_then (eval i) (λ x. and_then (eval_all es) (λ vs. and_then (defined (entry_of c.home (named c n) x)) (λ f. calls f vs)))
    eval (assign n e) = seen checks (type_of c (assign n e)) (and_then (eval e) (λ v. write n v))
    eval (store n i e) = seen checks (type_of c (store n i e)) (and_then (eval i) (λ x. and_then (eval e) (λ v. write_element (named c n) x v)))
    eval (unary op e) = seen checks (type_of c (unary op e)) (and_then (eval e) (λ v. defined (js_unary_of op v)))
    eval (binary op l r) = seen checks (type_of c (binary op l r)) (and_then (eval l) (λ v. and_then (eval r) (λ w. defined (js_binary_of op v w))))
    eval (chain e ls) = seen checks (type_of c (chain e ls)) (and_then (eval e) (λ v. eval_links ls v))
    eval (cond e a b) = seen checks (type_of c (cond e a b)) (and_then (eval e) (λ v. if truthy_of v then eval a else eval b))
    eval (comma es) = seen checks (type_of c (comma es)) (eval_last es)

    -- from left to right
    pub eval_all : Exprs → Part (List JsValue)
    eval_all no_exprs = gives []
    eval_all (exprs e es) = and_then (eval e) (λ v. and_then (eval_all es) (λ vs. gives (v ∷ vs)))

    -- the further operands, added to or subtracted from what stands before them
    pub eval_links : Links → JsValue → Part JsValue
    eval_links no_links v = gives v
    eval_links (links minus e ls) v = and_then (eval e) (λ w. and_then (defined (js_binary_of (link_operator minus) v w)) (λ x. eval_links ls x))

    -- the value of the last one
    pub eval_last : Exprs → Part JsValue
    eval_last no_exprs = goes_wrong
    eval_last (exprs e no_exprs) = eval e
    eval_last (exprs e (exprs x es)) = and_then (eval e) (λ v. eval_last (exprs x es))

-- ---- statements (chapter 13)

-- how a statement ends (section 6.2.2)
pub data Completion : Type 0 where
  normal : Completion
  broken : Option (List ℕ) → Completion
  continued : Option (List ℕ) → Completion
  returned : JsValue → Completion

-- after the body of a loop with these labels (section 13.7.1.2): None where the loop goes on, and else how it ends
abbrev pub loop_end : List (List ℕ) → Completion → Option Completion
loop_end own normal = None
loop_end own (broken None) = Some normal
loop_end own (broken (Some n)) = Some (broken (Some n))
loop_end own (continued None) = None
loop_end own (continued (Some n)) = if is_in n own then None else Some (continued (Some n))
loop_end own (returned v) = Some (returned v)

-- after a statement under these labels (section 13.13.14)
abbrev pub label_end : List (List ℕ) → Completion → Completion
label_end own (broken (Some n)) = if is_in n own then normal else broken (Some n)
label_end own d = d

-- after the clauses of a switch (section 13.12.11)
abbrev pub switch_end : Completion → Completion
switch_end (broken None) = normal
switch_end d = d

abbrev pub unless_ended : Option Completion → Part Completion → Part Completion
unless_ended None again = again
unless_ended (Some d) again = gives d

-- a loop that makes at most n turns; a turn takes a unit before the condition is evaluated (sections 13.7.3 and 13.7.4)
abbrev pub turns : List (List ℕ) → ℕ → Part JsValue → Part Completion → Part (Unit {0}) → Part Completion
turns own zero test body step = out_of_units
turns own (suc n) test body step =
    and_then pay (λ _. and_then test (λ v. if truthy_of v then and_then body (λ d. unless_ended (loop_end own d) (and_then step (λ _. turns own n test body step))) else gives normal))

-- a `do` loop, where a turn takes a unit before the body is executed (section 13.7.2)
abbrev pub do_turns : List (List ℕ) → ℕ → Part Completion → Part JsValue → Part Completion
do_turns own zero body test = out_of_units
do_turns own (suc n) body test =
    and_then pay (λ _. and_then body (λ d. unless_ended (loop_end own d) (and_then test (λ v. if truthy_of v then do_turns own n body test else gives normal))))

-- after a statement of a list (section 13.2.13)
abbrev pub unless_left : Completion → Part Completion → Part Completion
unless_left normal rest = rest
unless_left d rest = gives d

abbrev pub as_whole : JsValue → Option ℤ
as_whole (Whole z) = Some z
as_whole _ = None

abbrev pub is_case : ℤ → Option ℤ → Bool
is_case z None = false
is_case z (Some v) = int_le v z && int_le z v

-- how many clauses stand before the first one with the value; all where none has it
abbrev pub before_case : ℤ → Clauses → ℕ
before_case z no_clauses = 0
before_case z (clauses v ss cs) = if is_case z v then 0 else suc (before_case z cs)

abbrev pub before_default : Clauses → ℕ
before_default no_clauses = 0
before_default (clauses None ss cs) = 0
before_default (clauses (Some v) ss cs) = suc (before_default cs)

abbrev pub has_case : ℤ → Clauses → Bool
has_case z no_clauses = false
has_case z (clauses v ss cs) = if is_case z v then true else has_case z cs

-- how many clauses a switch passes over: those before the case, or else those before the default
abbrev pub passed_over : ℤ → Clauses → ℕ
passed_over z cs = if has_case z cs then before_case z cs else before_default cs

module _ (checks : Bool) (calls : Calls) (c : Scope) (bound : ℕ) where
  -- the parts of a `for` that may be missing
  abbrev pub exec_part : Option Expr → Part (Unit {0})
  exec_part None = gives tt
  exec_part (Some e) = and_then (eval checks calls c e) (λ v. gives tt)

  abbrev pub exec_test : Option Expr → Part JsValue
  exec_test None = gives (Boolean true)
  exec_test (Some e) = eval checks calls c e

  abbrev mutual
    -- a statement directly under these labels, where each loop makes at most `bound` turns
    pub exec : List (List ℕ) → Stmt → Part Completion
    exec own (block ss) = exec_all ss
    exec own (plain e) = and_then (eval checks calls c e) (λ v. gives normal)
    exec own empty = gives normal
    exec own (if_only e s) = and_then (eval checks calls c e) (λ v. if truthy_of v then exec [] s else gives normal)
    exec own (if_else e s r) = and_then (eval checks calls c e) (λ v. if truthy_of v then exec [] s else exec [] r)
    exec own (returns None) = gives (returned Undef)
    exec own (returns (Some e)) = and_then (eval checks calls c e) (λ v. gives (returned v))
    exec own (while_loop e s) = turns own bound (eval checks calls c e) (exec [] s) (gives tt)
    exec own (do_while s e) = do_turns own bound (exec [] s) (eval checks calls c e)
    exec own (for_loop x y z s) = and_then (exec_part x) (λ _. turns own bound (exec_test y) (exec [] s) (exec_part z))
    exec own (breaks n) = gives (broken n)
    exec own (continues n) = gives (continued n)
    exec own (labelled ns s) = and_then (exec ns s) (λ d. gives (label_end ns d))
    exec own (switches e cs) = and_then (eval checks calls c e) (λ v. and_then (defined (as_whole v)) (λ z. and_then (exec_clauses cs (passed_over z cs)) (λ d. gives (switch_end d))))

    pub exec_all : Stmts → Part Completion
    exec_all no_stmts = gives normal
    exec_all (stmts s ss) = and_then (exec [] s) (λ d. unless_left d (exec_all ss))

    -- the clauses after so many
    pub exec_clauses : Clauses → ℕ → Part Completion
    exec_clauses no_clauses k = gives normal
    exec_clauses (clauses v ss cs) zero = and_then (exec_all ss) (λ d. unless_left d (exec_clauses cs zero))
    exec_clauses (clauses v ss cs) (suc k) = exec_clauses cs k

-- ---- functions (chapter 14; asm.js draft, section 6.4)

-- a double has no value here, and nothing reads one
abbrev pub first_value : Init → JsValue
first_value (number z) = Whole z
first_value _ = Undef

-- the parameters with the arguments, of which there have to be as many
abbrev pub parameters : List Param → List JsValue → Option (List Binding)
parameters [] [] = Some []
parameters (p ∷ ps) (v ∷ vs) = option_map (λ bs. binding p.name (marked p.double v) ∷ bs) (parameters ps vs)
parameters _ _ = None

abbrev pub local_variables : Function → List Binding
local_variables f = map (λ (v : Variable). binding v.name (first_value v.init)) f.locals

abbrev pub first_locals : Function → List JsValue → Option (List Binding)
first_locals f vs = option_map (λ bs. bs ++ local_variables f) (parameters f.params vs)

-- what the body of a function gives its caller
abbrev pub function_end : Completion → Part JsValue
function_end normal = gives Undef
function_end (returned v) = gives v
function_end _ = goes_wrong

-- a call of a function of the module takes a unit, with its arguments evaluated; calls lie at most so deep
abbrev pub call_at : Bool → Module → ℕ → Calls
call_at checks m zero f vs = out_of_units
call_at checks m (suc bound) f vs =
    and_then pay (λ _. and_then (defined (first_locals f vs)) (λ locals. with_locals locals (and_then (exec_all checks (call_at checks m bound) (scope_of m f) bound f.body) (λ d. function_end d))))
