-- The meaning of asm.js without checks, where each construct is given what comes after it. It is the same recursion on trees, and it
-- computes: a construct with what follows is its first part with the rest before what follows.
use Rattle.std.specs.Prelude.{ℕ, zero, suc, true, List, [], ◌∷◌, Option, Some, None, map, if◌then◌else◌}
use Rattle.sem_words.specs.declared.js_value.JsValue.{JsValue}
use Rattle.sem_words.specs.declared.js_value.JsValue.TheVariants.{Whole, Undef, Bool as Boolean}
use Rattle.sem_words.specs.JsValues.{truthy_of}
use Rattle.sem_words.specs.JsOperators.{js_binary_of, js_unary_of}
use Rattle.session_lang.specs.Script.{CallPlain}
use Rattle.asm_lang.specs.Modules.{Expr, lit, decimal, var, index, call, table_call, assign, store, unary, binary, chain, cond, comma, Exprs, no_exprs, exprs, Links, no_links, links, Stmt, block, plain, empty, if_only, if_else, returns, while_loop, do_while, for_loop, breaks, continues, labelled, switches, Stmts, no_stmts, stmts, Clauses, no_clauses, clauses, Function, Module}
use Rattle.asm_lang_valid.specs.Scope.{Meaning, a_foreign, a_builtin, a_function}
use Rattle.asm_lang_valid.specs.Typing.{Scope, named}
use Rattle.asm_lang_valid.specs.Typed.{scope_of}
use Rattle.asm_lang_exec.specs.Runs.{Binding, Part, and_then, goes_wrong, defined, out_of_units, pay, read, write, back_to, add_event}
use Rattle.asm_lang_exec.specs.Values.{read_element, write_element, call_import, builtin_value, entry_of}
use Rattle.asm_lang_exec.specs.Meaning.{link_operator, Completion, normal, broken, continued, returned, loop_end, label_end, switch_end, as_whole, passed_over, first_locals, function_end}
use Rattle.asm_lang_exec.specs.Session.{exported_function, result_event}

-- a part that is given what comes after it, of which R is what the whole comes to
abbrev pub Before : Type 0 → Type 0 → Type 0
Before R A = (A → Part R) → Part R

abbrev pub CallsBefore : Type 0 → Type 0
CallsBefore R = Function → List JsValue → Before R JsValue

abbrev pub call_named_to : {R : Type 0} → CallsBefore R → Meaning → List JsValue → Before R JsValue
call_named_to calls (a_function f) vs next = calls f vs next
call_named_to calls (a_foreign name) vs next = and_then (call_import name vs) next
call_named_to calls (a_builtin b) vs next = and_then (defined (builtin_value b vs)) next
call_named_to calls _ vs next = goes_wrong

-- ---- expressions

module _ {R : Type 0} (calls : CallsBefore R) (c : Scope) where
  abbrev mutual
    pub eval_to : Expr → Before R JsValue
    eval_to (lit z) next = next (Whole z)
    eval_to (decimal bs) next = goes_wrong
    eval_to (var n) next = and_then (read n) next
    eval_to (index n i) next = eval_to i (λ x. and_then (read_element (named c n) x) next)
    eval_to (call n es) next = eval_all_to es (λ vs. call_named_to calls (named c n) vs next)
    eval_to (table_call n i es) next = eval_to i (λ x. eval_all_to es (λ vs. and_then (defined (entry_of c.home (named c n) x)) (λ f. calls f vs next)))
    eval_to (assign n e) next = eval_to e (λ v. and_then (write n v) next)
    eval_to (store n i e) next = eval_to i (λ x. eval_to e (λ v. and_then (write_element (named c n) x v) next))
    eval_to (unary op e) next = eval_to e (λ v. and_then (defined (js_unary_of op v)) next)
    eval_to (binary op l r) next = eval_to l (λ v. eval_to r (λ w. and_then (defined (js_binary_of op v w)) next))
    eval_to (chain e ls) next = eval_to e (λ v. eval_links_to ls v next)
    eval_to (cond e a b) next = eval_to e (λ v. if truthy_of v then eval_to a next else eval_to b next)
    eval_to (comma es) next = eval_last_to es next

    pub eval_all_to : Exprs → Before R (List JsValue)
    eval_all_to no_exprs next = next []
    eval_all_to (exprs e es) next = eval_to e (λ v. eval_all_to es (λ vs. next (v ∷ vs)))

    pub eval_links_to : Links → JsValue → Before R JsValue
    eval_links_to no_links v next = next v
    eval_links_to (links minus e ls) v next = eval_to e (λ w. and_then (defined (js_binary_of (link_operator minus) v w)) (λ x. eval_links_to ls x next))

    pub eval_last_to : Exprs → Before R JsValue
    eval_last_to no_exprs next = goes_wrong
    eval_last_to (exprs e no_exprs) next = eval_to e next
    eval_last_to (exprs e (exprs x es)) next = eval_to e (λ v. eval_last_to (exprs x es) next)

-- ---- statements

module _ {R : Type 0} where
  abbrev pub unless_ended_to : Option Completion → Before R Completion → Before R Completion
  unless_ended_to None again next = again next
  unless_ended_to (Some d) again next = next d

  abbrev pub unless_left_to : Completion → Before R Completion → Before R Completion
  unless_left_to normal rest next = rest next
  unless_left_to d rest next = next d

  abbrev pub turns_to : List (List ℕ) → ℕ → Before R JsValue → Before R Completion → Before R (Unit {0}) → Before R Completion
  turns_to own zero test body step next = out_of_units
  turns_to own (suc n) test body step next =
      and_then pay (λ _. test (λ v. if truthy_of v then body (λ d. unless_ended_to (loop_end own d) (λ next. step (λ _. turns_to own n test body step next)) next) else next normal))

  abbrev pub do_turns_to : List (List ℕ) → ℕ → Before R Completion → Before R JsValue → Before R Completion
  do_turns_to own zero body test next = out_of_units
  do_turns_to own (suc n) body test next =
      and_then pay (λ _. body (λ d. unless_ended_to (loop_end own d) (λ next. test (λ v. if truthy_of v then do_turns_to own n body test next else next normal)) next))

module _ {R : Type 0} (calls : CallsBefore R) (c : Scope) (bound : ℕ) where
  abbrev pub exec_part_to : Option Expr → Before R (Unit {0})
  exec_part_to None next = next tt
  exec_part_to (Some e) next = eval_to calls c e (λ v. next tt)

  abbrev pub exec_test_to : Option Expr → Before R JsValue
  exec_test_to None next = next (Boolean true)
  exec_test_to (Some e) next = eval_to calls c e next

  abbrev mutual
    pub exec_to : List (List ℕ) → Stmt → Before R Completion
    exec_to own (block ss) next = exec_all_to ss next
    exec_to own (plain e) next = eval_to calls c e (λ v. next normal)
    exec_to own empty next = next normal
    exec_to own (if_only e s) next = eval_to calls c e (λ v. if truthy_of v then exec_to [] s next else next normal)
    exec_to own (if_else e s r) next = eval_to calls c e (λ v. if truthy_of v then exec_to [] s next else exec_to [] r next)
    exec_to own (returns None) next = next (returned Undef)
    exec_to own (returns (Some e)) next = eval_to calls c e (λ v. next (returned v))
    exec_to own (while_loop e s) next = turns_to own bound (eval_to calls c e) (exec_to [] s) (λ next. next tt) next
    exec_to own (do_while s e) next = do_turns_to own bound (exec_to [] s) (eval_to calls c e) next
    exec_to own (for_loop x y z s) next = exec_part_to x (λ _. turns_to own bound (exec_test_to y) (exec_to [] s) (exec_part_to z) next)
    exec_to own (breaks n) next = next (broken n)
    exec_to own (continues n) next = next (continued n)
    exec_to own (labelled ns s) next = exec_to ns s (λ d. next (label_end ns d))
    exec_to own (switches e cs) next = eval_to calls c e (λ v. and_then (defined (as_whole v)) (λ z. exec_clauses_to cs (passed_over z cs) (λ d. next (switch_end d))))

    pub exec_all_to : Stmts → Before R Completion
    exec_all_to no_stmts next = next normal
    exec_all_to (stmts s ss) next = exec_to [] s (λ d. unless_left_to d (exec_all_to ss) next)

    pub exec_clauses_to : Clauses → ℕ → Before R Completion
    exec_clauses_to no_clauses k next = next normal
    exec_clauses_to (clauses v ss cs) zero next = exec_all_to ss (λ d. unless_left_to d (exec_clauses_to cs zero) next)
    exec_clauses_to (clauses v ss cs) (suc k) next = exec_clauses_to cs k next

-- ---- functions and sessions

-- a part with local variables of its own; those from before are back for what comes after it
abbrev pub with_locals_to : {R A : Type 0} → List Binding → Before R A → Before R A
with_locals_to locals f next p = f (λ a. and_then (back_to p.locals a) next) (record p { locals = locals })

abbrev pub call_at_to : {R : Type 0} → Module → ℕ → CallsBefore R
call_at_to m zero f vs next = out_of_units
call_at_to m (suc bound) f vs next =
    and_then pay (λ _. and_then (defined (first_locals f vs)) (λ locals. with_locals_to locals (λ next. exec_all_to (call_at_to m bound) (scope_of m f) bound f.body (λ d. and_then (function_end d) next)) next))

module _ {R : Type 0} (calls : CallsBefore R) (m : Module) where
  abbrev pub host_call_to : CallPlain → Before R (Unit {0})
  host_call_to c next = and_then (defined (exported_function m c.name)) (λ f. calls f (map Whole c.args) (λ v. and_then (add_event (result_event f v)) next))

  abbrev pub host_calls_to : List CallPlain → Before R (Unit {0})
  host_calls_to [] next = next tt
  host_calls_to (c ∷ cs) next = host_call_to c (λ _. host_calls_to cs next)
