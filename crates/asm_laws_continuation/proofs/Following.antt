-- By the same recursion on trees: what comes after two parts comes after the second, which comes after the first.
use Rattle.std.proofs.Common.{◌≡◌, ℕ, zero, suc, Bool, true, false, List, [], ◌∷◌, Option, Some, None, refl, ◌∙◌}
use Rattle.std.specs.Prelude.{map, if◌then◌else◌}
use Rattle.sem_words.specs.declared.js_value.JsValue.{JsValue}
use Rattle.sem_words.specs.declared.js_value.JsValue.TheVariants.{Whole, Undef, Bool as Boolean}
use Rattle.sem_words.specs.JsValues.{truthy_of}
use Rattle.sem_words.specs.JsOperators.{js_binary_of, js_unary_of}
use Rattle.session_lang.specs.Script.{CallPlain}
use Rattle.asm_lang.specs.Modules.{Expr, lit, decimal, var, index, call, table_call, assign, store, unary, binary, chain, cond, comma, Exprs, no_exprs, exprs, Links, no_links, links, Stmt, block, plain, empty, if_only, if_else, returns, while_loop, do_while, for_loop, breaks, continues, labelled, switches, Stmts, no_stmts, stmts, Clauses, no_clauses, clauses, Function, Module}
use Rattle.asm_lang_valid.specs.Scope.{Meaning, nothing, an_int, an_outside, a_foreign, a_builtin, a_view, a_function, a_table, a_parameter}
use Rattle.asm_lang_valid.specs.Typing.{Scope, named}
use Rattle.asm_lang_valid.specs.Typed.{scope_of}
use Rattle.asm_lang_exec.specs.Runs.{Binding, Place, Run, goes, stops, spent, wrong, Part, after, and_then, gives, goes_wrong, defined, out_of_units, pay, read, write, back_to, with_locals, add_event}
use Rattle.asm_lang_exec.specs.Values.{Calls, read_element, write_element, call_import, builtin_value, call_named, entry_of}
use Rattle.asm_lang_exec.specs.Meaning.{eval, eval_all, eval_links, eval_last, link_operator, Completion, normal, broken, continued, returned, loop_end, label_end, switch_end, unless_ended, unless_left, turns, do_turns, as_whole, passed_over, exec_part, exec_test, exec, exec_all, exec_clauses, first_locals, function_end, call_at}
use Rattle.asm_lang_exec.specs.Session.{exported_function, result_event, host_call, host_calls}
use Rattle.asm_laws_continuation.specs.Following.{Before, CallsBefore, call_named_to, eval_to, eval_all_to, eval_links_to, eval_last_to, unless_ended_to, unless_left_to, turns_to, do_turns_to, exec_part_to, exec_test_to, exec_to, exec_all_to, exec_clauses_to, with_locals_to, call_at_to, host_call_to, host_calls_to}
use Rattle.asm_laws_continuation.specs.Laws.{AllFollow, ExpressionsFollow, StatementsFollow, CallsFollow, SessionsFollow}

-- what a whole session comes to
abbrev Ending : Type 0
Ending = Unit {0}

-- the second is the first with what comes after it
record Same {A : Type 0} (f : Part A) (g : Before Ending A) : Type 0 where
  same : (next : A → Part Ending) (p : Place) → g next p ≡ after (f p) next

after_after : {A B C : Type 0} (r : Run A) (k : A → Part B) (next : B → Part C) → after r (λ a p. after (k a p) next) ≡ after (after r k) next
after_after (goes a p) k next = refl
after_after (stops e p) k next = refl
after_after (spent p) k next = refl
after_after wrong k next = refl

after_same : {A B : Type 0} (r : Run A) (k k' : A → Part B) → ((a : A) (p : Place) → k a p ≡ k' a p) → after r k ≡ after r k'
after_same (goes a p) k k' h = h a p
after_same (stops e p) k k' h = refl
after_same (spent p) k k' h = refl
after_same wrong k k' h = refl

same_then : {A B : Type 0} {f : Part A} {g : Before Ending A} {k : A → Part B} {l : A → Before Ending B} → Same f g → ((a : A) → Same (k a) (l a)) → Same (and_then f k) (λ next. g (λ a. l a next))
same_then {A} {B} {f} {g} {k} {l} h each = record {
  same = λ next p. h.same (λ a. l a next) p ∙ after_same (f p) (λ a. l a next) (λ a p. after (k a p) next) (λ a q. (each a).same next q) ∙ after_after (f p) k next;
}

same_gives : {A : Type 0} (a : A) → Same (gives a) (λ next. next a)
same_gives a = record { same = λ next p. refl }

same_wrong : {A : Type 0} → Same (goes_wrong {A = A}) (λ next. goes_wrong)
same_wrong = record { same = λ next p. refl }

same_out : {A : Type 0} → Same (out_of_units {A = A}) (λ next. out_of_units)
same_out = record { same = λ next p. refl }

-- a part that isn't taken apart
same_part : {A : Type 0} (f : Part A) → Same f (λ next. and_then f next)
same_part f = record { same = λ next p. refl }

same_if : {A : Type 0} (b : Bool) {f f' : Part A} {g g' : Before Ending A} → Same f g → Same f' g' → Same (if b then f else f') (λ next. if b then g next else g' next)
same_if true h i = h
same_if false h i = i

same_locals : {A : Type 0} (locals : List Binding) {f : Part A} {g : Before Ending A} → Same f g → Same (with_locals locals f) (with_locals_to locals g)
same_locals {A} locals {f} {g} h = record {
  same = λ next p. h.same (λ a. and_then (back_to p.locals a) next) (record p { locals = locals }) ∙ after_after (f (record p { locals = locals })) (back_to p.locals) next;
}

abbrev AllSame : Calls → CallsBefore Ending → Type 0
AllSame calls calls_to = (f : Function) (vs : List JsValue) → Same (calls f vs) (calls_to f vs)

-- ---- expressions

module _ (c : Scope) (calls : Calls) (calls_to : CallsBefore Ending) (all : AllSame calls calls_to) where
  named_same : (m : Meaning) (vs : List JsValue) → Same (call_named calls m vs) (call_named_to calls_to m vs)
  named_same (a_function f) vs = all f vs
  named_same (a_foreign name) vs = same_part (call_import name vs)
  named_same (a_builtin b) vs = same_part (defined (builtin_value b vs))
  named_same nothing vs = same_wrong
  named_same an_int vs = same_wrong
  named_same an_outside vs = same_wrong
  named_same (a_view v) vs = same_wrong
  named_same (a_table t) vs = same_wrong
  named_same a_parameter vs = same_wrong

  mutual
    eval_same : (e : Expr) → Same (eval false calls c e) (eval_to calls_to c e)
    eval_same (lit z) = same_gives (Whole z)
    eval_same (decimal bs) = same_wrong
    eval_same (var n) = same_part (read n)
    eval_same (index n i) = same_then (eval_same i) (λ x. same_part (read_element (named c n) x))
    eval_same (call n es) = same_then (eval_all_same es) (λ vs. named_same (named c n) vs)
    eval_same (table_call n i es) = same_then (eval_same i) (λ x. same_then (eval_all_same es) (λ vs. same_then (same_part (defined (entry_of c.home (named c n) x))) (λ f. all f vs)))
    eval_same (assign n e) = same_then (eval_same e) (λ v. same_part (write n v))
    eval_same (store n i e) = same_then (eval_same i) (λ x. same_then (eval_same e) (λ v. same_part (write_element (named c n) x v)))
    eval_same (unary op e) = same_then (eval_same e) (λ v. same_part (defined (js_unary_of op v)))
    eval_same (binary op l r) = same_then (eval_same l) (λ v. same_then (eval_same r) (λ w. same_part (defined (js_binary_of op v w))))
    eval_same (chain e ls) = same_then (eval_same e) (λ v. links_same ls v)
    eval_same (cond e a b) = same_then (eval_same e) (λ v. same_if (truthy_of v) (eval_same a) (eval_same b))
    eval_same (comma es) = last_same es

    eval_all_same : (es : Exprs) → Same (eval_all false calls c es) (eval_all_to calls_to c es)
    eval_all_same no_exprs = same_gives []
    eval_all_same (exprs e es) = same_then (eval_same e) (λ v. same_then (eval_all_same es) (λ vs. same_gives (v ∷ vs)))

    links_same : (ls : Links) (v : JsValue) → Same (eval_links false calls c ls v) (eval_links_to calls_to c ls v)
    links_same no_links v = same_gives v
    links_same (links minus e ls) v = same_then (eval_same e) (λ w. same_then (same_part (defined (js_binary_of (link_operator minus) v w))) (λ x. links_same ls x))

    last_same : (es : Exprs) → Same (eval_last false calls c es) (eval_last_to calls_to c es)
    last_same no_exprs = same_wrong
    last_same (exprs e no_exprs) = eval_same e
    last_same (exprs e (exprs x es)) = same_then (eval_same e) (λ v. last_same (exprs x es))

-- ---- statements

unless_ended_same : (o : Option Completion) {f : Part Completion} {g : Before Ending Completion} → Same f g → Same (unless_ended o f) (unless_ended_to o g)
unless_ended_same None h = h
unless_ended_same (Some d) h = same_gives d

unless_left_same : (d : Completion) {f : Part Completion} {g : Before Ending Completion} → Same f g → Same (unless_left d f) (unless_left_to d g)
unless_left_same normal h = h
unless_left_same (broken n) h = same_gives (broken n)
unless_left_same (continued n) h = same_gives (continued n)
unless_left_same (returned v) h = same_gives (returned v)

module _ (own : List (List ℕ)) (test : Part JsValue) (test_to : Before Ending JsValue) (body : Part Completion) (body_to : Before Ending Completion) (t : Same test test_to) (b : Same body body_to) where
  turns_same : (step : Part (Unit {0})) (step_to : Before Ending (Unit {0})) → Same step step_to → (n : ℕ) → Same (turns own n test body step) (turns_to own n test_to body_to step_to)
  turns_same step step_to s zero = same_out
  turns_same step step_to s (suc n) =
      same_then (same_part pay) (λ _. same_then t (λ v. same_if (truthy_of v) (same_then b (λ d. unless_ended_same (loop_end own d) (same_then s (λ _. turns_same step step_to s n)))) (same_gives normal)))

  do_turns_same : (n : ℕ) → Same (do_turns own n body test) (do_turns_to own n body_to test_to)
  do_turns_same zero = same_out
  do_turns_same (suc n) =
      same_then (same_part pay) (λ _. same_then b (λ d. unless_ended_same (loop_end own d) (same_then t (λ v. same_if (truthy_of v) (do_turns_same n) (same_gives normal)))))

module _ (c : Scope) (bound : ℕ) (calls : Calls) (calls_to : CallsBefore Ending) (all : AllSame calls calls_to) where
  abbrev evaluated : (e : Expr) → Same (eval false calls c e) (eval_to calls_to c e)
  evaluated e = eval_same c calls calls_to all e

  part_same : (o : Option Expr) → Same (exec_part false calls c bound o) (exec_part_to calls_to c bound o)
  part_same None = same_gives tt
  part_same (Some e) = same_then (evaluated e) (λ v. same_gives tt)

  test_same : (o : Option Expr) → Same (exec_test false calls c bound o) (exec_test_to calls_to c bound o)
  test_same None = same_gives (Boolean true)
  test_same (Some e) = evaluated e

  mutual
    exec_same : (own : List (List ℕ)) (s : Stmt) → Same (exec false calls c bound own s) (exec_to calls_to c bound own s)
    exec_same own (block ss) = exec_all_same ss
    exec_same own (plain e) = same_then (evaluated e) (λ v. same_gives normal)
    exec_same own empty = same_gives normal
    exec_same own (if_only e s) = same_then (evaluated e) (λ v. same_if (truthy_of v) (exec_same [] s) (same_gives normal))
    exec_same own (if_else e s r) = same_then (evaluated e) (λ v. same_if (truthy_of v) (exec_same [] s) (exec_same [] r))
    exec_same own (returns None) = same_gives (returned Undef)
    exec_same own (returns (Some e)) = same_then (evaluated e) (λ v. same_gives (returned v))
    exec_same own (while_loop e s) = turns_same own _ _ _ _ (evaluated e) (exec_same [] s) _ _ (same_gives tt) bound
    exec_same own (do_while s e) = do_turns_same own _ _ _ _ (evaluated e) (exec_same [] s) bound
    exec_same own (for_loop x y z s) = same_then (part_same x) (λ _. turns_same own _ _ _ _ (test_same y) (exec_same [] s) _ _ (part_same z) bound)
    exec_same own (breaks n) = same_gives (broken n)
    exec_same own (continues n) = same_gives (continued n)
    exec_same own (labelled ns s) = same_then (exec_same ns s) (λ d. same_gives (label_end ns d))
    exec_same own (switches e cs) = same_then (evaluated e) (λ v. same_then (same_part (defined (as_whole v))) (λ z. same_then (clauses_same cs (passed_over z cs)) (λ d. same_gives (switch_end d))))

    exec_all_same : (ss : Stmts) → Same (exec_all false calls c bound ss) (exec_all_to calls_to c bound ss)
    exec_all_same no_stmts = same_gives normal
    exec_all_same (stmts s ss) = same_then (exec_same [] s) (λ d. unless_left_same d (exec_all_same ss))

    clauses_same : (cs : Clauses) (k : ℕ) → Same (exec_clauses false calls c bound cs k) (exec_clauses_to calls_to c bound cs k)
    clauses_same no_clauses k = same_gives normal
    clauses_same (clauses v ss cs) zero = same_then (exec_all_same ss) (λ d. unless_left_same d (clauses_same cs zero))
    clauses_same (clauses v ss cs) (suc k) = clauses_same cs k

-- ---- calls and sessions

call_same : (m : Module) (bound : ℕ) → AllSame (call_at false m bound) (call_at_to m bound)
call_same m zero f vs = same_out
call_same m (suc bound) f vs =
    same_then (same_part pay) (λ _. same_then (same_part (defined (first_locals f vs))) (λ locals. same_locals locals (same_then (exec_all_same (scope_of m f) bound _ _ (call_same m bound) f.body) (λ d. same_part (function_end d)))))

module _ (m : Module) (calls : Calls) (calls_to : CallsBefore Ending) (all : AllSame calls calls_to) where
  host_call_same : (c : CallPlain) → Same (host_call calls m c) (host_call_to calls_to m c)
  host_call_same c = same_then (same_part (defined (exported_function m c.name))) (λ f. same_then (all f (map Whole c.args)) (λ v. same_part (add_event (result_event f v))))

  host_calls_same : (cs : List CallPlain) → Same (host_calls calls m cs) (host_calls_to calls_to m cs)
  host_calls_same [] = same_gives tt
  host_calls_same (c ∷ cs) = same_then (host_call_same c) (λ _. host_calls_same cs)

all_same : (calls : Calls) (calls_to : CallsBefore Ending) → AllFollow calls calls_to → AllSame calls calls_to
all_same calls calls_to h f vs = record { same = h f vs }

pub expressions_follow : ExpressionsFollow
expressions_follow calls calls_to c e h = (eval_same c calls calls_to (all_same calls calls_to h) e).same

pub statements_follow : StatementsFollow
statements_follow calls calls_to c bound own s h = (exec_same c bound calls calls_to (all_same calls calls_to h) own s).same

pub calls_follow : CallsFollow
calls_follow m bound f vs = (call_same m bound f vs).same

pub sessions_follow : SessionsFollow
sessions_follow m bound cs = (host_calls_same m _ _ (call_same m bound) cs).same
