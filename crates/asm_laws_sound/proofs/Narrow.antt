-- A part that begins after events of narrow words comes to such events, and stops with such an end.
use Rattle.std.proofs.Common.{◌≡◌, ℕ, zero, suc, Bool, true, false, List, [], ◌∷◌, ◌++◌, Option, Some, None, sym, subst, ⊎_elim}
use Rattle.std.specs.List.{AllByRecursion}
use Rattle.std.specs.Prelude.{map, if◌then◌else◌}
use Rattle.sem_words.specs.declared.js_value.JsValue.{JsValue}
use Rattle.sem_words.specs.declared.js_value.JsValue.TheVariants.{Whole, Undef, Bool as Boolean}
use Rattle.sem_words.specs.JsValues.{truthy_of}
use Rattle.sem_words.specs.JsOperators.{js_binary_of, js_unary_of}
use Rattle.session_lang.specs.Script.{CallPlain, ReplyPlain, give, throw}
use Rattle.session_lang.specs.Imports.{Replies, ImportAnswer, goes_on, ends, high_word, take_reply}
use Rattle.session_lang.specs.Observation.{EventPlain, call_gave, call_returned, stopped, ObservationPlain}
use Rattle.session_lang.specs.Laws.{IsNarrow, HasNarrowWords, EndsNarrow}
use Rattle.asm_lang.specs.Modules.{Expr, lit, decimal, var, index, call, table_call, assign, store, unary, binary, chain, cond, comma, Exprs, no_exprs, exprs, Links, no_links, links, Stmt, block, plain, empty, if_only, if_else, returns, while_loop, do_while, for_loop, breaks, continues, labelled, switches, Stmts, no_stmts, stmts, Clauses, no_clauses, clauses, Function, Module}
use Rattle.asm_lang_valid.specs.Scope.{Meaning, a_foreign, a_builtin, a_view, a_function, signature_of}
use Rattle.asm_lang_valid.specs.Typing.{Scope, named}
use Rattle.asm_lang_valid.specs.Typed.{scope_of}
use Rattle.asm_lang_exec.specs.Runs.{Binding, Place, Run, goes, stops, spent, wrong, Part, after, and_then, gives, defined, paid, pay, read, written, write, back_to, with_locals, add_event}
use Rattle.asm_lang_exec.specs.Values.{word, read_element, write_element, answered, call_import, Calls, call_named, entry_of, builtin_value}
use Rattle.asm_lang_exec.specs.Meaning.{eval, eval_all, eval_links, eval_last, link_operator, Completion, normal, broken, continued, returned, loop_end, label_end, switch_end, unless_ended, unless_left, turns, do_turns, as_whole, passed_over, exec_part, exec_test, exec, exec_all, exec_clauses, first_locals, function_end, call_at}
use Rattle.asm_lang_exec.specs.Session.{first_place, exported_function, result_event, host_call, host_calls, observed}
use Rattle.asm_laws_sound.specs.NarrowLaws.{IsNarrowSight, SightsAreNarrow, SessionsAreNarrow}

abbrev AreNarrow : List EventPlain → Type 0
AreNarrow es = AllByRecursion HasNarrowWords es

abbrev Shows : {A : Type 0} → Run A → Type 0
Shows (goes a p) = AreNarrow p.events
Shows (stops e p) = AreNarrow p.events × EndsNarrow (Some e)
Shows (spent p) = AreNarrow p.events
Shows wrong = Unit {0}

abbrev Narrow : {A : Type 0} → Part A → Type 0
Narrow f = (p : Place) → AreNarrow p.events → Shows (f p)

joined : (es fs : List EventPlain) → AreNarrow es → AreNarrow fs → AreNarrow (es ++ fs)
joined [] fs h k = k
joined (e ∷ es) fs h k = (h.0, joined es fs h.1 k)

-- ---- parts

shows_after : {A B : Type 0} (r : Run A) (k : A → Part B) → Shows r → ((a : A) → Narrow (k a)) → Shows (after r k)
shows_after (goes a p) k h each = each a p h
shows_after (stops e p) k h each = h
shows_after (spent p) k h each = h
shows_after wrong k h each = tt

then_narrow : {A B : Type 0} (f : Part A) (k : A → Part B) → Narrow f → ((a : A) → Narrow (k a)) → Narrow (and_then f k)
then_narrow f k h each p n = shows_after (f p) k (h p n) each

gives_narrow : {A : Type 0} (a : A) → Narrow (gives a)
gives_narrow a p n = n

defined_narrow : {A : Type 0} (o : Option A) → Narrow (defined o)
defined_narrow None p n = tt
defined_narrow (Some a) p n = n

if_narrow : {A : Type 0} (b : Bool) (f g : Part A) → Narrow f → Narrow g → Narrow (if b then f else g)
if_narrow true f g h k = h
if_narrow false f g h k = k

pay_narrow : Narrow pay
pay_narrow p n = by p.units
  where
    by : (u : ℕ) → Shows (paid u p)
    by zero = n
    by (suc u) = n

read_narrow : (x : List ℕ) → Narrow (read x)
read_narrow x p n = defined_narrow {A = JsValue} _ p n

write_narrow : (x : List ℕ) (v : JsValue) → Narrow (write x v)
write_narrow x v p n = by _ _
  where
    by : (o q : Option JsValue) → Shows (written o q x v p)
    by (Some w) q = n
    by None (Some w) = n
    by None None = tt

read_element_narrow : (m : Meaning) (x : JsValue) → Narrow (read_element m x)
read_element_narrow (a_view v) (Whole i) p n = n
read_element_narrow _ _ p n = tt

write_element_narrow : (m : Meaning) (x v : JsValue) → Narrow (write_element m x v)
write_element_narrow (a_view k) (Whole i) v p n = n
write_element_narrow _ _ v p n = tt

locals_narrow : {A : Type 0} (locals : List Binding) (f : Part A) → Narrow f → Narrow (with_locals locals f)
locals_narrow locals f h p n = shows_after (f (record p { locals = locals })) (back_to p.locals) (h (record p { locals = locals }) n) (λ a q k. k)

-- ---- imports

words_narrow : (vs : List JsValue) → AllByRecursion IsNarrow (map word vs)
words_narrow [] = tt
words_narrow (v ∷ vs) = (tt, words_narrow vs)

abbrev AnswersNarrow : ImportAnswer → Type 0
AnswersNarrow (ends e) = EndsNarrow (Some e)
AnswersNarrow (goes_on g) = AreNarrow g.events

reply_narrow : (name : List ℕ) (vs : List JsValue) (left : List ReplyPlain) → AnswersNarrow (take_reply name (map word vs) left)
reply_narrow name vs [] = words_narrow vs
reply_narrow name vs (throw ∷ left) = words_narrow vs
reply_narrow name vs (give w writes ∷ left) = (words_narrow vs, tt)

answer_narrow : (name : List ℕ) (vs : List JsValue) (a b : Bool) (rs : Replies)
    → AnswersNarrow (if a then ends (stopped name (map word vs)) else if b then goes_on (record { word = high_word rs.last; writes = []; events = []; replies = rs }) else take_reply name (map word vs) rs.left)
answer_narrow name vs true b rs = words_narrow vs
answer_narrow name vs false true rs = tt
answer_narrow name vs false false rs = reply_narrow name vs rs.left

answered_narrow : (a : ImportAnswer) (p : Place) → AnswersNarrow a → AreNarrow p.events → Shows (answered a p)
answered_narrow (ends e) p h n = (n, h)
answered_narrow (goes_on g) p h n = joined p.events g.events n h

import_narrow : (name : List ℕ) (vs : List JsValue) → Narrow (call_import name vs)
import_narrow name vs p n = answered_narrow _ p (answer_narrow name vs _ _ p.replies) n

-- ---- expressions

abbrev CallsAreNarrow : Calls → Type 0
CallsAreNarrow calls = (f : Function) (vs : List JsValue) → Narrow (calls f vs)

named_narrow : (calls : Calls) → CallsAreNarrow calls → (m : Meaning) (vs : List JsValue) → Narrow (call_named calls m vs)
named_narrow calls h (a_function f) vs = h f vs
named_narrow calls h (a_foreign name) vs = import_narrow name vs
named_narrow calls h (a_builtin b) vs = defined_narrow (builtin_value b vs)
named_narrow calls h _ vs = λ p n. tt

module _ (calls : Calls) (h : CallsAreNarrow calls) (c : Scope) where
  mutual
    eval_narrow : (e : Expr) → Narrow (eval false calls c e)
    eval_narrow (lit z) = gives_narrow (Whole z)
    eval_narrow (decimal bs) = λ p n. tt
    eval_narrow (var x) = read_narrow x
    eval_narrow (index x i) = then_narrow _ _ (eval_narrow i) (λ v. read_element_narrow (named c x) v)
    eval_narrow (call x es) = then_narrow _ _ (all_narrow es) (λ vs. named_narrow calls h (named c x) vs)
    eval_narrow (table_call x i es) = then_narrow _ _ (eval_narrow i) (λ v. then_narrow _ _ (all_narrow es) (λ vs. then_narrow _ _ (defined_narrow (entry_of c.home (named c x) v)) (λ f. h f vs)))
    eval_narrow (assign x e) = then_narrow _ _ (eval_narrow e) (λ v. write_narrow x v)
    eval_narrow (store x i e) = then_narrow _ _ (eval_narrow i) (λ v. then_narrow _ _ (eval_narrow e) (λ w. write_element_narrow (named c x) v w))
    eval_narrow (unary op e) = then_narrow _ _ (eval_narrow e) (λ v. defined_narrow (js_unary_of op v))
    eval_narrow (binary op l r) = then_narrow _ _ (eval_narrow l) (λ v. then_narrow _ _ (eval_narrow r) (λ w. defined_narrow (js_binary_of op v w)))
    eval_narrow (chain e ls) = then_narrow _ _ (eval_narrow e) (λ v. links_narrow ls v)
    eval_narrow (cond e a b) = then_narrow _ _ (eval_narrow e) (λ v. if_narrow (truthy_of v) _ _ (eval_narrow a) (eval_narrow b))
    eval_narrow (comma es) = last_narrow es

    all_narrow : (es : Exprs) → Narrow (eval_all false calls c es)
    all_narrow no_exprs = gives_narrow {A = List JsValue} []
    all_narrow (exprs e es) = then_narrow _ _ (eval_narrow e) (λ v. then_narrow _ _ (all_narrow es) (λ vs. gives_narrow (v ∷ vs)))

    links_narrow : (ls : Links) (v : JsValue) → Narrow (eval_links false calls c ls v)
    links_narrow no_links v = gives_narrow v
    links_narrow (links minus e ls) v = then_narrow _ _ (eval_narrow e) (λ w. then_narrow _ _ (defined_narrow (js_binary_of (link_operator minus) v w)) (λ x. links_narrow ls x))

    last_narrow : (es : Exprs) → Narrow (eval_last false calls c es)
    last_narrow no_exprs = λ p n. tt
    last_narrow (exprs e no_exprs) = eval_narrow e
    last_narrow (exprs e (exprs x es)) = then_narrow _ _ (eval_narrow e) (λ v. last_narrow (exprs x es))

-- ---- statements

ended_narrow : (o : Option Completion) (f : Part Completion) → Narrow f → Narrow (unless_ended o f)
ended_narrow None f h = h
ended_narrow (Some d) f h = gives_narrow d

left_narrow : (d : Completion) (f : Part Completion) → Narrow f → Narrow (unless_left d f)
left_narrow normal f h = h
left_narrow (broken n) f h = gives_narrow (broken n)
left_narrow (continued n) f h = gives_narrow (continued n)
left_narrow (returned v) f h = gives_narrow (returned v)

module _ (own : List (List ℕ)) (test : Part JsValue) (body : Part Completion) (t : Narrow test) (b : Narrow body) where
  turns_narrow : (step : Part (Unit {0})) → Narrow step → (n : ℕ) → Narrow (turns own n test body step)
  turns_narrow step s zero = λ p n. n
  turns_narrow step s (suc k) = then_narrow _ _ pay_narrow (λ _. then_narrow _ _ t (λ v. if_narrow (truthy_of v) _ _ (then_narrow _ _ b (λ d. ended_narrow (loop_end own d) _ (then_narrow _ _ s (λ _. turns_narrow step s k)))) (gives_narrow normal)))

  do_turns_narrow : (n : ℕ) → Narrow (do_turns own n body test)
  do_turns_narrow zero = λ p n. n
  do_turns_narrow (suc k) = then_narrow _ _ pay_narrow (λ _. then_narrow _ _ b (λ d. ended_narrow (loop_end own d) _ (then_narrow _ _ t (λ v. if_narrow (truthy_of v) _ _ (do_turns_narrow k) (gives_narrow normal)))))

module _ (calls : Calls) (h : CallsAreNarrow calls) (c : Scope) (bound : ℕ) where
  part_narrow : (o : Option Expr) → Narrow (exec_part false calls c bound o)
  part_narrow None = gives_narrow (tt {0})
  part_narrow (Some e) = then_narrow _ _ (eval_narrow calls h c e) (λ v. gives_narrow (tt {0}))

  test_narrow : (o : Option Expr) → Narrow (exec_test false calls c bound o)
  test_narrow None = gives_narrow (Boolean true)
  test_narrow (Some e) = eval_narrow calls h c e

  mutual
    exec_narrow : (own : List (List ℕ)) (s : Stmt) → Narrow (exec false calls c bound own s)
    exec_narrow own (block ss) = exec_all_narrow ss
    exec_narrow own (plain e) = then_narrow _ _ (eval_narrow calls h c e) (λ v. gives_narrow normal)
    exec_narrow own empty = gives_narrow normal
    exec_narrow own (if_only e s) = then_narrow _ _ (eval_narrow calls h c e) (λ v. if_narrow (truthy_of v) _ _ (exec_narrow [] s) (gives_narrow normal))
    exec_narrow own (if_else e s r) = then_narrow _ _ (eval_narrow calls h c e) (λ v. if_narrow (truthy_of v) _ _ (exec_narrow [] s) (exec_narrow [] r))
    exec_narrow own (returns None) = gives_narrow (returned Undef)
    exec_narrow own (returns (Some e)) = then_narrow _ _ (eval_narrow calls h c e) (λ v. gives_narrow (returned v))
    exec_narrow own (while_loop e s) = turns_narrow own _ _ (eval_narrow calls h c e) (exec_narrow [] s) _ (gives_narrow (tt {0})) bound
    exec_narrow own (do_while s e) = do_turns_narrow own _ _ (eval_narrow calls h c e) (exec_narrow [] s) bound
    exec_narrow own (for_loop x y z s) = then_narrow _ _ (part_narrow x) (λ _. turns_narrow own _ _ (test_narrow y) (exec_narrow [] s) _ (part_narrow z) bound)
    exec_narrow own (breaks l) = gives_narrow (broken l)
    exec_narrow own (continues l) = gives_narrow (continued l)
    exec_narrow own (labelled ns s) = then_narrow _ _ (exec_narrow ns s) (λ d. gives_narrow (label_end ns d))
    exec_narrow own (switches e cs) = then_narrow _ _ (eval_narrow calls h c e) (λ v. then_narrow _ _ (defined_narrow (as_whole v)) (λ z. then_narrow _ _ (clauses_narrow cs (passed_over z cs)) (λ d. gives_narrow (switch_end d))))

    exec_all_narrow : (ss : Stmts) → Narrow (exec_all false calls c bound ss)
    exec_all_narrow no_stmts = gives_narrow normal
    exec_all_narrow (stmts s ss) = then_narrow _ _ (exec_narrow [] s) (λ d. left_narrow d _ (exec_all_narrow ss))

    clauses_narrow : (cs : Clauses) (k : ℕ) → Narrow (exec_clauses false calls c bound cs k)
    clauses_narrow no_clauses k = gives_narrow normal
    clauses_narrow (clauses v ss cs) zero = then_narrow _ _ (exec_all_narrow ss) (λ d. left_narrow d _ (clauses_narrow cs zero))
    clauses_narrow (clauses v ss cs) (suc k) = clauses_narrow cs k

-- ---- calls

end_narrow : (d : Completion) → Narrow (function_end d)
end_narrow normal = gives_narrow Undef
end_narrow (broken n) = λ p k. tt
end_narrow (continued n) = λ p k. tt
end_narrow (returned v) = gives_narrow v

call_narrow : (m : Module) (bound : ℕ) → CallsAreNarrow (call_at false m bound)
call_narrow m zero f vs = λ p n. n
call_narrow m (suc bound) f vs =
    then_narrow _ _ pay_narrow (λ _. then_narrow _ _ (defined_narrow (first_locals f vs)) (λ locals. locals_narrow locals _
    (then_narrow _ _ (exec_all_narrow (call_at false m bound) (call_narrow m bound) (scope_of m f) bound f.body) (λ d. end_narrow d))))

-- ---- sessions

result_narrow : (result : Bool) (v : JsValue) → HasNarrowWords (if result then call_gave (word v) else call_returned)
result_narrow true v = tt
result_narrow false v = tt

event_narrow : (e : EventPlain) → HasNarrowWords e → Narrow (add_event e)
event_narrow e h p n = joined p.events (e ∷ []) n (h, tt)

host_narrow : (calls : Calls) → CallsAreNarrow calls → (m : Module) (c : CallPlain) → Narrow (host_call calls m c)
host_narrow calls h m c =
    then_narrow _ _ (defined_narrow (exported_function m c.name)) (λ f. then_narrow _ _ (h f (map Whole c.args)) (λ v. event_narrow (result_event f v) (result_narrow (signature_of f).result v)))

hosts_narrow : (calls : Calls) → CallsAreNarrow calls → (m : Module) (cs : List CallPlain) → Narrow (host_calls calls m cs)
hosts_narrow calls h m [] = gives_narrow (tt {0})
hosts_narrow calls h m (c ∷ cs) = then_narrow _ _ (host_narrow calls h m c) (λ _. hosts_narrow calls h m cs)

some_same : (x y : ObservationPlain) → Some x ≡ Some y → x ≡ y
some_same x y e = cc e

observed_narrow : (r : Run (Unit {0})) (seen : ObservationPlain) → Shows r → observed r ≡ Some seen → IsNarrowSight seen
observed_narrow (goes a p) seen h e = subst IsNarrowSight (some_same _ _ e) (record { events = h; end = tt })
observed_narrow (stops x p) seen h e = subst IsNarrowSight (some_same _ _ e) (record { events = h.0; end = h.1 })
observed_narrow (spent p) seen h e = subst IsNarrowSight (some_same _ _ e) (record { events = h; end = tt })
observed_narrow wrong seen h e = absurd (cc e)

pub sights_are_narrow : SightsAreNarrow
sights_are_narrow m size script units seen e =
    observed_narrow _ seen (hosts_narrow (call_at false m units) (call_narrow m units) m script.calls (first_place m size script units) tt) e

pub sessions_are_narrow : SessionsAreNarrow
sessions_are_narrow m size script session from = record { events = λ units. (sight units).events; end = λ units. (sight units).end }
  where
    sight : (units : ℕ) → IsNarrowSight (session units)
    sight units =
        ⊎_elim (λ e. sights_are_narrow m size script units (session units) e) (λ e. subst IsNarrowSight (sym e) (record { events = tt; end = tt })) (from units)
