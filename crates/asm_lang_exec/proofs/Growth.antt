-- More units, and larger bounds, only add to what a session shows.
use Rattle.std.proofs.Common.{◌≡◌, ℕ, zero, suc, ◌+◌, ◌-◌, ◌≤◌, Bool, true, false, List, [], ◌∷◌, Option, Some, None, refl, sym, ap, ◌∙◌, subst, arith}
use Rattle.std.specs.Prelude.{map}
use Rattle.sem_words.specs.declared.js_value.JsValue.{JsValue}
use Rattle.sem_words.specs.declared.js_value.JsValue.TheVariants.{Whole, Undef, Bool as Boolean}
use Rattle.sem_words.specs.JsValues.{truthy_of}
use Rattle.sem_words.specs.JsOperators.{js_binary_of, js_unary_of}
use Rattle.session_lang.specs.Script.{CallPlain, ScriptPlain}
use Rattle.session_lang.proofs.BelowLaws.{below_is_reflexive}
use Rattle.session_lang.specs.Observation.{EventPlain, running, ended, done, ObservationPlain, IsBelow}
use Rattle.asm_lang.specs.Modules.{Expr, lit, decimal, var, index, call, table_call, assign, store, unary, binary, chain, cond, comma, Exprs, no_exprs, exprs, Links, no_links, links, Stmt, block, plain, empty, if_only, if_else, returns, while_loop, do_while, for_loop, breaks, continues, labelled, switches, Stmts, no_stmts, stmts, Clauses, no_clauses, clauses, Function, Module}
use Rattle.asm_lang_valid.specs.Scope.{Meaning, nothing, an_int, an_outside, a_foreign, a_builtin, a_view, a_function, a_table, a_parameter}
use Rattle.asm_lang_valid.specs.Typing.{Scope, named, type_of}
use Rattle.asm_lang_valid.specs.Typed.{scope_of}
use Rattle.asm_lang_exec.specs.Runs.{Place, Run, goes, stops, spent, wrong, Part, and_then, gives, defined, out_of_units, pay, with_locals}
use Rattle.asm_lang_exec.specs.Values.{Calls, call_named, entry_of}
use Rattle.asm_lang_exec.specs.Meaning.{eval, eval_all, eval_links, eval_last, link_operator, Completion, normal, broken, continued, returned, loop_end, label_end, switch_end, unless_ended, unless_left, turns, do_turns, as_whole, passed_over, exec_part, exec_test, exec, exec_all, exec_clauses, first_locals, function_end, call_at}
use Rattle.asm_lang_exec.specs.Session.{first_place, exported_function, result_event, host_call, host_calls, observed}
use Rattle.asm_lang_exec.specs.Laws.{BoundsChangeNothing, SessionsGrow, CheckedSessionsGrow}
use Rattle.asm_lang_exec.proofs.Grown.{more, Keeps, Grows, Grown, grown_then, grown_gives, grown_wrong, grown_defined, grown_if, grown_seen, grown_read, grown_write, grown_read_element, grown_write_element, grown_import, grown_event, grown_locals, grown_pay, keeps_after, paid_keeps, same_events}
use Rattle.std.specs.Prelude.{if◌then◌else◌}

abbrev pub CallsGrow : ℕ → ℕ → Calls → Calls → Type 0
CallsGrow u j calls calls' = (f : Function) (vs : List JsValue) → Grown u j (calls f vs) (calls' f vs)

-- ---- expressions

module _ (checks : Bool) (c : Scope) (u j : ℕ) (calls calls' : Calls) (grow : CallsGrow u j calls calls') where
  named_grown : (m : Meaning) (vs : List JsValue) → Grown u j (call_named calls m vs) (call_named calls' m vs)
  named_grown (a_function f) vs = grow f vs
  named_grown (a_foreign name) vs = grown_import name vs
  named_grown (a_builtin b) vs = grown_defined _
  named_grown nothing vs = grown_wrong
  named_grown an_int vs = grown_wrong
  named_grown an_outside vs = grown_wrong
  named_grown (a_view v) vs = grown_wrong
  named_grown (a_table t) vs = grown_wrong
  named_grown a_parameter vs = grown_wrong

  mutual
    eval_grown : (e : Expr) → Grown u j (eval checks calls c e) (eval checks calls' c e)
    eval_grown (lit z) = grown_seen checks (type_of c (lit z)) (grown_gives (Whole z))
    eval_grown (decimal bs) = grown_wrong
    eval_grown (var n) = grown_seen checks (type_of c (var n)) (grown_read n)
    eval_grown (index n i) = grown_seen checks (type_of c (index n i)) (grown_then (eval_grown i) (λ x. grown_read_element (named c n) x))
    eval_grown (call n es) = grown_seen checks (type_of c (call n es)) (grown_then (all_grown es) (λ vs. named_grown (named c n) vs))
    eval_grown (table_call n i es) = grown_then (eval_grown i) (λ x. grown_then (all_grown es) (λ vs. grown_then (grown_defined (entry_of c.home (named c n) x)) (λ f. grow f vs)))
    eval_grown (assign n e) = grown_seen checks (type_of c (assign n e)) (grown_then (eval_grown e) (λ v. grown_write n v))
    eval_grown (store n i e) = grown_seen checks (type_of c (store n i e)) (grown_then (eval_grown i) (λ x. grown_then (eval_grown e) (λ v. grown_write_element (named c n) x v)))
    eval_grown (unary op e) = grown_seen checks (type_of c (unary op e)) (grown_then (eval_grown e) (λ v. grown_defined (js_unary_of op v)))
    eval_grown (binary op l r) = grown_seen checks (type_of c (binary op l r)) (grown_then (eval_grown l) (λ v. grown_then (eval_grown r) (λ w. grown_defined (js_binary_of op v w))))
    eval_grown (chain e ls) = grown_seen checks (type_of c (chain e ls)) (grown_then (eval_grown e) (λ v. links_grown ls v))
    eval_grown (cond e a b) = grown_seen checks (type_of c (cond e a b)) (grown_then (eval_grown e) (λ v. grown_if (truthy_of v) (eval_grown a) (eval_grown b)))
    eval_grown (comma es) = grown_seen checks (type_of c (comma es)) (last_grown es)

    all_grown : (es : Exprs) → Grown u j (eval_all checks calls c es) (eval_all checks calls' c es)
    all_grown no_exprs = grown_gives []
    all_grown (exprs e es) = grown_then (eval_grown e) (λ v. grown_then (all_grown es) (λ vs. grown_gives (v ∷ vs)))

    links_grown : (ls : Links) (v : JsValue) → Grown u j (eval_links checks calls c ls v) (eval_links checks calls' c ls v)
    links_grown no_links v = grown_gives v
    links_grown (links minus e ls) v = grown_then (eval_grown e) (λ w. grown_then (grown_defined (js_binary_of (link_operator minus) v w)) (λ x. links_grown ls x))

    last_grown : (es : Exprs) → Grown u j (eval_last checks calls c es) (eval_last checks calls' c es)
    last_grown no_exprs = grown_wrong
    last_grown (exprs e no_exprs) = eval_grown e
    last_grown (exprs e (exprs x es)) = grown_then (eval_grown e) (λ v. last_grown (exprs x es))

-- ---- loops

unless_ended_grown : {u j : ℕ} (o : Option Completion) {f f' : Part Completion} → Grown u j f f' → Grown u j (unless_ended o f) (unless_ended o f')
unless_ended_grown None h = h
unless_ended_grown (Some d) h = grown_gives d

unless_left_grown : {u j : ℕ} (d : Completion) {f f' : Part Completion} → Grown u j f f' → Grown u j (unless_left d f) (unless_left d f')
unless_left_grown normal h = h
unless_left_grown (broken n) h = grown_gives (broken n)
unless_left_grown (continued n) h = grown_gives (continued n)
unless_left_grown (returned v) h = grown_gives (returned v)

grown_less : {A : Type 0} {u v j : ℕ} {f f' : Part A} → v ≤ u → Grown u j f f' → Grown v j f f'
grown_less le h = record { grows = λ p l. h.grows p (omega (arith, le, l)); kept = h.kept }

-- where no unit is left, a part that takes none is out of them
spent_grown : {A : Type 0} (u j : ℕ) (f' : Part A) → u ≤ 0 → (j ≡ 0 → (p : Place) → p.units ≡ 0 → f' p ≡ spent p) → ((p : Place) → Keeps p.events (f' p)) → Grown u j (out_of_units {A = A}) f'
spent_grown {A} u zero f' none out kept = record { grows = λ p le. out refl (more zero p) (omega (arith, none, le)); kept = kept }
spent_grown {A} u (suc j) f' none out kept = record { grows = λ p le. kept (more (suc j) p); kept = kept }

pay_spends : {A : Type 0} (g : Part A) (p : Place) → p.units ≡ 0 → and_then pay (λ _. g) p ≡ spent p
pay_spends g p e = rw e refl

-- the other way round: the first takes a unit where none is left, and neither has the second any
pay_spent_grown : {A : Type 0} (u j : ℕ) (g : Part A) → u ≤ 0 → j ≡ 0 → Grown u j (and_then pay (λ _. g)) (out_of_units {A = A})
pay_spent_grown {A} u zero g none e = record {
  grows = λ p le. let n : p.units ≡ 0 = omega (arith, none, le) in subst (λ r. Grows p.units 0 r (spent (more 0 p))) (sym (pay_spends g p n)) refl;
  kept = same_events;
}
pay_spent_grown {A} u (suc j) g none e = absurd (omega (arith, e))

-- the events that were there stay, from each place
abbrev Stays : {A : Type 0} → Part A → Type 0
Stays f = (p : Place) → Keeps p.events (f p)

stays_then : {A B : Type 0} (f : Part A) (k : A → Part B) → Stays f → ((a : A) → Stays (k a)) → Stays (and_then f k)
stays_then f k h each p = keeps_after p.events (f p) k (λ a q. each a q) (h p)

stays_if : (b : Bool) (f g : Part Completion) → Stays f → Stays g → Stays (if b then f else g)
stays_if true f g h i = h
stays_if false f g h i = i

stays_unless : (o : Option Completion) (f : Part Completion) → Stays f → Stays (unless_ended o f)
stays_unless None f h p = h p
stays_unless (Some d) f h p = same_events p

module _ (own : List (List ℕ)) (test : Part JsValue) (body : Part Completion) (t : Stays test) (b : Stays body) where
  module _ (step : Part (Unit {0})) (s : Stays step) where
    abbrev turn : Part Completion → Part Completion
    turn again = and_then test (λ v. if truthy_of v then and_then body (λ d. unless_ended (loop_end own d) (and_then step (λ _. again))) else gives normal)

    turn_stays : (again : Part Completion) → Stays again → Stays (turn again)
    turn_stays again h =
        stays_then test _ t (λ v. stays_if (truthy_of v) _ _ (stays_then body _ b (λ d. stays_unless (loop_end own d) _ (stays_then step (λ _. again) s (λ _. h)))) same_events)

    turns_stay : (n : ℕ) → Stays (turns own n test body step)
    turns_stay zero p = same_events p
    turns_stay (suc n) p = paid_keeps p.units p (turn (turns own n test body step)) (turn_stays (turns own n test body step) (turns_stay n))

  abbrev do_turn : Part Completion → Part Completion
  do_turn again = and_then body (λ d. unless_ended (loop_end own d) (and_then test (λ v. if truthy_of v then again else gives normal)))

  do_turn_stays : (again : Part Completion) → Stays again → Stays (do_turn again)
  do_turn_stays again h = stays_then body _ b (λ d. stays_unless (loop_end own d) _ (stays_then test _ t (λ v. stays_if (truthy_of v) again _ h same_events)))

  do_turns_stay : (n : ℕ) → Stays (do_turns own n body test)
  do_turns_stay zero p = same_events p
  do_turns_stay (suc n) p = paid_keeps p.units p (do_turn (do_turns own n body test)) (do_turn_stays (do_turns own n body test) (do_turns_stay n))

module _ (own : List (List ℕ)) (j : ℕ) (test test' : Part JsValue) (body body' : Part Completion) where
  module _ (step step' : Part (Unit {0})) where
    pub turns_grown : (u n n' : ℕ) → u ≤ n → u + j ≤ n' → Grown u j test test' → Grown u j body body' → Grown u j step step' → Grown u j (turns own n test body step) (turns own n' test' body' step')
    turns_grown u zero zero h h' t b s = spent_grown u j out_of_units h (λ e p n. refl) same_events
    turns_grown u (suc n) zero h h' t b s = pay_spent_grown u j _ (omega (arith, h')) (omega (arith, h'))
    turns_grown u zero (suc n') h h' t b s = spent_grown u j (turns own (suc n') test' body' step') h (λ e p n. pay_spends _ p n) (turns_stay own test' body' t.kept b.kept step' s.kept (suc n'))
    turns_grown u (suc n) (suc n') h h' t b s =
        grown_pay u j _ _
        (λ v le. grown_then (grown_less {v = v} (omega (arith, le)) t) (λ x. grown_if (truthy_of x) (grown_then (grown_less {v = v} (omega (arith, le)) b) (λ d. unless_ended_grown (loop_end own d) (grown_then (grown_less {v = v} (omega (arith, le)) s) (λ _. turns_grown v n n' (omega (arith, le, h)) (omega (arith, le, h')) (grown_less (omega (arith, le)) t) (grown_less (omega (arith, le)) b) (grown_less (omega (arith, le)) s))))) (grown_gives normal)))
        (turn_stays own test' body' t.kept b.kept step' s.kept (turns own n' test' body' step') (turns_stay own test' body' t.kept b.kept step' s.kept n'))

  pub do_turns_grown : (u n n' : ℕ) → u ≤ n → u + j ≤ n' → Grown u j test test' → Grown u j body body' → Grown u j (do_turns own n body test) (do_turns own n' body' test')
  do_turns_grown u zero zero h h' t b = spent_grown u j out_of_units h (λ e p n. refl) same_events
  do_turns_grown u (suc n) zero h h' t b = pay_spent_grown u j _ (omega (arith, h')) (omega (arith, h'))
  do_turns_grown u zero (suc n') h h' t b = spent_grown u j (do_turns own (suc n') body' test') h (λ e p n. pay_spends _ p n) (do_turns_stay own test' body' t.kept b.kept (suc n'))
  do_turns_grown u (suc n) (suc n') h h' t b =
      grown_pay u j _ _
      (λ v le. grown_then (grown_less {v = v} (omega (arith, le)) b) (λ d. unless_ended_grown (loop_end own d) (grown_then (grown_less {v = v} (omega (arith, le)) t) (λ x. grown_if (truthy_of x) (do_turns_grown v n n' (omega (arith, le, h)) (omega (arith, le, h')) (grown_less (omega (arith, le)) t) (grown_less (omega (arith, le)) b)) (grown_gives normal)))))
      (do_turn_stays own test' body' t.kept b.kept (do_turns own n' body' test') (do_turns_stay own test' body' t.kept b.kept n'))

-- ---- statements

module _ (checks : Bool) (c : Scope) (u j n n' : ℕ) (in_n : u ≤ n) (in_n' : u + j ≤ n') (calls calls' : Calls) (grow : CallsGrow u j calls calls') where
  abbrev evaluated : (e : Expr) → Grown u j (eval checks calls c e) (eval checks calls' c e)
  evaluated e = eval_grown checks c u j calls calls' grow e

  pub part_grown : (o : Option Expr) → Grown u j (exec_part checks calls c n o) (exec_part checks calls' c n' o)
  part_grown None = grown_gives tt
  part_grown (Some e) = grown_then (evaluated e) (λ v. grown_gives tt)

  pub test_grown : (o : Option Expr) → Grown u j (exec_test checks calls c n o) (exec_test checks calls' c n' o)
  test_grown None = grown_gives (Boolean true)
  test_grown (Some e) = evaluated e

  mutual
    pub exec_grown : (own : List (List ℕ)) (s : Stmt) → Grown u j (exec checks calls c n own s) (exec checks calls' c n' own s)
    exec_grown own (block ss) = exec_all_grown ss
    exec_grown own (plain e) = grown_then (evaluated e) (λ v. grown_gives normal)
    exec_grown own empty = grown_gives normal
    exec_grown own (if_only e s) = grown_then (evaluated e) (λ v. grown_if (truthy_of v) (exec_grown [] s) (grown_gives normal))
    exec_grown own (if_else e s r) = grown_then (evaluated e) (λ v. grown_if (truthy_of v) (exec_grown [] s) (exec_grown [] r))
    exec_grown own (returns None) = grown_gives (returned Undef)
    exec_grown own (returns (Some e)) = grown_then (evaluated e) (λ v. grown_gives (returned v))
    exec_grown own (while_loop e s) = turns_grown own j _ _ _ _ (gives tt) (gives tt) u n n' in_n in_n' (evaluated e) (exec_grown [] s) (grown_gives tt)
    exec_grown own (do_while s e) = do_turns_grown own j _ _ _ _ u n n' in_n in_n' (evaluated e) (exec_grown [] s)
    exec_grown own (for_loop x y z s) = grown_then (part_grown x) (λ _. turns_grown own j _ _ _ _ _ _ u n n' in_n in_n' (test_grown y) (exec_grown [] s) (part_grown z))
    exec_grown own (breaks l) = grown_gives (broken l)
    exec_grown own (continues l) = grown_gives (continued l)
    exec_grown own (labelled ns s) = grown_then (exec_grown ns s) (λ d. grown_gives (label_end ns d))
    exec_grown own (switches e cs) = grown_then (evaluated e) (λ v. grown_then (grown_defined (as_whole v)) (λ z. grown_then (clauses_grown cs (passed_over z cs)) (λ d. grown_gives (switch_end d))))

    exec_all_grown : (ss : Stmts) → Grown u j (exec_all checks calls c n ss) (exec_all checks calls' c n' ss)
    exec_all_grown no_stmts = grown_gives normal
    exec_all_grown (stmts s ss) = grown_then (exec_grown [] s) (λ d. unless_left_grown d (exec_all_grown ss))

    clauses_grown : (cs : Clauses) (k : ℕ) → Grown u j (exec_clauses checks calls c n cs k) (exec_clauses checks calls' c n' cs k)
    clauses_grown no_clauses k = grown_gives normal
    clauses_grown (clauses v ss cs) zero = grown_then (exec_all_grown ss) (λ d. unless_left_grown d (clauses_grown cs zero))
    clauses_grown (clauses v ss cs) (suc k) = clauses_grown cs k

-- ---- calls

end_grown : {u j : ℕ} (d : Completion) → Grown u j (function_end d) (function_end d)
end_grown normal = grown_gives Undef
end_grown (broken n) = grown_wrong
end_grown (continued n) = grown_wrong
end_grown (returned v) = grown_gives v

module _ (checks : Bool) (m : Module) where
  -- a call after its unit was taken
  abbrev entered : ℕ → Function → List JsValue → Part JsValue
  entered bound f vs =
      and_then (defined (first_locals f vs)) (λ locals. with_locals locals (and_then (exec_all checks (call_at checks m bound) (scope_of m f) bound f.body) (λ d. function_end d)))

  entered_grown : (u j d d' : ℕ) (f : Function) (vs : List JsValue) → u ≤ d → u + j ≤ d' → CallsGrow u j (call_at checks m d) (call_at checks m d') → Grown u j (entered d f vs) (entered d' f vs)
  entered_grown u j d d' f vs h h' grow =
      grown_then (grown_defined (first_locals f vs)) (λ locals. grown_locals locals (grown_then (exec_all_grown checks (scope_of m f) u j d d' h h' _ _ grow f.body) (λ e. end_grown e)))

  pub call_grown : (d' d u j : ℕ) → u ≤ d → u + j ≤ d' → CallsGrow u j (call_at checks m d) (call_at checks m d')
  call_grown zero zero u j h h' f vs = spent_grown u j out_of_units h (λ e p n. refl) same_events
  call_grown zero (suc d) u j h h' f vs = pay_spent_grown u j (entered d f vs) (omega (arith, h')) (omega (arith, h'))
  call_grown (suc d') zero u j h h' f vs =
      spent_grown u j (call_at checks m (suc d') f vs) h (λ e p n. pay_spends (entered d' f vs) p n) (λ p. paid_keeps p.units p (entered d' f vs) (entered_grown 0 0 0 d' f vs (omega arith) (omega arith) (call_grown d' 0 0 0 (omega arith) (omega arith))).kept)
  call_grown (suc d') (suc d) u j h h' f vs =
      grown_pay u j (entered d f vs) (entered d' f vs)
      (λ v le. entered_grown v j d d' f vs (omega (arith, le, h)) (omega (arith, le, h')) (call_grown d' d v j (omega (arith, le, h)) (omega (arith, le, h'))))
      (entered_grown 0 0 0 d' f vs (omega arith) (omega arith) (call_grown d' 0 0 0 (omega arith) (omega arith))).kept

-- ---- sessions

module _ (m : Module) (u j : ℕ) (calls calls' : Calls) (grow : CallsGrow u j calls calls') where
  host_call_grown : (c : CallPlain) → Grown u j (host_call calls m c) (host_call calls' m c)
  host_call_grown c = grown_then (grown_defined (exported_function m c.name)) (λ f. grown_then (grow f (map Whole c.args)) (λ v. grown_event (result_event f v)))

  host_calls_grown : (cs : List CallPlain) → Grown u j (host_calls calls m cs) (host_calls calls' m cs)
  host_calls_grown [] = grown_gives tt
  host_calls_grown (c ∷ cs) = grown_then (host_call_grown c) (λ _. host_calls_grown cs)

observed_same : (n : ℕ) (r r' : Run (Unit {0})) → Grows n 0 r r' → observed r' ≡ observed r
observed_same n (goes a p) r' h = ap observed h.1
observed_same n (stops e p) r' h = ap observed h
observed_same n (spent p) r' h = ap observed h
observed_same n wrong r' h = ap observed h

same_below : (o : Option ObservationPlain) (x y : ObservationPlain) → o ≡ Some x → o ≡ Some y → IsBelow x y
same_below o x y h k = let e : x ≡ y = cc (h, k) in subst (λ z. IsBelow x z) e (below_is_reflexive x)

running_below : (es : List EventPlain) (r : Run (Unit {0})) (y : ObservationPlain) → Keeps es r → observed r ≡ Some y → IsBelow (running es) y
running_below es (goes a p) y h k = let e : ended p.events done p.heap ≡ y = cc k in subst (λ z. IsBelow (running es) z) e h
running_below es (stops x p) y h k = let e : ended p.events x p.heap ≡ y = cc k in subst (λ z. IsBelow (running es) z) e h
running_below es (spent p) y h k = let e : running p.events ≡ y = cc k in subst (λ z. IsBelow (running es) z) e h
running_below es wrong y h k = absurd (cc k)

observed_below : (n j : ℕ) (r r' : Run (Unit {0})) (x y : ObservationPlain) → Grows n j r r' → observed r ≡ Some x → observed r' ≡ Some y → IsBelow x y
observed_below n j (goes a p) r' x y h seen later = same_below (observed (goes a p)) x y seen (sym (ap observed h.1) ∙ later)
observed_below n j (stops e p) r' x y h seen later = same_below (observed (stops e p)) x y seen (sym (ap observed h) ∙ later)
observed_below n zero (spent p) r' x y h seen later = same_below (observed (spent p)) x y seen (sym (ap observed h) ∙ later)
observed_below n (suc j) (spent p) r' x y h seen later =
    let e : running p.events ≡ x = cc seen in subst (λ z. IsBelow z y) e (running_below p.events r' y h later)
observed_below n j wrong r' x y h seen later = absurd (cc seen)

module _ (checks : Bool) (m : Module) (size : ℕ) (script : ScriptPlain) where
  abbrev session : ℕ → ℕ → Run (Unit {0})
  session bound units = host_calls (call_at checks m bound) m script.calls (first_place m size script units)

  session_grows : (units j bound : ℕ) → units + j ≤ bound → Grows units j (session units units) (session bound (units + j))
  session_grows units j bound h = (host_calls_grown m units j _ _ (call_grown checks m bound units units j (omega arith) h) script.calls).grows (first_place m size script units) (omega arith)

  bounded : (units bound : ℕ) → units ≤ bound → observed (session bound units) ≡ observed (session units units)
  bounded units bound le =
      let e : units + 0 ≡ units = omega arith in
      subst (λ n. observed (session bound n) ≡ observed (session units units)) e (observed_same units _ _ (session_grows units 0 bound (omega (arith, le))))

  grows_below : (few many : ℕ) (x y : ObservationPlain) → few ≤ many → observed (session few few) ≡ Some x → observed (session many many) ≡ Some y → IsBelow x y
  grows_below few many x y le seen later =
      let e : many ≡ few + (many - few) = omega (arith, le) in
      observed_below few (many - few) (session few few) (session many (few + (many - few))) x y (session_grows few (many - few) many (omega (arith, le))) seen
      (subst (λ n. observed (session many n) ≡ Some y) e later)

pub bounds_change_nothing : BoundsChangeNothing
bounds_change_nothing checks m size script units bound le = bounded checks m size script units bound le

pub sessions_grow : SessionsGrow
sessions_grow m size script few many x y le seen later = grows_below false m size script few many x y le seen later

pub checked_sessions_grow : CheckedSessionsGrow
checked_sessions_grow m size script few many x y le seen later = grows_below true m size script few many x y le seen later
