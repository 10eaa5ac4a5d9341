-- Straight code that grows, action by action.
use Rattle.std.proofs.Common.{◌≡◌, Bool, true, false, ◌||◌, List, [], ◌∷◌, ◌++◌, Option, Some, None, refl, sym, ap, subst, ◌∙◌, append_assoc, append-nil}
use Rattle.std.specs.Prelude.{Result, Ok, Err, IfOk, if◌then◌else◌}
use Rattle.asm_lang.specs.Modules.{Stmt}
use Rattle.wasm2js_translation.specs.Names.{Name}
use Rattle.wasm2js_translation.specs.Words.{Term, Simple, put, ask, tell, guard, stop, write_byte, write_whole, Action, simply, either, simple_statement, simple_statements, statement, statements}
use Rattle.wasm2js_translation.specs.Pairs.{simples}
use Rattle.wasm2js_translation.specs.Delays.{Delayed, Late, replaced, may_wait, without, those, others, written, puts, changes, one_changes, in_place, at_once, late_among, late, late_action, late_arm}
use Rattle.wasm2js_translation.specs.Known.{Known, Lean, bound, is_within, unchanged, lean, lean_action, all_learned, learned}
use Rattle.wasm2js_build.specs.Growing.{State, one, run, late_at, grown, after_late, state_at_once, begins_to_wait}
use Rattle.wasm2js_build.proofs.Replacing.{nothing_waits, nothing_in_place}

pub one_at_once : (told : List Stmt) (s : Simple) → one (state_at_once told) (simply s) ≡ state_at_once (told ++ simple_statement s ∷ [])
unfolding one
one_at_once told s = refl

pub run_joined : (s : State) (xs ys : List Action) → run s (xs ++ ys) ≡ run (run s xs) ys
run_joined s [] ys = refl
run_joined s (x ∷ xs) ys = run_joined (one s x) xs ys

pub statements_joined : (xs ys : List Action) → statements (xs ++ ys) ≡ statements xs ++ statements ys
statements_joined [] ys = refl
statements_joined (x ∷ xs) ys = ap (λ r. statement x ∷ r) (statements_joined xs ys)

pub statements_simples : (ss : List Simple) → statements (simples ss) ≡ simple_statements ss
statements_simples [] = refl
statements_simples (s ∷ ss) = ap (λ r. simple_statement s ∷ r) (statements_simples ss)

-- ---- without what is needless, one action after the other

-- so, and then so
abbrev pub followed : Lean → (List Known → Lean) → Lean
followed x more = record { now = x.now ++ (more x.known).now; known = (more x.known).known }

pub lean_joined : (ks : List Known) (xs ys : List Action) → lean ks (xs ++ ys) ≡ followed (lean ks xs) (λ js. lean js ys)
lean_joined ks [] ys = refl
lean_joined ks (x ∷ xs) ys =
    let first = lean_action ks x in
    let rest = lean first.known xs in
    ap (λ (l : Lean). record { now = first.now ++ l.now; known = l.known }) (lean_joined first.known xs ys)
    ∙ ap (λ (acts : List Action). record { now = acts; known = (lean rest.known ys).known }) (sym (append_assoc first.now rest.now (lean rest.known ys).now))

-- where words may wait, code is written late, and without what is needless
pub run_late : (told : List Stmt) (ds : List Delayed) (ks : List Known) (acts : List Action)
    → run (late_at told ds ks) acts ≡ late_at (told ++ statements (lean ks (late ds acts).now).now) (late ds acts).later (lean ks (late ds acts).now).known
unfolding one
run_late told ds ks [] = ap (λ (ss : List Stmt). late_at ss ds ks) (sym (append-nil told))
run_late told ds ks (a ∷ acts) =
    let x = late_action ds a in
    let y = lean ks x.now in
    let rest = late x.later acts in
    let z = lean y.known rest.now in
    run_late (told ++ statements y.now) x.later y.known acts
    ∙ ap (λ (ss : List Stmt). late_at ss rest.later z.known) (append_assoc told (statements y.now) (statements z.now) ∙ ap (λ (ss : List Stmt). told ++ ss) (sym (statements_joined y.now z.now)))
    ∙ ap (λ (l : Lean). late_at (told ++ statements l.now) rest.later l.known) (sym (lean_joined ks x.now rest.now))

-- ---- one more action

put_waits : (b : Bool) (told : List Stmt) (ds : List Delayed) (ks : List Known) (n : Name) (u : Term) (x : Late) (d : Delayed)
    → (if b then Some (record { name = n; word = u }) else None) ≡ Some d
    → grown told ks (if b then record { now = []; later = without n ds ++ record { name = n; word = u } ∷ [] } else x) ≡ late_at told (without d.name ds ++ d ∷ []) ks
put_waits true told ds ks n u x d e =
    let same : record { name = n; word = u } ≡ d = cc e in
    ap (λ (ss : List Stmt). late_at ss (without n ds ++ record { name = n; word = u } ∷ []) ks) (append-nil told)
    ∙ ap (λ (y : Delayed). late_at told (without y.name ds ++ y ∷ []) ks) same
put_waits false told ds ks n u x d e = absurd (cc e)

-- a word that begins to wait
pub begins : (told : List Stmt) (ds : List Delayed) (ks : List Known) (s : Simple) (d : Delayed) → begins_to_wait ds s ≡ Some d
    → grown told ks (late_among ds s) ≡ late_at told (without d.name ds ++ d ∷ []) ks
begins told ds ks (put n t) d e = put_waits (may_wait ds n (replaced ds t)) told ds ks n (replaced ds t) (at_once ds (put n t)) d e
begins told ds ks (ask n helper ts) d e = absurd (cc e)
begins told ds ks (tell helper ts) d e = absurd (cc e)
begins told ds ks (guard t most kind) d e = absurd (cc e)
begins told ds ks (stop kind) d e = absurd (cc e)
begins told ds ks (write_byte at t) d e = absurd (cc e)
begins told ds ks (write_whole at t) d e = absurd (cc e)

-- where nothing waits
pub as_it_is : (told : List Stmt) (ds : List Delayed) (ks : List Known) (a : Action)
    → one (record { is_late = false; told = told; waits = ds; known = ks }) a ≡ record { is_late = false; told = told ++ statement a ∷ []; waits = ds; known = ks }
unfolding one
as_it_is told ds ks a = refl

-- ---- what is written before a change, and then the change

simples_joined : (xs : List Simple) (s : Simple) → simples (xs ++ s ∷ []) ≡ simples xs ++ simply s ∷ []
simples_joined [] s = refl
simples_joined (x ∷ xs) s = ap (λ (acts : List Action). simply x ∷ acts) (simples_joined xs s)

-- what was to wait is no test
pub lean_written : (ks : List Known) (ds : List Delayed) → lean ks (simples (written ds)) ≡ record { now = simples (written ds); known = all_learned ks (written ds) }
lean_written ks [] = refl
lean_written ks (d ∷ ds) =
    ap (λ (l : Lean). record { now = simply (put d.name d.word) ∷ l.now; known = l.known }) (lean_written (learned ks (put d.name d.word)) ds)

lean_one : (ks : List Known) (a : Action) → lean ks (a ∷ []) ≡ lean_action ks a
lean_one ks a = ap (λ (acts : List Action). record { now = acts; known = (lean_action ks a).known }) (append-nil (lean_action ks a).now)

lean_then : (ks : List Known) (ds : List Delayed) (a : Action)
    → lean ks (simples (written ds) ++ a ∷ []) ≡ record { now = simples (written ds) ++ (lean_action (all_learned ks (written ds)) a).now; known = (lean_action (all_learned ks (written ds)) a).known }
lean_then ks ds a =
    lean_joined ks (simples (written ds)) (a ∷ [])
    ∙ ap (λ (l : Lean). followed l (λ js. lean js (a ∷ []))) (lean_written ks ds)
    ∙ ap (λ (l : Lean). record { now = simples (written ds) ++ l.now; known = l.known }) (lean_one (all_learned ks (written ds)) a)

-- what was written of `ds` and what a change then wrote are what both write
pub then_change : (told mid after : List Stmt) (ks js is : List Known) (ds : List Delayed) (a : Action)
    → mid ≡ told ++ simple_statements (written ds) → js ≡ all_learned ks (written ds)
    → after ≡ mid ++ statements (lean_action js a).now → is ≡ (lean_action js a).known
    → (after ≡ told ++ statements (lean ks (simples (written ds) ++ a ∷ [])).now) × (is ≡ (lean ks (simples (written ds) ++ a ∷ [])).known)
then_change told mid after ks js is ds a wrote noted made knows =
    let all = lean_then ks ds a in
    let x = lean_action (all_learned ks (written ds)) a in (
      made
          ∙ ap (λ (l : List Known). mid ++ statements (lean_action l a).now) noted
          ∙ ap (λ (ss : List Stmt). ss ++ statements x.now) (wrote ∙ ap (λ (ss : List Stmt). told ++ ss) (sym (statements_simples (written ds))))
          ∙ append_assoc told (statements (simples (written ds))) (statements x.now)
          ∙ ap (λ (ss : List Stmt). told ++ ss) (sym (statements_joined (simples (written ds)) x.now))
          ∙ ap (λ (l : Lean). told ++ statements l.now) (sym all),
      knows ∙ ap (λ (l : List Known). (lean_action l a).known) noted ∙ ap (λ (l : Lean). l.known) (sym all),
    )

pub then_simply : (told mid after : List Stmt) (ks js is : List Known) (ds : List Delayed) (s : Simple)
    → mid ≡ told ++ simple_statements (written ds) → js ≡ all_learned ks (written ds)
    → after ≡ mid ++ statements (lean_action js (simply s)).now → is ≡ (lean_action js (simply s)).known
    → (after ≡ told ++ statements (lean ks (simples (written ds ++ s ∷ []))).now) × (is ≡ (lean ks (simples (written ds ++ s ∷ []))).known)
then_simply told mid after ks js is ds s wrote noted made knows =
    let h = then_change told mid after ks js is ds (simply s) wrote noted made knows in
    let same = simples_joined (written ds) s in
    (h.0 ∙ ap (λ (acts : List Action). told ++ statements (lean ks acts).now) (sym same), h.1 ∙ ap (λ (acts : List Action). (lean ks acts).known) (sym same))

-- so of a step, and of a choice, where `vs` wait as they do before it
pub late_simply : (told mid after : List Stmt) (ks js is : List Known) (ds vs : List Delayed) (spoiled : Delayed → Bool) (s : Simple) → vs ≡ ds
    → mid ≡ told ++ simple_statements (written (those spoiled ds)) → js ≡ all_learned ks (written (those spoiled ds))
    → after ≡ mid ++ statements (lean_action js (simply (in_place vs s))).now → is ≡ (lean_action js (simply (in_place vs s))).known
    → (after ≡ told ++ statements (lean ks (simples (written (those spoiled ds) ++ in_place ds s ∷ []))).now) × (is ≡ (lean ks (simples (written (those spoiled ds) ++ in_place ds s ∷ []))).known)
late_simply told mid after ks js is ds vs spoiled s same wrote noted made knows =
    then_simply told mid after ks js is (those spoiled ds) (in_place ds s) wrote noted
    (made ∙ ap (λ (ws : List Delayed). mid ++ statements (lean_action js (simply (in_place ws s))).now) same)
    (knows ∙ ap (λ (ws : List Delayed). (lean_action js (simply (in_place ws s))).known) same)

pub late_choice : (told mid after : List Stmt) (ks js is : List Known) (ds vs : List Delayed) (spoiled : Delayed → Bool) (t : Term) (first second : List Simple) → vs ≡ ds
    → mid ≡ told ++ simple_statements (written (those spoiled ds)) → js ≡ all_learned ks (written (those spoiled ds))
    → after ≡ mid ++ statements (lean_action js (either (replaced vs t) (late_arm (others spoiled vs) first) (late_arm (others spoiled vs) second))).now
    → is ≡ (lean_action js (either (replaced vs t) (late_arm (others spoiled vs) first) (late_arm (others spoiled vs) second))).known
    → (after ≡ told ++ statements (lean ks (simples (written (those spoiled ds)) ++ either (replaced ds t) (late_arm (others spoiled ds) first) (late_arm (others spoiled ds) second) ∷ [])).now)
    × (is ≡ (lean ks (simples (written (those spoiled ds)) ++ either (replaced ds t) (late_arm (others spoiled ds) first) (late_arm (others spoiled ds) second) ∷ [])).known)
late_choice told mid after ks js is ds vs spoiled t first second same wrote noted made knows =
    let act = λ (ws : List Delayed). either (replaced ws t) (late_arm (others spoiled ws) first) (late_arm (others spoiled ws) second) in
    then_change told mid after ks js is (those spoiled ds) (act ds) wrote noted
    (made ∙ ap (λ (ws : List Delayed). mid ++ statements (lean_action js (act ws)).now) same)
    (knows ∙ ap (λ (ws : List Delayed). (lean_action js (act ws)).known) same)

-- ---- of two ways, the one that is taken

taken : (b : Bool) (x y : Lean) → b ≡ true → x ≡ (if b then x else y)
taken true x y e = refl
taken false x y e = absurd (cc e)

not_taken : (b : Bool) (x y : Lean) → b ≡ false → y ≡ (if b then x else y)
not_taken true x y e = absurd (cc e)
not_taken false x y e = refl

-- steps change what they change without what waits in place
changes_in_place : (ds : List Delayed) (s : Simple) (m : Name) → changes s m ≡ changes (in_place ds s) m
changes_in_place ds (put n t) m = refl
changes_in_place ds (ask n helper ts) m = refl
changes_in_place ds (tell helper ts) m = refl
changes_in_place ds (guard t most kind) m = refl
changes_in_place ds (stop kind) m = refl
changes_in_place ds (write_byte at t) m = refl
changes_in_place ds (write_whole at t) m = refl

arm_changes : (ds : List Delayed) (ss : List Simple) (m : Name) → one_changes ss m ≡ one_changes (late_arm ds ss) m
arm_changes ds [] m = refl
arm_changes ds (s ∷ ss) m =
    ap (λ (x : Bool). x || one_changes ss m) (changes_in_place ds s m)
    ∙ ap (λ (x : Bool). changes (in_place ds s) m || x) (arm_changes (others (λ d. puts s d.name) ds) ss m)

unchanged_alike : (p q : Name → Bool) (ks : List Known) → ((n : Name) → p n ≡ q n) → unchanged p ks ≡ unchanged q ks
unchanged_alike p q [] same = refl
unchanged_alike p q (k ∷ ks) same =
    ap (λ (b : Bool). if b then unchanged p ks else k ∷ unchanged p ks) (same k.name)
    ∙ ap (λ (more : List Known). if q k.name then more else k ∷ more) (unchanged_alike p q ks same)

pub second_alone : (told after : List Stmt) (ks js : List Known) (t : Term) (first second : List Simple) → is_within (bound ks t) 0 ≡ true
    → after ≡ told ++ simple_statements second → js ≡ all_learned ks second
    → (after ≡ told ++ statements (lean_action ks (either t first second)).now) × (js ≡ (lean_action ks (either t first second)).known)
second_alone told after ks js t first second never made knows =
    let e =
    taken (is_within (bound ks t) 0) (record { now = simples second; known = all_learned ks second })
    (record { now = either t first second ∷ []; known = unchanged (λ n. one_changes first n || one_changes second n) ks }) never in
    (made ∙ ap (λ (ss : List Stmt). told ++ ss) (sym (statements_simples second)) ∙ ap (λ (l : Lean). told ++ statements l.now) e, knows ∙ ap (λ (l : Lean). l.known) e)

pub either_stays : (told after : List Stmt) (ks js : List Known) (ds : List Delayed) (t : Term) (first second : List Simple) → is_within (bound ks t) 0 ≡ false
    → after ≡ told ++ statement (either t (late_arm ds first) (late_arm ds second)) ∷ [] → js ≡ unchanged (λ n. one_changes first n || one_changes second n) ks
    → (after ≡ told ++ statements (lean_action ks (either t (late_arm ds first) (late_arm ds second))).now) × (js ≡ (lean_action ks (either t (late_arm ds first) (late_arm ds second))).known)
either_stays told after ks js ds t first second ever made knows =
    let yes = late_arm ds first in
    let no = late_arm ds second in
    let e =
    not_taken (is_within (bound ks t) 0) (record { now = simples no; known = all_learned ks no })
    (record { now = either t yes no ∷ []; known = unchanged (λ n. one_changes yes n || one_changes no n) ks }) ever in (
      made ∙ ap (λ (l : Lean). told ++ statements l.now) e,
      knows
          ∙ unchanged_alike (λ n. one_changes first n || one_changes second n) (λ n. one_changes yes n || one_changes no n) ks
          (λ n. ap (λ (x : Bool). x || one_changes second n) (arm_changes ds first n) ∙ ap (λ (x : Bool). one_changes yes n || x) (arm_changes ds second n))
          ∙ ap (λ (l : Lean). l.known) e,
    )

-- ---- the same of the code, of which `vs` are the words that wait as it reads them

-- a word begins to wait, where none is held
pub among_waits : (told : List Stmt) (ds vs ws : List Delayed) (ks : List Known) (s : Simple) (o : Option Delayed) (d : Delayed) → vs ≡ ds → o ≡ begins_to_wait vs s → o ≡ Some d
    → ws ≡ without d.name ds ++ d ∷ [] → late_at told ws ks ≡ grown told ks (late_among ds s)
among_waits told ds vs ws ks s o d same asked is after =
    let e : begins_to_wait ds s ≡ Some d = ap (λ (x : List Delayed). begins_to_wait x s) (sym same) ∙ sym asked ∙ is in
    ap (λ (x : List Delayed). late_at told x ks) after ∙ sym (begins told ds ks s d e)

-- where `x` is what is written and what waits then
pub grew : (told after : List Stmt) (ws : List Delayed) (ks js : List Known) (x : Late) → after ≡ told ++ statements (lean ks x.now).now → ws ≡ x.later → js ≡ (lean ks x.now).known
    → late_at after ws js ≡ grown told ks x
grew told after ws ks js x made waits knows =
    ap (λ (y : List Stmt). late_at y ws js) made
    ∙ ap (λ (y : List Delayed). late_at (told ++ statements (lean ks x.now).now) y js) waits
    ∙ ap (λ (y : List Known). late_at (told ++ statements (lean ks x.now).now) x.later y) knows

pub act_at_once : (late : Bool) (told after : List Stmt) (ds ws : List Delayed) (ks js : List Known) (a : Action) → late ≡ false → after ≡ told ++ statement a ∷ [] → ws ≡ ds → js ≡ ks
    → record { is_late = late; told = after; waits = ws; known = js } ≡ one (record { is_late = late; told = told; waits = ds; known = ks }) a
act_at_once late told after ds ws ks js a is_so made waits knows =
    subst (λ (x : Bool). record { is_late = x; told = after; waits = ws; known = js } ≡ one (record { is_late = x; told = told; waits = ds; known = ks }) a) (sym is_so)
    (ap (λ (x : List Stmt). record { is_late = false; told = x; waits = ws; known = js }) made
    ∙ ap (λ (x : List Delayed). record { is_late = false; told = told ++ statement a ∷ []; waits = x; known = js }) waits
    ∙ ap (λ (x : List Known). record { is_late = false; told = told ++ statement a ∷ []; waits = ds; known = x }) knows
    ∙ sym (as_it_is told ds ks a))

pub act_late : (late : Bool) (told after : List Stmt) (ds ws : List Delayed) (ks js : List Known) (a : Action) (new : Bool) → late ≡ true → new ≡ late
    → late_at after ws js ≡ after_late (late_at told ds ks) a
    → record { is_late = new; told = after; waits = ws; known = js } ≡ one (record { is_late = late; told = told; waits = ds; known = ks }) a
unfolding one
act_late late told after ds ws ks js a new is_so stays made =
    ap (λ (x : Bool). record { is_late = x; told = after; waits = ws; known = js }) (stays ∙ is_so)
    ∙ subst (λ (x : Bool). late_at after ws js ≡ one (record { is_late = x; told = told; waits = ds; known = ks }) a) (sym is_so) made

-- an arm in which nothing waits
pub nothing_in_arm : (ss : List Simple) → late_arm [] ss ≡ ss
nothing_in_arm [] = refl
nothing_in_arm (s ∷ ss) = ap (λ (x : Simple). x ∷ late_arm [] ss) (nothing_in_place s) ∙ ap (λ (more : List Simple). s ∷ more) (nothing_in_arm ss)

pub either_is : (t : Term) (first second : List Simple) → statement (either (replaced [] t) (late_arm [] first) (late_arm [] second)) ≡ statement (either t first second)
either_is t first second =
    ap (λ (x : Term). statement (either x (late_arm [] first) (late_arm [] second))) (nothing_waits t)
    ∙ ap (λ (ss : List Simple). statement (either t ss (late_arm [] second))) (nothing_in_arm first)
    ∙ ap (λ (ss : List Simple). statement (either t first ss)) (nothing_in_arm second)

pub both_ok : {X E : Type 0} (r : Result X E) (P Q R : X → Type 0) → ((x : X) → P x → Q x → R x) → IfOk r P → IfOk r Q → IfOk r R
both_ok (Ok x) P Q R f p q = f x p q
both_ok (Err e) P Q R f p q = p

pub all_ok : {X E : Type 0} (r : Result X E) (P Q S R : X → Type 0) → ((x : X) → P x → Q x → S x → R x) → IfOk r P → IfOk r Q → IfOk r S → IfOk r R
all_ok (Ok x) P Q S R f p q s = f x p q s
all_ok (Err e) P Q S R f p q s = p
