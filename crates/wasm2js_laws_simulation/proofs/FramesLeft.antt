-- How the body of a function is left: the caller goes on with its own variables and what was given back.
use Rattle.std.proofs.Common.{◌≡◌, ℕ, zero, suc, ◌<◌, ◌≤◌, Bool, List, [], ◌∷◌, ◌++◌, length, take, Option, Some, None, refl, sym, ap, ◌∙◌, subst, arith}
use Rattle.std.specs.Prelude.{slice_get}
use Rattle.sem_words.specs.declared.word.Word.{Word}
use Rattle.sem_words.specs.declared.word.Word.TheVariants.{W32}
use Rattle.sem_words.specs.declared.js_value.JsValue.{JsValue}
use Rattle.sem_words.specs.declared.js_value.JsValue.TheVariants.{Undef}
use Rattle.sem_words.specs.JsValues.{to_uint32_of}
use Rattle.session_lang.specs.Observation.{EventPlain}
use Rattle.wasm_lang.specs.declared.types.ValType.{ValType}
use Rattle.wasm_lang.specs.declared.types.ValType.TheVariants.{I32, I64}
use Rattle.wasm_lang_valid.specs.Typing.{listed}
use Rattle.wasm_lang_exec.specs.Code.{Trees, ε}
use Rattle.wasm_lang_exec.specs.Reductions.{top_of, arity_of}
use Rattle.wasm_laws_drive.specs.Drive.{State, Outcome, Branch, Leave, at, onward}
use Rattle.wasm_laws_drive.specs.Equations.{take_values}
use Rattle.wasm_laws_drive.specs.Contexts.{Surrounding, in_frame, closed}
use Rattle.wasm_laws_drive.specs.Steps.{to_caller}
use Rattle.wasm_laws_drive.proofs.Stepping.{end_of_frame, branch_out_of_frame, return_out_of_frame}
use Rattle.asm_lang.specs.Modules.{Stmt}
use Rattle.asm_lang_exec.specs.Runs.{Place, Part, and_then, back_to}
use Rattle.asm_lang_exec.specs.Meaning.{Completion, broken, continued, returned, function_end}
use Rattle.asm_laws_continuation.specs.Following.{exec_all_to, unless_left_to}
use Rattle.wasm2js_translation.specs.Names.{numbered, global_low, global_high}
use Rattle.wasm2js_translation.specs.Words.{stmts_in}
use Rattle.wasm2js_translation.specs.Bodies.{past, again, out, label_of, leave_with}
use Rattle.wasm2js_laws_places.specs.Following.{Rest}
use Rattle.wasm2js_laws_places.proofs.Paced.{same_is_followed}
use Rattle.wasm2js_laws_places.specs.Straight.{Words}
use Rattle.wasm2js_laws_places.specs.Places.{word_at, operands, globals_from, globals_of, Setting, store_of, World, Stays}
use Rattle.wasm2js_laws_preservation.specs.ControlControl.{Function, IsFair, Match, Inside, state_at, sight, code_sight, IsFollowed, AreNested, Gives, EndsWith, Exits}
use Rattle.wasm2js_laws_preservation.proofs.ControlStepping.{free_step, no_step}
use Rattle.wasm2js_laws_preservation.proofs.InstructionsEnding.{counts_alike}
use Rattle.wasm2js_laws_preservation.proofs.BranchesJumps.{leave_followed}
use Rattle.wasm2js_laws_simulation.specs.CallsCalled.{given_back, seen_with, IsReturn}

-- ---- places that differ in the variables of a function alone

globals_same : (g : ℕ) (ts : List ValType) (p q : Place) → q.globals ≡ p.globals → globals_from g ts (word_at q) ≡ globals_from g ts (word_at p)
globals_same g [] p q h = refl
globals_same g (I32 ∷ ts) p q h =
    let e : word_at q (numbered global_low g) ≡ word_at p (numbered global_low g) = rw h refl in
    let k = globals_same (suc g) ts p q h in
    cc (e, k)
globals_same g (I64 ∷ ts) p q h =
    let e : word_at q (numbered global_low g) ≡ word_at p (numbered global_low g) = rw h refl in
    let u : word_at q (numbered global_high g) ≡ word_at p (numbered global_high g) = rw h refl in
    let k = globals_same (suc g) ts p q h in
    cc (e, u, k)

pub store_same : (s : Setting) (p q : Place) (w : List EventPlain) → q.globals ≡ p.globals → q.heap ≡ p.heap → q.replies ≡ p.replies → store_of s q w ≡ store_of s p w
store_same s p q w g h r =
    ap (λ gs. record { memory = take s.bytes q.heap; globals = gs; table = s.table; events = w; replies = q.replies }) (globals_same 0 s.kinds p q g)
    ∙ ap (λ bs. record { memory = take s.bytes bs; globals = globals_of s.kinds (word_at p); table = s.table; events = w; replies = q.replies }) h
    ∙ ap (λ rs. record { memory = take s.bytes p.heap; globals = globals_of s.kinds (word_at p); table = s.table; events = w; replies = rs }) r

-- ---- what is given back

arity_is : (r : Option ValType) (ts : List ValType) → listed r ≡ ts → length ts ≡ arity_of r
arity_is None ts h = ap length (sym h)
arity_is (Some t) ts h = ap length (sym h)

top_given : (r : Option ValType) (v : JsValue) (q : Place) (values : List Word) → Gives r v q values → top_of (arity_of r) values ≡ Some (given_back r v q)
top_given None v q values h = refl
top_given (Some I32) v q values h = h
top_given (Some I64) v q values h = h

-- the topmost value alone
abbrev first_of : List Word → List Word
first_of [] = []
first_of (v ∷ values) = v ∷ []

first_given : (t : ValType) (v : JsValue) (q : Place) (values : List Word) → Gives (Some t) v q values → first_of values ≡ given_back (Some t) v q
first_given t v q [] h = let e : None ≡ Some (given_back (Some t) v q) = top_given (Some t) v q [] h in absurd (cc e)
first_given t v q (x ∷ values) h = let e : Some (x ∷ []) ≡ Some (given_back (Some t) v q) = top_given (Some t) v q (x ∷ values) h in cc e

module _ (f : Function) (fair : IsFair f) (few : ℕ) (r : Option ValType) (types : List ValType) (results : listed r ≡ types) (around : List Surrounding) (code : Trees) (below locals : List Word)
    (p : Place) (next : JsValue → Part (Unit {0})) (most : ℕ) (le : few ≤ most) (returns : IsReturn f most r around code below locals p next) where
  -- the place in the caller
  abbrev back_at : Place → Place
  back_at q = record q { locals = p.locals }

  abbrev frame : Surrounding
  frame = in_frame below (length types) code locals

  -- what comes after the body
  abbrev pub ends : Completion → Part (Unit {0})
  ends c = and_then (function_end c) (λ v. and_then (back_to p.locals v) next)

  abbrev resumed : List Word → Place → List EventPlain → Rest
  resumed values q w = seen_with f around (onward f.home code) (values ++ below) locals q w

  same_given : (r : Option ValType) (v : JsValue) (q : Place) → given_back r v q ≡ given_back r v (back_at q)
  same_given None v q = refl
  same_given (Some I32) v q = refl
  same_given (Some I64) v q = refl

  back_world : (q : Place) (w : List EventPlain) → World f.setting (Match f) w q → World f.setting (Match f) w (back_at q)
  back_world q w h = record { match = h.match; names = h.names; is_heap = h.is_heap; past = h.past; replies = h.replies }

  goes_back : (q : Place) (w : List EventPlain) (v : JsValue) → Inside f few w q → IsFollowed f q (resumed (given_back r v q) q w) (next v (back_at q))
  goes_back q w v i =
      let units = i.units in
      counts_alike f q (back_at q) (resumed (given_back r v q) q w) (next v (back_at q)) refl refl
      (same_is_followed f.by f.pace f.unpaid (back_at q) (resumed (given_back r v q) q w) (resumed (given_back r v (back_at q)) (back_at q) w) (next v (back_at q))
      (λ n.
      ap (λ vs. resumed vs q w n) (same_given r v q)
      ∙ ap (λ s. f.watch (closed f.home around (onward f.home code (at (given_back r v (back_at q) ++ below) locals s n)))) (sym (store_same f.setting q (back_at q) w refl refl refl)))
      (returns (back_at q) w v (omega (arith, units, le)) refl (back_world q w i.world)))

  -- ---- by a branch or a return

  leaving : (go : State → Outcome) (q : Place) (w : List EventPlain) (v : JsValue) (values : List Word) → Inside f few w q → Gives r v q values
      → ((n : ℕ) → closed f.home (frame ∷ around) (go (state_at f values q w n)) ≡ take_values (top_of (length types) values) (state_at f values q w n) (λ top. to_caller f.home around below code locals top (state_at f values q w n)))
      → IsFollowed f q (sight f (frame ∷ around) go values q w) (ends (returned v) q)
  leaving go q w v values i g is =
      let tops : top_of (length types) values ≡ Some (given_back r v q) = ap (λ n. top_of n values) (arity_is r types results) ∙ top_given r v q values g in
      no_step f fair q (sight f (frame ∷ around) go values q w) (resumed (given_back r v q) q w) (next v (back_at q))
      (λ n.
      ap f.watch (is n)
      ∙ ap (λ o. f.watch (take_values o (state_at f values q w n) (λ top. to_caller f.home around below code locals top (state_at f values q w n)))) tops)
      (goes_back q w v i)

  -- ---- at its end

  -- by a value that may have others below it
  ended_with : (values : List Word) (q : Place) (w : List EventPlain) (v : JsValue) → Inside f few w q → values ≡ given_back r v q
      → IsFollowed f q (sight f (frame ∷ around) (onward f.home ε) values q w) (next v (back_at q))
  ended_with values q w v i is =
      free_step f fair few w q values (λ t. to_caller f.home around below code locals t.values t) (sight f (frame ∷ around) (onward f.home ε) values q w) (resumed (given_back r v q) q w) (next v (back_at q)) i
      (λ n. ap f.watch (end_of_frame f.home around below (length types) code locals (state_at f values q w n)))
      (λ n. ap (λ vs. resumed vs q w n) is) (goes_back q w v i)

-- a return of the result behind all code, also where its end gives the result itself
abbrev pub last_of : Option ValType → List Stmt
last_of None = []
last_of (Some t) = leave_with (Some t) 0

module _ (f : Function) (fair : IsFair f) (few : ℕ) (types : List ValType) (around : List Surrounding) (code : Trees) (below locals : List Word)
    (p : Place) (next : JsValue → Part (Unit {0})) (most : ℕ) (le : few ≤ most) where
  abbrev after_body : (r : Option ValType) → listed r ≡ types → IsReturn f most r around code below locals p next → Completion → Part (Unit {0})
  after_body r results returns = ends f fair few r types results around code below locals p next most le returns

  abbrev closes : (r : Option ValType) → listed r ≡ types → IsReturn f most r around code below locals p next → Part (Unit {0})
  closes r results returns = exec_all_to f.calls f.scope f.bound (stmts_in (last_of r)) (after_body r results returns)

  at_end : (r : Option ValType) (results : listed r ≡ types) (returns : IsReturn f most r around code below locals p next) (q : Place) (w : List EventPlain) → Inside f few w q
      → IsFollowed f q (code_sight f (in_frame below (length types) code locals ∷ around) ε 0 (listed r) q w) (closes r results returns q)
  at_end None results returns q w i = ended_with f fair few None types results around code below locals p next most le returns [] q w Undef i refl
  at_end (Some t) results returns q w i =
      let go : State → Outcome = λ s. onward f.home ε (record s { values = first_of s.values }) in
      let round : List Surrounding = in_frame below (length types) code locals ∷ around in
      leave_followed f fair few round (after_body (Some t) results returns) (Some t) go 0 [] q w i
      (λ q w v values i g.
      no_step f fair q (sight f round go values q w) (sight f round (onward f.home ε) (first_of values) q w) (after_body (Some t) results returns (returned v) q) (λ n. refl)
      (ended_with f fair few (Some t) types results around code below locals p next most le returns (first_of values) q w v i (first_given t v q values g)))

-- ---- all exits of a body

pub nested_out : (r : Option ValType) → AreNested (out r ∷ []) 0
nested_out r = record { some = omega arith; past_below = below; past_within = within; again_below = below'; again_within = within' }
  where
    below : (k base : ℕ) (t : Option ValType) → slice_get (out r ∷ []) k ≡ Some (past base t) → base ≤ 0
    below zero base t e = absurd (cc e)
    below (suc k) base t e = absurd (cc e)

    within : (k base : ℕ) (t : Option ValType) → slice_get (out r ∷ []) k ≡ Some (past base t) → suc k < length (out r ∷ [])
    within zero base t e = absurd (cc e)
    within (suc k) base t e = absurd (cc e)

    below' : (k base : ℕ) → slice_get (out r ∷ []) k ≡ Some (again base) → base ≤ 0
    below' zero base e = absurd (cc e)
    below' (suc k) base e = absurd (cc e)

    within' : (k base : ℕ) → slice_get (out r ∷ []) k ≡ Some (again base) → suc k < length (out r ∷ [])
    within' zero base e = absurd (cc e)
    within' (suc k) base e = absurd (cc e)

module _ (f : Function) (fair : IsFair f) (few : ℕ) (types : List ValType) (results : listed f.context.returns ≡ types) (around : List Surrounding) (code : Trees) (below locals : List Word)
    (p : Place) (next : JsValue → Part (Unit {0})) (most : ℕ) (le : few ≤ most) (returns : IsReturn f most f.context.returns around code below locals p next) where
  abbrev r : Option ValType
  r = f.context.returns

  abbrev round : List Surrounding
  round = in_frame below (length types) code locals ∷ around

  abbrev pub then_ends : Completion → Part (Unit {0})
  then_ends = ends f fair few r types results around code below locals p next most le returns

  abbrev pub then_closes : Completion → Part (Unit {0})
  then_closes c = unless_left_to c (exec_all_to f.calls f.scope f.bound (stmts_in (last_of r))) then_ends

  pub body_exits : (reached : Bool) (before : Words) → Exits f few (out r ∷ []) 0 (listed r) reached round before then_closes
  body_exits reached before = record {
    on = λ e q w i s. at_end f fair few types around code below locals p next most le r results returns q w i;
    breaks = breaks;
    turns = turns;
    outs = outs;
    leaves = λ q w v values i g.
        leaving f fair few r types results around code below locals p next most le returns Leave q w v values i g
        (λ n. return_out_of_frame f.home around below (length types) code locals (state_at f values q w n));
    ends = answers;
  }
    where
      breaks : (k base : ℕ) (t : Option ValType) → slice_get (out r ∷ []) k ≡ Some (past base t) → (q : Place) (w : List EventPlain) (values : List Word) → Inside f few w q
          → Stays base before (word_at q) → top_of (arity_of t) values ≡ Some (operands base (listed t) (word_at q))
          → IsFollowed f q (sight f round (Branch k) values q w) (then_closes (broken (Some (label_of (out r ∷ []) k))) q)
      breaks zero base t e q w values i s tops = absurd (cc e)
      breaks (suc k) base t e q w values i s tops = absurd (cc e)

      turns : (k base : ℕ) → slice_get (out r ∷ []) k ≡ Some (again base) → (q : Place) (w : List EventPlain) (values : List Word) → Inside f few w q
          → Stays base before (word_at q) → IsFollowed f q (sight f round (Branch k) values q w) (then_closes (continued (Some (label_of (out r ∷ []) k))) q)
      turns zero base e q w values i s = absurd (cc e)
      turns (suc k) base e q w values i s = absurd (cc e)

      outs : (k : ℕ) (t : Option ValType) → slice_get (out r ∷ []) k ≡ Some (out t) → (q : Place) (w : List EventPlain) (v : JsValue) (values : List Word) → Inside f few w q
          → Gives t v q values → IsFollowed f q (sight f round (Branch k) values q w) (then_closes (returned v) q)
      outs zero t e q w v values i g =
          let same : r ≡ t = cc e in
          leaving f fair few r types results around code below locals p next most le returns (Branch 0) q w v values i (subst (λ t. Gives t v q values) (sym same) g)
          (λ n. branch_out_of_frame f.home around below (length types) code locals (state_at f values q w n))
      outs (suc k) t e q w v values i g = absurd (cc e)

      answers : out r ∷ [] ≡ out (Some I32) ∷ [] → EndsWith f few (listed r) round then_closes
      answers e =
          let is : r ≡ Some I32 = cc e in
          record {
            types = ap listed is;
            gives = λ q w v i.
                ended_with f fair few r types results around code below locals p next most le returns (W32 (to_uint32_of v) ∷ []) q w v i (ap (λ r. given_back r v q) (sym is));
          }
