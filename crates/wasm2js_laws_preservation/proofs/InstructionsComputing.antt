-- An instruction that computes, reads or writes, and its code.
use Rattle.std.proofs.Common.{◌≡◌, ℕ, ◌≤◌, true, false, List, ◌∷◌, ◌++◌, drop, refl, sym, ap, ◌∙◌, subst, arith}
use Rattle.std.proofs.Math.Path.{fun_ext}
use Rattle.std.specs.List.{AllByRecursion}
use Rattle.sem_words.specs.declared.word.Word.{Word}
use Rattle.session_lang.specs.Imports.{Replies}
use Rattle.sem_words.specs.declared.word.Word.TheVariants.{W32, W64}
use Rattle.session_lang.specs.Observation.{EventPlain, trapped, ended}
use Rattle.session_lang.specs.Simulation.{IsSameAs}
use Rattle.wasm_lang.specs.declared.types.ValType.{ValType}
use Rattle.wasm_lang.specs.Instructions.{Plain, const32, const64}
use Rattle.wasm_lang_exec.specs.Code.{plain, Trees, ◌▹◌}
use Rattle.wasm_lang_exec.specs.Store.{Store}
use Rattle.wasm_lang_exec.specs.Plain as machine
use Rattle.wasm_lang_exec.specs.Plain.{Effect, do_plain}
use Rattle.wasm_laws_drive.specs.Drive.{State, Outcome as MachineOutcome, at}
use Rattle.wasm_laws_drive.specs.Equations.{pay, is_constant, after}
use Rattle.wasm_laws_drive.specs.Contexts.{Surrounding, closed}
use Rattle.wasm_laws_drive.specs.Steps.{goes_with}
use Rattle.wasm_laws_drive.proofs.Stepping.{plain_step}
use Rattle.wasm_laws_drive.proofs.Instructions.{narrow_constant, wide_constant}
use Rattle.asm_lang_exec.specs.Runs as runs
use Rattle.asm_lang_exec.specs.Runs.{Place, Run, Part, spent, wrong}
use Rattle.asm_lang_exec.specs.Values.{Calls}
use Rattle.asm_lang_exec.specs.Meaning.{Completion, normal, exec_all}
use Rattle.asm_laws_continuation.specs.Laws.{AllFollow}
use Rattle.asm_laws_continuation.specs.Following.{unless_left_to}
use Rattle.wasm2js_translation.specs.Words.{Action, stmts_in, statements}
use Rattle.wasm2js_translation.specs.Delays.{Delayed, Late, late, standing}
use Rattle.wasm2js_translation.specs.Known.{Known, Lean, lean}
use Rattle.wasm2js_translation.specs.Bodies.{Aim, after_plain, stmts_of}
use Rattle.wasm2js_laws_terms.specs.Sound.{AreSoundActions}
use Rattle.wasm2js_laws_places.specs.Following.{Rest}
use Rattle.wasm2js_laws_places.proofs.Paced.{stands_still}
use Rattle.wasm2js_laws_places.specs.Straight.{Words, Helping, Outcome, goes, stops, run_actions, actions_units}
use Rattle.wasm2js_laws_places.specs.Places.{word_at, operands, locals_of, store_with, store_of, IsHeap, IsReply, Stays}
use Rattle.wasm2js_laws_places.specs.Delaying.{seen, AreWaiting, IsSame}
use Rattle.wasm2js_laws_places.specs.Knowing.{AreKnown}
use Rattle.wasm2js_laws_typed.specs.Waiting.{AreSoundWaiting}
use Rattle.wasm2js_laws_places.specs.Helped.{IsOn, IsTrap, IsShort, Does, AreHelpers}
use Rattle.wasm2js_laws_actions.proofs.Doing.{apart_kept}
use Rattle.wasm2js_laws_actions.proofs.Executed.{actions_are_done, actions_are_followed}
use Rattle.wasm2js_laws_preservation.specs.ControlControl.{Function, IsFair, MayStand, Inside, MayWait, seen_at, state_at, late_sight, IsFollowed, statements_to, IsKeptWhile, IsKeptLate}
use Rattle.wasm2js_laws_typed.specs.Laws.{IsFormed}
use Rattle.wasm2js_laws_preservation.specs.ControlLaws.{IsKeptFirst}
use Rattle.wasm2js_laws_places.proofs.Delayed.{late_is_alike, standing_is_seen}
use Rattle.wasm2js_laws_places.proofs.KnownSteps.{KnownAfter}
use Rattle.wasm2js_laws_places.proofs.Knowing.{IsLean, code_lean}
use Rattle.wasm2js_laws_typed.proofs.LateSound.{late_sound, standing_sound}
use Rattle.wasm2js_laws_typed.proofs.LeanSound.{lean_sound}
use Rattle.wasm2js_laws_actions.proofs.LateAsking.{late_asks_helpers}
use Rattle.wasm2js_laws_actions.proofs.LeanAsking.{lean_asks_helpers}
use Rattle.wasm2js_laws_preservation.proofs.ControlSeen.{seen_are_words, locals_seen, store_seen}
use Rattle.wasm2js_laws_preservation.proofs.ControlStepping.{appended, stays_on, stands, step, no_step}
use Rattle.wasm2js_laws_preservation.specs.InstructionsPlain.{IsAlike, PlainIs, code_amid}
use Rattle.wasm2js_laws_preservation.specs.InstructionsLaws.{PlainsAreKept}
use Rattle.wasm2js_laws_preservation.proofs.InstructionsAmid.{IsAmid, numbers_seen, plain_amid}
use Rattle.wasm2js_laws_preservation.proofs.InstructionsSound.{rest_stands, code_sound}
use Rattle.wasm2js_laws_preservation.proofs.InstructionsEnding.{counts_alike, are_words, trap_same}

-- ---- a place after straight code

pub inside_on : (f : Function) (most : ℕ) (w : List EventPlain) (words : Words) (heap : List ℕ) (u : ℕ) (p q : Place) → IsOn f.setting.bytes words heap u p q
    → drop f.setting.bytes heap ≡ drop f.setting.bytes p.heap → Inside f most w p → Inside f most w q
inside_on f most w words heap u p q on same i = record {
  world = record {
    match = i.world.match ∙ ap f.target_shown (sym on.events);
    names = on.globals ∙ i.world.names;
    is_heap = subst (IsHeap f.setting.bytes) (sym on.has_heap) on.is_heap;
    past = ap (drop f.setting.bytes) on.has_heap ∙ same ∙ i.world.past;
    replies = subst (λ (r : Replies). AllByRecursion (IsReply f.setting.bytes) r.left) (sym on.replies) i.world.replies;
  };
  names = on.locals ∙ i.names;
  apart = apart_kept p q on.locals on.globals i.apart;
  units = let a = on.left in let b = i.units in omega (arith, a, b);
}

-- the state there, by its words and its heap
pub state_on : (f : Function) (words : Words) (heap : List ℕ) (u : ℕ) (p q : Place) (values : List Word) (w : List EventPlain) (n : ℕ) → IsOn f.setting.bytes words heap u p q
    → at values (locals_of f.context.locals words) (store_with f.setting words heap p.replies w) n ≡ state_at f values q w n
state_on f words heap u p q values w n on =
    let same : words ≡ word_at q = sym (fun_ext on.has_words) in
    ap (λ (v : Words). at values (locals_of f.context.locals v) (store_with f.setting v heap p.replies w) n) same
    ∙ ap (λ h. at values (locals_of f.context.locals (word_at q)) (store_with f.setting (word_at q) h p.replies w) n) (sym on.has_heap)
    ∙ ap (λ r. at values (locals_of f.context.locals (word_at q)) (store_with f.setting (word_at q) q.heap r w) n) (sym on.replies)

-- what straight code comes to, where these words wait at its end and count as written
abbrev outcome_seen : List Delayed → Outcome → Outcome
outcome_seen ds (goes words heap) = goes (seen ds words heap) heap
outcome_seen ds (stops kind heap) = stops kind heap

seen_is : (ds : List Delayed) (o o' : Outcome) → IsSame ds o o' → o ≡ outcome_seen ds o'
seen_is ds (goes words heap) (goes words' heap') h = let e = h.0 in let g = h.1 in cc (e, g)
seen_is ds (goes words heap) (stops kind heap') h = absurd h
seen_is ds (stops kind heap) (goes words heap') h = absurd h
seen_is ds (stops kind heap) (stops kind' heap') h = let e = h.0 in let g = h.1 in cc (e, g)

-- from a place with these words to those that wait after the code, where this is known
module _ (f : Function) (fair : IsFair f) (helping : Helping) (most b : ℕ) (us : List ValType) (code : Trees) (ls : List Aim) (around : List Surrounding) (before words : Words)
    (next : Completion → Part (Unit {0})) (rest : IsKeptLate f most code ls b us around before next) (later : List Delayed) (may : MayWait f later) (ks : List Known)
    (p : Place) (w : List EventPlain) (i : Inside f most w p) (stays : Stays b before words) where
  -- what may be read still
  abbrev ds : List Delayed
  ds = standing b us later

  may_stand : MayWait f ds
  may_stand = record { waiting = (standing_is_seen b us later (word_at p) p.heap may.waiting).0; sound = standing_sound f.scope b us later may.sound }

  abbrev then_rest : Completion → Part (Unit {0})
  then_rest d = unless_left_to d (statements_to f code ls b us ds ks) next

  -- the rest, from the place after the code
  on_from : (words' : Words) (heap : List ℕ) (u : ℕ) (q : Place) → IsOn f.setting.bytes words' heap u p q → AreKnown ks words' → Stays b words (seen later words' heap)
      → drop f.setting.bytes heap ≡ drop f.setting.bytes p.heap
      → IsFollowed f q (late_sight f around code b us ds q w) (then_rest normal q)
  on_from words' heap u q on known s same =
      let z : Words = seen later words' heap in
      let stood = (standing_is_seen b us later words' heap may.waiting).2 in
      let kept = stays_on b b b before z (seen ds words' heap) (omega arith) (omega arith) (stays_on b b b before words z (omega arith) (omega arith) stays s) stood in
      rest ds ks may_stand q w (inside_on f most w words' heap u p q on same i) (subst (λ (v : Words). AreKnown ks v) (sym (fun_ext on.has_words)) known)
      (subst (λ heap. Stays b before (seen ds (word_at q) heap)) (sym on.has_heap) (subst (λ (v : Words). Stays b before (seen ds v heap)) (sym (fun_ext on.has_words)) kept))

  -- the operands that stand there
  operands_on : (words' : Words) (heap : List ℕ) (u : ℕ) (q : Place) → IsOn f.setting.bytes words' heap u p q → operands b us (seen later words' heap) ≡ operands b us (seen_at ds q)
  operands_on words' heap u q on =
      sym (standing_is_seen b us later words' heap may.waiting).1
      ∙ ap (λ (v : Words). operands b us (seen ds v heap)) (sym (fun_ext on.has_words))
      ∙ ap (λ heap. operands b us (seen ds (word_at q) heap)) (sym on.has_heap)

  -- the state that an effect leaves is that of the place after the code
  left_at : (values locals : List Word) (store : Store) (words' : Words) (heap : List ℕ) (u : ℕ) (q : Place) → IsOn f.setting.bytes words' heap u p q → values ≡ operands b us (seen later words' heap)
      → locals ≡ locals_of f.context.locals (seen later words' heap) → store ≡ store_with f.setting (seen later words' heap) heap p.replies w
      → (n : ℕ) → f.watch (goes_with f.home around code (record { values = values; locals = locals; store = store; left = n })) ≡ late_sight f around code b us ds q w n
  left_at values locals store words' heap u q on a c d n =
      let there : List Word = operands b us (seen_at ds q) in
      ap (λ vs. f.watch (goes_with f.home around code (record { values = vs; locals = locals; store = store; left = n }))) (a ∙ operands_on words' heap u q on)
      ∙ ap (λ vs. f.watch (goes_with f.home around code (record { values = there; locals = vs; store = store; left = n }))) (c ∙ locals_seen f later words' heap p.replies w may.waiting)
      ∙ ap (λ s. f.watch (goes_with f.home around code (record { values = there; locals = locals_of f.context.locals words'; store = s; left = n }))) (d ∙ store_seen f later words' heap p.replies w may.waiting)
      ∙ ap (λ t. f.watch (goes_with f.home around code t)) (state_on f words' heap u p q there w n on)

  -- ---- the cases of an effect, of what the code comes to, and of a run of its statements

  module _ (values : List Word) (go : State → MachineOutcome) (r : Rest) (starts : (n : ℕ) → r n ≡ f.watch (pay (state_at f values p w n) go)) where
    out_of_units : (u : ℕ) (q : Place) → u ≤ f.pace → IsShort u p q → IsFollowed f p r (spent q)
    out_of_units u q le x = stands_still f.by f.pace f.unpaid u p q r le x.few x.events (stands f fair most w p values go r i starts)

    abbrev Effects : Effect → Type 0
    Effects e = (n : ℕ) → f.watch (go (state_at f values p w n)) ≡ f.watch (after e (state_at f values p w n) (goes_with f.home around code))

    paid_case : (e : Effect) (o : Outcome) (run : Run Completion) (u : ℕ) → u ≤ f.pace → Effects e → IsAlike f helping b us words p.heap p.replies w e (outcome_seen later o) → KnownAfter ks o
        → Does f.setting.bytes o u p run → IsFollowed f p r (runs.after run then_rest)
    paid_case (machine.goes vs lo st) (goes words' heap) (runs.goes d q) u le on a known x =
        let left = x.1.left in
        subst (λ d. IsFollowed f p r (then_rest d q)) (sym x.0)
        (step f fair most w p q values go r (late_sight f around code b us ds q w) (then_rest normal q) i starts u le (sym left) x.1.events
        (λ n. on n ∙ left_at vs lo st words' heap u q x.1 a.0 a.1 a.2 n) (on_from words' heap u q x.1 known a.3 a.4))
    paid_case (machine.goes vs lo st) (goes words' heap) (runs.stops e q) u le on a known x = absurd x
    paid_case (machine.goes vs lo st) (goes words' heap) (spent q) u le on a known x = out_of_units u q le x
    paid_case (machine.goes vs lo st) (goes words' heap) wrong u le on a known x = tt
    paid_case (machine.goes vs lo st) (stops k heap) run u le on a known x = absurd a
    paid_case (machine.traps kind) (goes words' heap) run u le on a known x = absurd a
    paid_case (machine.traps kind) (stops k heap) (runs.goes d q) u le on a known x = absurd x
    paid_case (machine.traps kind) (stops k heap) (runs.stops e q) u le on a known x = record {
      cost = 1;
      same = subst (λ o. IsSameAs f.by o (ended q.events e q.heap)) (sym (starts 1 ∙ on 0 ∙ fair.ended (trapped kind) (store_of f.setting p w)))
          (trap_same f fair most w p i kind k e q a.0 (subst (λ h. IsTrap k h p e q) a.1 x));
    }
    paid_case (machine.traps kind) (stops k heap) (spent q) u le on a known x = out_of_units u q le x
    paid_case (machine.traps kind) (stops k heap) wrong u le on a known x = tt
    paid_case machine.sticks (goes words' heap) run u le on a known x = absurd a
    paid_case machine.sticks (stops k heap) run u le on a known x = absurd a

  -- a constant
  free_case : (r : Rest) (vs lo : List Word) (st : Store) (o : Outcome) (run : Run Completion) (u : ℕ) → u ≡ 0
      → ((n : ℕ) → r n ≡ f.watch (goes_with f.home around code (record { values = vs; locals = lo; store = st; left = n })))
      → IsAlike f helping b us words p.heap p.replies w (machine.goes vs lo st) (outcome_seen later o) → KnownAfter ks o → Does f.setting.bytes o u p run → IsFollowed f p r (runs.after run then_rest)
  free_case r vs lo st (goes words' heap) (runs.goes d q) u none on a known x =
      let left = x.1.left in
      subst (λ d. IsFollowed f p r (then_rest d q)) (sym x.0)
      (counts_alike f p q r (then_rest normal q) (omega (arith, left, none)) x.1.events
      (no_step f fair q r (late_sight f around code b us ds q w) (then_rest normal q) (λ n. on n ∙ left_at vs lo st words' heap u q x.1 a.0 a.1 a.2 n) (on_from words' heap u q x.1 known a.3 a.4)))
  free_case r vs lo st (goes words' heap) (runs.stops e q) u none on a known x = absurd x
  free_case r vs lo st (goes words' heap) (spent q) u none on a known x = let few = x.few in absurd (omega (arith, few, none))
  free_case r vs lo st (goes words' heap) wrong u none on a known x = tt
  free_case r vs lo st (stops k heap) run u none on a known x = absurd a

-- ---- the instruction in its code

module _ (f : Function) (fair : IsFair f) (calls : Calls) (follow : AllFollow calls f.calls) (helping : Helping) (helpers : AreHelpers f.scope calls f.bound f.setting.bytes helping)
    (ins : Plain) (most : ℕ) (code : Trees) (ls : List Aim) (b : ℕ) (ts us : List ValType) (ds : List Delayed) (ks : List Known) (around : List Surrounding) (before : Words) (next : Completion → Part (Unit {0}))
    (small : most ≤ f.bound) (is : IsAmid f helping ds ins b ts us) (sound : AreSoundActions f.scope (code_amid f helping ds ins b ts)) (may : MayWait f ds) (rest : IsKeptLate f most code ls b us around before next)
    (p : Place) (w : List EventPlain) (i : Inside f most w p) (known : AreKnown ks (word_at p)) (stays : Stays b before (seen_at ds p)) where
  -- the types afterwards, as the translation follows them
  abbrev then_types : List ValType
  then_types = after_plain f.context ins ts

  kept : IsKeptLate f most code ls b then_types around before next
  kept = subst (λ us. IsKeptLate f most code ls b us around before next) (sym is.types) rest

  -- the words at which the instruction's code does what it does
  abbrev words : Words
  words = seen_at ds p

  abbrev at_once : List Action
  at_once = code_amid f helping ds ins b ts

  abbrev whole : Late
  whole = late ds at_once

  -- what is written
  abbrev thin : Lean
  thin = lean ks whole.now

  abbrev effect : Effect
  effect = do_plain ins (operands b ts words) (locals_of f.context.locals (word_at p)) (store_of f.setting p w)

  abbrev outcome : Outcome
  outcome = run_actions helping whole.now (word_at p) p.heap

  abbrev units : ℕ
  units = actions_units helping whole.now (word_at p) p.heap

  -- what is written late does the same
  alike_late : AreWaiting whole.later × IsSame whole.later (run_actions helping at_once words p.heap) outcome × (units ≡ actions_units helping at_once words p.heap)
  alike_late = late_is_alike helping ds at_once (word_at p) p.heap may.waiting

  sound_late : AreSoundActions f.scope whole.now × AreSoundWaiting f.scope whole.later
  sound_late = late_sound f.scope ds at_once sound may.sound

  -- and so does what is left of it without needless tests
  alike_lean : IsLean helping thin outcome units (word_at p) p.heap
  alike_lean = code_lean helping whole.now ks (word_at p) p.heap known

  may_later : MayWait f whole.later
  may_later = record { waiting = alike_late.0; sound = sound_late.1 }

  same_effect : do_plain ins (operands b ts words) (locals_of f.context.locals words) (store_with f.setting words p.heap p.replies w) ≡ effect
  same_effect =
      ap (λ ls. do_plain ins (operands b ts words) ls (store_with f.setting words p.heap p.replies w)) (locals_seen f ds (word_at p) p.heap p.replies w may.waiting)
      ∙ ap (do_plain ins (operands b ts words) (locals_of f.context.locals (word_at p))) (store_seen f ds (word_at p) p.heap p.replies w may.waiting)

  alike : IsAlike f helping b then_types words p.heap p.replies w effect (outcome_seen whole.later outcome)
  alike =
      subst (λ o. IsAlike f helping b then_types words p.heap p.replies w effect o) (seen_is whole.later (run_actions helping at_once words p.heap) outcome alike_late.1)
      (subst (λ e. IsAlike f helping b then_types words p.heap p.replies w e (run_actions helping at_once words p.heap)) same_effect
      (subst (λ us. IsAlike f helping b us words p.heap p.replies w (do_plain ins (operands b ts words) (locals_of f.context.locals words) (store_with f.setting words p.heap p.replies w)) (run_actions helping at_once words p.heap)) (sym is.types)
      (is.alike words p.heap p.replies w (seen_are_words ds (word_at p) p.heap (are_words p)) i.world.is_heap (numbers_seen ds (word_at p) p.heap))))

  paid : units ≤ f.pace
  paid = subst (λ u. u ≤ f.pace) (sym alike_late.2) (is.paid words p.heap)

  abbrev ran : Run Completion
  ran = exec_all false calls f.scope f.bound (stmts_in (statements thin.now)) p

  does : Does f.setting.bytes outcome units p ran
  does =
      let few = i.units in
      subst (λ o. Does f.setting.bytes o units p ran) alike_lean.same
      (subst (λ u. Does f.setting.bytes (run_actions helping thin.now (word_at p) p.heap) u p ran) alike_lean.cost
      (actions_are_done calls f.scope f.bound f.bound f.setting.bytes helping helpers thin.now (lean_sound f.scope ks whole.now sound_late.0)
      (lean_asks_helpers ks whole.now (late_asks_helpers ds at_once is.asks)) p i.apart i.world.is_heap (omega (arith, few, small))))

  abbrev rest_then : Completion → Part (Unit {0})
  rest_then d = unless_left_to d (statements_to f code ls b then_types (standing b then_types whole.later) thin.known) next

  runs_on : statements_to f (plain ins ▹ code) ls b ts ds ks next p ≡ runs.after ran rest_then
  runs_on =
      ap (λ (part : Part (Unit {0})). part p)
      (appended f.calls f.scope f.bound (statements thin.now) (stmts_of f.setting.bytes f.cells f.context code ls b then_types (standing b then_types whole.later) thin.known) next)
      ∙ actions_are_followed calls f.calls f.scope f.bound thin.now rest_then p follow

  abbrev start : Rest
  start = late_sight f around (plain ins ▹ code) b ts ds p w

  abbrev go : State → MachineOutcome
  go t = after (do_plain ins t.values t.locals t.store) t (goes_with f.home around code)

  pub paid_followed : is_constant ins ≡ false → IsFollowed f p start (statements_to f (plain ins ▹ code) ls b ts ds ks next p)
  paid_followed e =
      subst (λ run. IsFollowed f p start run) (sym runs_on)
      (paid_case f fair helping most b then_types code ls around before words next kept whole.later may_later thin.known p w i stays (operands b ts words) go start
      (λ n. ap f.watch (plain_step f.home around ins code (state_at f (operands b ts words) p w n) e)) effect outcome ran units paid (λ n. refl) alike alike_lean.known does)

  pub free_followed : (vs : List Word) → is_constant ins ≡ true → effect ≡ machine.goes vs (locals_of f.context.locals (word_at p)) (store_of f.setting p w)
      → ((n : ℕ) → start n ≡ f.watch (goes_with f.home around code (state_at f vs p w n)))
      → IsFollowed f p start (statements_to f (plain ins ▹ code) ls b ts ds ks next p)
  free_followed vs e same on =
      subst (λ run. IsFollowed f p start run) (sym runs_on)
      (free_case f fair helping most b then_types code ls around before words next kept whole.later may_later thin.known p w i stays start vs (locals_of f.context.locals (word_at p)) (store_of f.setting p w) outcome ran units
      (alike_late.2 ∙ is.free e words p.heap) on (subst (λ e. IsAlike f helping b then_types words p.heap p.replies w e (outcome_seen whole.later outcome)) same alike)
      alike_lean.known does)

module _ (f : Function) (fair : IsFair f) (calls : Calls) (follow : AllFollow calls f.calls) (helping : Helping) (helpers : AreHelpers f.scope calls f.bound f.setting.bytes helping) where
  abbrev IsKeptHere : Plain → Type 0
  IsKeptHere ins =
      (most : ℕ) (code : Trees) (ls : List Aim) (b : ℕ) (ts us : List ValType) (ds : List Delayed) (ks : List Known) (around : List Surrounding) (before : Words) (next : Completion → Part (Unit {0}))
      → most ≤ f.bound
      → IsAmid f helping ds ins b ts us → AreSoundActions f.scope (code_amid f helping ds ins b ts) → MayWait f ds → IsKeptLate f most code ls b us around before next
      → IsKeptWhile ds ks f most (plain ins ▹ code) ls b ts around before next

  one_kept : (ins : Plain) → (IsFormed ins → PlainIs f helping ins) → IsKeptHere ins → IsKeptFirst f (plain ins)
  one_kept ins is each most code ls b ts after_types around before next small typed standing nested ex rest ds ks may =
      let stands' = subst (λ ts. MayStand f (plain ins ▹ code) b ts) typed.operands standing in
      let sound = code_sound f fair helping ins code ls b typed.form typed.takes typed.gives typed.below typed.has_form typed.acts stands' ds in
      let on = rest_stands f fair helping ins code ls b typed.form typed.takes typed.gives typed.below typed.has_form typed.acts stands' in
      let is_plain = plain_amid f helping ds ins (is standing.formed.0.0) ls b typed.form typed.takes typed.gives typed.below typed.has_form typed.acts in
      subst (λ ts. IsKeptWhile ds ks f most (plain ins ▹ code) ls b ts around before next) (sym typed.operands)
      (each most code ls b (typed.takes ++ typed.below) (typed.gives ++ typed.below) ds ks around before next small is_plain sound may (rest (typed.gives ++ typed.below) typed.goes_on on ex))

  paid_kept : (ins : Plain) → is_constant ins ≡ false → (IsFormed ins → PlainIs f helping ins) → IsKeptFirst f (plain ins)
  paid_kept ins e is =
      one_kept ins is
      (λ most code ls b ts us ds ks around before next small is_plain sound may rest p w i known stays.
      paid_followed f fair calls follow helping helpers ins most code ls b ts us ds ks around before next small is_plain sound may rest p w i known stays e)

  narrow_kept : (n : ℕ) → (IsFormed (const32 n) → PlainIs f helping (const32 n)) → IsKeptFirst f (plain (const32 n))
  narrow_kept n is =
      one_kept (const32 n) is
      (λ most code ls b ts us ds ks around before next small is_plain sound may rest p w i known stays.
      free_followed f fair calls follow helping helpers (const32 n) most code ls b ts us ds ks around before next small is_plain sound may rest p w i known stays (W32 n ∷ operands b ts (seen_at ds p)) refl refl
      (λ j. ap (λ o. f.watch (closed f.home around o)) (narrow_constant f.home n code (state_at f (operands b ts (seen_at ds p)) p w j))))

  wide_kept : (n : ℕ) → (IsFormed (const64 n) → PlainIs f helping (const64 n)) → IsKeptFirst f (plain (const64 n))
  wide_kept n is =
      one_kept (const64 n) is
      (λ most code ls b ts us ds ks around before next small is_plain sound may rest p w i known stays.
      free_followed f fair calls follow helping helpers (const64 n) most code ls b ts us ds ks around before next small is_plain sound may rest p w i known stays (W64 n ∷ operands b ts (seen_at ds p)) refl refl
      (λ j. ap (λ o. f.watch (closed f.home around o)) (wide_constant f.home n code (state_at f (operands b ts (seen_at ds p)) p w j))))

  each_kept : (ins : Plain) → (IsFormed ins → PlainIs f helping ins) → IsKeptFirst f (plain ins)
  each_kept (const32 n) is = narrow_kept n is
  each_kept (const64 n) is = wide_kept n is
  each_kept ins is = paid_kept ins refl is

pub plains_are_kept : PlainsAreKept
plains_are_kept f fair calls follow helping helpers = each_kept f fair calls follow helping helpers
