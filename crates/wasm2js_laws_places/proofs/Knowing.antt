-- The laws of what is known: straight code without what is needless by it does what the whole code does.
use Rattle.std.proofs.Common.{◌≡◌, ℕ, ◌+◌, ◌≤◌, Bool, true, false, ◌||◌, List, [], ◌∷◌, refl, sym, ap, ◌∙◌, subst, arith}
use Rattle.std.proofs.lemmas.Bool.Decides.{nat_tests, Decides-eqb}
use Rattle.std.specs.Prelude.{if◌then◌else◌, ◌==◌, nat_lt}
use Rattle.wasm2js_translation.specs.Words.{Term, Simple, guard, Action, simply, either}
use Rattle.wasm2js_translation.specs.Pairs.{simples}
use Rattle.wasm2js_translation.specs.Delays.{one_changes}
use Rattle.wasm2js_translation.specs.Known.{Known, bound, is_within, unchanged, learned, all_learned, Lean, is_needless, lean_action, lean}
use Rattle.wasm2js_laws_places.specs.Straight.{Words, value, Helping, Outcome, goes, stops, then_do, units_after, run_simple, run_simples, run_action, run_actions, simple_units, simples_units, action_units, actions_units}
use Rattle.wasm2js_laws_places.specs.Knowing.{AreKnown, TermsAreBounded, LeanIsAlike}
use Rattle.wasm2js_laws_places.proofs.DelayedSteps.{then_goes, nothing_after}
use Rattle.wasm2js_laws_places.proofs.DelayedArms.{joined_runs, joined_costs}
use Rattle.wasm2js_laws_places.proofs.KnownTerms.{tested_bound, bounded_terms}
use Rattle.wasm2js_laws_places.proofs.KnownSteps.{KnownAfter, known_then, step_known, arm_known, arms_known}

-- what every term is bounded by
pub terms_are_bounded : TermsAreBounded
terms_are_bounded = bounded_terms

-- ---- statements as actions

module _ (helping : Helping) where
  pub simples_run : (ss : List Simple) (words : Words) (heap : List ℕ) → run_actions helping (simples ss) words heap ≡ run_simples helping ss words heap
  simples_run [] words heap = refl
  simples_run (s ∷ ss) words heap = by (run_simple helping s words heap) (λ w k. simples_run ss w k)
    where
      by : (o : Outcome) → ((w : Words) (k : List ℕ) → run_actions helping (simples ss) w k ≡ run_simples helping ss w k)
          → then_do o (run_actions helping (simples ss)) ≡ then_do o (run_simples helping ss)
      by (goes w k) further = further w k
      by (stops kind k) further = refl

  pub simples_cost : (ss : List Simple) (words : Words) (heap : List ℕ) → actions_units helping (simples ss) words heap ≡ simples_units helping ss words heap
  simples_cost [] words heap = refl
  simples_cost (s ∷ ss) words heap = ap (λ x. simple_units helping s words heap + x) (by (run_simple helping s words heap) (λ w k. simples_cost ss w k))
    where
      by : (o : Outcome) → ((w : Words) (k : List ℕ) → actions_units helping (simples ss) w k ≡ simples_units helping ss w k)
          → units_after o (actions_units helping (simples ss)) ≡ units_after o (simples_units helping ss)
      by (goes w k) further = further w k
      by (stops kind k) further = refl

-- ---- code without what is needless

-- beside what the whole code comes to, and the units it takes
pub record IsLean (helping : Helping) (x : Lean) (o : Outcome) (units : ℕ) (words : Words) (heap : List ℕ) : Type 0 where
  pub same : run_actions helping x.now words heap ≡ o
  pub cost : actions_units helping x.now words heap ≡ units
  pub known : KnownAfter x.known o

isnt_over : (most w : ℕ) → w ≤ most → nat_lt most w ≡ false
isnt_over most w h = grind (arith, nat_tests)

is_none : (w : ℕ) → w ≤ 0 → (w == 0) ≡ true
is_none w h = (Decides-eqb w 0).1 (omega (arith, h))

module _ (helping : Helping) (ks : List Known) (words : Words) (heap : List ℕ) (h : AreKnown ks words) where
  passes : (s : Simple) → is_needless ks s ≡ true → run_simple helping s words heap ≡ goes words heap
  passes (guard t most kind) e =
      let k = isnt_over most (value t words heap) (tested_bound ks words heap h t most e) in ap (λ b. if b then stops kind heap else goes words heap) k
  passes s e = absurd (cc e)

  takes_none : (s : Simple) → is_needless ks s ≡ true → simple_units helping s words heap ≡ 0
  takes_none (guard t most kind) e = refl
  takes_none s e = absurd (cc e)

  simple_lean : (s : Simple) → IsLean helping (lean_action ks (simply s)) (run_simple helping s words heap) (simple_units helping s words heap) words heap
  simple_lean s = by (is_needless ks s) refl
    where
      by : (b : Bool) → is_needless ks s ≡ b
          → IsLean helping (record { now = if b then [] else simply s ∷ []; known = learned ks s }) (run_simple helping s words heap) (simple_units helping s words heap) words heap
      by true e = record { same = sym (passes s e); cost = sym (takes_none s e); known = step_known helping words heap ks h s }
      by false e =
          let none = nothing_after (run_simple helping s words heap) in
          record { same = then_goes (run_simple helping s words heap); cost = omega (arith, none); known = step_known helping words heap ks h s }

  module _ (t : Term) (first second : List Simple) where
    abbrev arms : Bool → Outcome
    arms b = if b then run_simples helping second words heap else run_simples helping first words heap

    abbrev arms_cost : Bool → ℕ
    arms_cost b = if b then simples_units helping second words heap else simples_units helping first words heap

    abbrev zero_test : Bool
    zero_test = value t words heap == 0

    either_lean : IsLean helping (lean_action ks (either t first second)) (arms zero_test) (arms_cost zero_test) words heap
    either_lean = by (is_within (bound ks t) 0) refl
      where
        by : (b : Bool) → is_within (bound ks t) 0 ≡ b → IsLean helping
            (if b then record { now = simples second; known = all_learned ks second }
            else record { now = either t first second ∷ []; known = unchanged (λ n. one_changes first n || one_changes second n) ks })
            (arms zero_test) (arms_cost zero_test) words heap
        by true e =
            let k = is_none (value t words heap) (tested_bound ks words heap h t 0 e) in
            record {
              same = simples_run helping second words heap ∙ sym (ap arms k);
              cost = simples_cost helping second words heap ∙ sym (ap arms_cost k);
              known = subst (λ b. KnownAfter (all_learned ks second) (arms b)) (sym k) (arm_known helping second ks words heap h);
            }
        by false e =
            let none = nothing_after (arms zero_test) in
            record { same = then_goes (arms zero_test); cost = omega (arith, none); known = arms_known helping first second ks words heap h zero_test }

  action_lean : (a : Action) → IsLean helping (lean_action ks a) (run_action helping a words heap) (action_units helping a words heap) words heap
  action_lean (simply s) = simple_lean s
  action_lean (either t first second) = either_lean t first second

-- ---- one action after another

same_next : (ks : List Known) (o : Outcome) (f g : Words → List ℕ → Outcome) → KnownAfter ks o → ((w : Words) (k : List ℕ) → AreKnown ks w → f w k ≡ g w k) → then_do o f ≡ then_do o g
same_next ks (goes w k) f g h further = further w k h
same_next ks (stops kind k) f g h further = refl

same_cost : (ks : List Known) (o : Outcome) (f g : Words → List ℕ → ℕ) → KnownAfter ks o → ((w : Words) (k : List ℕ) → AreKnown ks w → f w k ≡ g w k) → units_after o f ≡ units_after o g
same_cost ks (goes w k) f g h further = further w k h
same_cost ks (stops kind k) f g h further = refl

module _ (helping : Helping) where
  pub code_lean : (actions : List Action) (ks : List Known) (words : Words) (heap : List ℕ) → AreKnown ks words
      → IsLean helping (lean ks actions) (run_actions helping actions words heap) (actions_units helping actions words heap) words heap
  code_lean [] ks words heap h = record { same = refl; cost = refl; known = h }
  code_lean (a ∷ more) ks words heap h =
      let x = lean_action ks a in
      let y = lean x.known more in
      let o = run_action helping a words heap in
      let one = action_lean helping ks words heap h a in
      let then_same : then_do (run_actions helping x.now words heap) (run_actions helping y.now) ≡ then_do o (run_actions helping more) =
      ap (λ p. then_do p (run_actions helping y.now)) one.same
      ∙ same_next x.known o (run_actions helping y.now) (run_actions helping more) one.known (λ w k g. (code_lean more x.known w k g).same)
      in
      let then_cost : units_after (run_actions helping x.now words heap) (actions_units helping y.now) ≡ units_after o (actions_units helping more) =
      ap (λ p. units_after p (actions_units helping y.now)) one.same
      ∙ same_cost x.known o (actions_units helping y.now) (actions_units helping more) one.known (λ w k g. (code_lean more x.known w k g).cost)
      in
      let here = one.cost in
      let whole = joined_costs helping x.now y.now words heap in
      record {
        same = joined_runs helping x.now y.now words heap ∙ then_same;
        cost = omega (arith, here, then_cost, whole);
        known = known_then x.known y.known o (run_actions helping more) one.known (λ w k g. (code_lean more x.known w k g).known);
      }

pub lean_is_alike : LeanIsAlike
lean_is_alike helping ks actions words heap h =
    let x = code_lean helping actions ks words heap h in
    (x.same, x.cost, λ words' heap' e. subst (KnownAfter (lean ks actions).known) e x.known)
