-- Actions whose words are written late do what they do where each is written at once.
use Rattle.std.proofs.Common.{◌≡◌, ℕ, ◌+◌, Bool, true, false, not, ◌||◌, ◌&&◌, List, [], ◌∷◌, ◌++◌, None, refl, sym, ap, ◌∙◌, subst, arith}
use Rattle.std.proofs.Math.Path.{fun_ext}
use Rattle.std.proofs.lemmas.Bool.{and_parts, or_parts}
use Rattle.std.specs.Prelude.{if◌then◌else◌, ◌==◌, nat_lt, length}
use Rattle.wasm2js_translation.specs.Names.{Name, same_name}
use Rattle.wasm2js_translation.specs.Words.{Term, read, Simple, put, ask, tell, guard, stop, write_byte, write_whole, Action, simply, either}
use Rattle.wasm2js_translation.specs.Pairs.{simples}
use Rattle.wasm2js_translation.specs.Delays.{Delayed, is_operand, is_light, is_of_two, most_waiting, waiting, those, others, without, written, replaced, in_place, puts, changes, one_changes, one_puts, reads_one, Late, may_wait, at_once, late_among, late_simple, late_arm, differ, late_either, light, held, behind, takes, taken, late_action, late}
use Rattle.wasm2js_laws_places.specs.Straight.{Words, with_word, value, Helping, Outcome, goes, stops, then_do, units_after, run_simple, run_simples, run_action, run_actions, simple_units, simples_units, action_units, actions_units}
use Rattle.wasm2js_laws_places.specs.Delaying.{seen, AreWaiting, IsSame}
use Rattle.wasm2js_laws_places.proofs.SameNames.{same_is, same_itself}
use Rattle.wasm2js_laws_places.proofs.DelayedLists.{operand_waits, none_left, still_waits, those_wait, none_without, NoneIs, none_of_others, none_of_less, AreWaitingLight, those_light, all_others, others_of_others, same_others, one_more_waits, light_wait, held_waits, IsHeld, held_last}
use Rattle.wasm2js_laws_places.proofs.DelayedTerms.{replaced_value, written_first, unread_seen, all_seen_again, others_seen_again, seen_next, seen_put, light_unread, replaced_unread, seen_last, held_first}
use Rattle.wasm2js_laws_places.proofs.DelayedSteps.{then_goes, nothing_after, same_then, same_after, one_step, units_of_one, reads_neither, Untouched, arm_same, arm_units, one_puts_beside}

-- ---- code in two pieces

simples_joined : (a b : List Simple) → simples (a ++ b) ≡ simples a ++ simples b
simples_joined [] b = refl
simples_joined (s ∷ a) b = ap (λ x. simply s ∷ x) (simples_joined a b)

module _ (helping : Helping) where
  runs_after : (a b : List Action) (o : Outcome) → ((w : Words) (h : List ℕ) → run_actions helping (a ++ b) w h ≡ then_do (run_actions helping a w h) (run_actions helping b))
      → then_do o (run_actions helping (a ++ b)) ≡ then_do (then_do o (run_actions helping a)) (run_actions helping b)
  runs_after a b (goes w h) e = e w h
  runs_after a b (stops kind h) e = refl

  pub joined_runs : (a b : List Action) (words : Words) (heap : List ℕ) → run_actions helping (a ++ b) words heap ≡ then_do (run_actions helping a words heap) (run_actions helping b)
  joined_runs [] b words heap = refl
  joined_runs (x ∷ a) b words heap = runs_after a b (run_action helping x words heap) (λ w h. joined_runs a b w h)

  abbrev pub Costs : (a b : List Action) → Words → List ℕ → Type 0
  Costs a b w h = actions_units helping (a ++ b) w h ≡ actions_units helping a w h + units_after (run_actions helping a w h) (actions_units helping b)

  costs_after : (a b : List Action) (o : Outcome) → ((w : Words) (h : List ℕ) → Costs a b w h)
      → units_after o (actions_units helping (a ++ b)) ≡ units_after o (actions_units helping a) + units_after (then_do o (run_actions helping a)) (actions_units helping b)
  costs_after a b (goes w h) e = e w h
  costs_after a b (stops kind h) e = refl

  pub joined_costs : (a b : List Action) (words : Words) (heap : List ℕ) → Costs a b words heap
  joined_costs [] b words heap = omega arith
  joined_costs (x ∷ a) b words heap = let e = costs_after a b (run_action helping x words heap) (λ w h. joined_costs a b w h) in omega (arith, e)

  -- words that are written, and then more
  written_then : (ds : List Delayed) (more : List Action) (words : Words) (heap : List ℕ) → AreWaiting ds
      → run_actions helping (simples (written ds) ++ more) words heap ≡ run_actions helping more (seen ds words heap) heap
  written_then [] more words heap h = refl
  written_then (d ∷ ds) more words heap h =
      written_then ds more (with_word d.name (value d.word words heap) words) heap h.4 ∙ ap (λ w. run_actions helping more w heap) (written_first d ds words heap h)

  written_costs : (ds : List Delayed) (more : List Action) (words : Words) (heap : List ℕ) → AreWaiting ds
      → actions_units helping (simples (written ds) ++ more) words heap ≡ actions_units helping more (seen ds words heap) heap
  written_costs [] more words heap h = refl
  written_costs (d ∷ ds) more words heap h =
      let e = written_costs ds more (with_word d.name (value d.word words heap) words) heap h.4 in
      let f = ap (λ w. actions_units helping more w heap) (written_first d ds words heap h) in
      omega (arith, e, f)

-- ---- code whose words are written late

-- beside what the code comes to, and the units it takes, that writes each at once
pub record Alike (helping : Helping) (x : Late) (a : Outcome) (units : ℕ) (words : Words) (heap : List ℕ) : Type 0 where
  pub wait : AreWaiting x.later
  pub same : IsSame x.later a (run_actions helping x.now words heap)
  pub cost : actions_units helping x.now words heap ≡ units

-- where only light words wait
module _ (helping : Helping) (ds : List Delayed) (words : Words) (heap : List ℕ) (h : AreWaitingLight ds) where
  abbrev before : Words
  before = seen ds words heap

  -- ---- a statement that is done at once

  module _ (s : Simple) where
    abbrev spoiled : Delayed → Bool
    spoiled d = reads_one (changes s) d.word

    abbrev stay : List Delayed
    stay = others spoiled ds

    abbrev then_words : Words
    then_words = seen (those spoiled ds) words heap

    abbrev one : List Action
    one = simply (in_place ds s) ∷ []

    -- what is written, and the statement
    in_two : (at_once ds s).now ≡ simples (written (those spoiled ds)) ++ one
    in_two = simples_joined (written (those spoiled ds)) (in_place ds s ∷ [])

    runs_in_two : run_actions helping (at_once ds s).now words heap ≡ run_simple helping (in_place ds s) then_words heap
    runs_in_two =
        ap (λ x. run_actions helping x words heap) in_two ∙ written_then helping (those spoiled ds) one words heap (those_wait spoiled ds h.0)
        ∙ then_goes (run_simple helping (in_place ds s) then_words heap)

    costs_in_two : actions_units helping (at_once ds s).now words heap ≡ simple_units helping (in_place ds s) then_words heap
    costs_in_two =
        let e = ap (λ x. actions_units helping x words heap) in_two ∙ written_costs helping (those spoiled ds) one words heap (those_wait spoiled ds h.0) in
        let f = nothing_after (run_simple helping (in_place ds s) then_words heap) in
        omega (arith, e, f)

    stay_wait : AreWaitingLight stay
    stay_wait = those_light (λ d. not (spoiled d)) ds h

    stay_same : seen ds then_words heap ≡ seen stay then_words heap
    stay_same = all_seen_again spoiled ds words heap h ∙ sym (others_seen_again spoiled ds words heap h)

    as_before : seen stay then_words heap ≡ before
    as_before = others_seen_again spoiled ds words heap h

    later_is : (at_once ds s).later ≡ others (λ d. puts s d.name) stay
    later_is = others_of_others spoiled (λ d. puts s d.name) ds

    stepped : IsSame (others (λ d. puts s d.name) stay) (run_simple helping s before heap) (run_simple helping (in_place ds s) then_words heap)
    stepped =
        subst (λ w. IsSame (others (λ d. puts s d.name) stay) (run_simple helping s w heap) (run_simple helping (in_place ds s) then_words heap)) as_before
        (one_step helping ds stay then_words heap stay_wait stay_same s (none_of_others spoiled ds))

    at_once_same : IsSame (at_once ds s).later (run_simple helping s before heap) (run_actions helping (at_once ds s).now words heap)
    at_once_same =
        subst (λ o. IsSame (at_once ds s).later (run_simple helping s before heap) o) (sym runs_in_two)
        (subst (λ l. IsSame l (run_simple helping s before heap) (run_simple helping (in_place ds s) then_words heap)) (sym later_is) stepped)

    at_once_alike : Alike helping (at_once ds s) (run_simple helping s before heap) (simple_units helping s before heap) words heap
    at_once_alike = record {
      wait = those_wait (λ d. not (spoiled d || puts s d.name)) ds h.0;
      same = at_once_same;
      cost = costs_in_two ∙ units_of_one helping ds stay then_words heap stay_wait stay_same s ∙ ap (λ w. simple_units helping s w heap) as_before;
    }

  -- ---- a word that begins to wait

  module _ (n : Name) (t : Term) where
    abbrev begun : Late
    begun = record { now = []; later = without n ds ++ record { name = n; word = replaced ds t } ∷ [] }

    begun_alike : may_wait ds n (replaced ds t) ≡ true → Alike helping begun (run_simple helping (put n t) before heap) 0 words heap
    begun_alike e =
        let k = and_parts (is_operand n) (is_of_two (replaced ds t) || (is_light (replaced ds t) && nat_lt (length ds) most_waiting)) e in
        record {
          wait = one_more_waits (without n ds) (record { name = n; word = replaced ds t }) (those_light (λ d. not (same_name d.name n)) ds h) k.0 (none_without n ds h.0)
              (λ m u f. replaced_unread ds h m u (still_waits (λ d. not (same_name d.name n)) ds m u h.0 f) t);
          same = (seen_put n t ds words heap h.0, refl);
          cost = refl;
        }

    put_alike : Alike helping (late_among ds (put n t)) (run_simple helping (put n t) before heap) 0 words heap
    put_alike = by (may_wait ds n (replaced ds t)) refl
      where
        by : (b : Bool) → may_wait ds n (replaced ds t) ≡ b → Alike helping (if b then begun else at_once ds (put n t)) (run_simple helping (put n t) before heap) 0 words heap
        by true e = begun_alike e
        by false e = at_once_alike (put n t)

  pub among_alike : (s : Simple) → Alike helping (late_among ds s) (run_simple helping s before heap) (simple_units helping s before heap) words heap
  among_alike (put n t) = put_alike n t
  among_alike (ask n f ts) = at_once_alike (ask n f ts)
  among_alike (tell f ts) = at_once_alike (tell f ts)
  among_alike (guard t most kind) = at_once_alike (guard t most kind)
  among_alike (stop kind) = at_once_alike (stop kind)
  among_alike (write_byte at t) = at_once_alike (write_byte at t)
  among_alike (write_whole at t) = at_once_alike (write_whole at t)

  -- ---- two arms

  module _ (t : Term) (first second : List Simple) where
    abbrev gone : Delayed → Bool
    gone d = reads_one (λ m. one_changes first m || one_changes second m) d.word || differ (one_puts first d.name) (one_puts second d.name)

    abbrev rest : List Delayed
    rest = others gone ds

    abbrev arms_words : Words
    arms_words = seen (those gone ds) words heap

    abbrev zero_test : Bool
    zero_test = value t before heap == 0

    abbrev late_arms : Bool → Outcome
    late_arms b = if b then run_simples helping (late_arm rest second) arms_words heap else run_simples helping (late_arm rest first) arms_words heap

    abbrev late_arms_units : Bool → ℕ
    late_arms_units b = if b then simples_units helping (late_arm rest second) arms_words heap else simples_units helping (late_arm rest first) arms_words heap

    arms_before : seen rest arms_words heap ≡ before
    arms_before = others_seen_again gone ds words heap h

    tested : value (replaced ds t) arms_words heap ≡ value t before heap
    tested = replaced_value ds arms_words heap t ∙ ap (λ w. value t w heap) (all_seen_again gone ds words heap h)

    arms_run : run_actions helping (late_either ds t first second).now words heap ≡ late_arms zero_test
    arms_run =
        written_then helping (those gone ds) (either (replaced ds t) (late_arm rest first) (late_arm rest second) ∷ []) words heap (those_wait gone ds h.0)
        ∙ then_goes (late_arms (value (replaced ds t) arms_words heap == 0)) ∙ ap (λ x. late_arms (x == 0)) tested

    arms_cost : actions_units helping (late_either ds t first second).now words heap ≡ late_arms_units zero_test
    arms_cost =
        let e = written_costs helping (those gone ds) (either (replaced ds t) (late_arm rest first) (late_arm rest second) ∷ []) words heap (those_wait gone ds h.0) in
        let f = nothing_after (late_arms (value (replaced ds t) arms_words heap == 0)) in
        let g = ap (λ x. late_arms_units (x == 0)) tested in
        omega (arith, e, f, g)

    rest_wait : AreWaitingLight rest
    rest_wait = those_light (λ d. not (gone d)) ds h

    abbrev reads_changed : Delayed → Bool
    reads_changed d = reads_one (λ m. one_changes first m || one_changes second m) d.word

    abbrev puts_differ : Delayed → Bool
    puts_differ d = differ (one_puts first d.name) (one_puts second d.name)

    none_gone : NoneIs gone rest
    none_gone = none_of_others gone ds

    first_untouched : Untouched first rest
    first_untouched =
        none_of_less gone (λ d. reads_one (one_changes first) d.word) rest
        (λ d e. (reads_neither (one_changes first) (one_changes second) d.word (or_parts (reads_changed d) (puts_differ d) e).0).0) none_gone

    second_untouched : Untouched second rest
    second_untouched =
        none_of_less gone (λ d. reads_one (one_changes second) d.word) rest
        (λ d e. (reads_neither (one_changes first) (one_changes second) d.word (or_parts (reads_changed d) (puts_differ d) e).0).1) none_gone

    same_puts : others (λ d. one_puts first d.name) rest ≡ others (λ d. one_puts second d.name) rest
    same_puts =
        same_others (λ d. one_puts first d.name) (λ d. one_puts second d.name) rest
        (none_of_less gone puts_differ rest (λ d e. (or_parts (reads_changed d) (puts_differ d) e).1) none_gone)

    abbrev arms_at : Bool → Words → Outcome
    arms_at b w = if b then run_simples helping second w heap else run_simples helping first w heap

    abbrev arms_units_at : Bool → Words → ℕ
    arms_units_at b w = if b then simples_units helping second w heap else simples_units helping first w heap

    arms_same : (b : Bool) → IsSame (others (λ d. one_puts first d.name) rest) (arms_at b (seen rest arms_words heap)) (late_arms b)
    arms_same true =
        subst (λ l. IsSame l (run_simples helping second (seen rest arms_words heap) heap) (run_simples helping (late_arm rest second) arms_words heap)) (sym same_puts)
        (arm_same helping second rest arms_words heap rest_wait second_untouched)
    arms_same false = arm_same helping first rest arms_words heap rest_wait first_untouched

    arms_units_same : (b : Bool) → late_arms_units b ≡ arms_units_at b (seen rest arms_words heap)
    arms_units_same true = arm_units helping second rest arms_words heap rest_wait second_untouched
    arms_units_same false = arm_units helping first rest arms_words heap rest_wait first_untouched

    either_same : IsSame (late_either ds t first second).later (arms_at zero_test before) (run_actions helping (late_either ds t first second).now words heap)
    either_same =
        subst (λ o. IsSame (late_either ds t first second).later (arms_at zero_test before) o) (sym arms_run)
        (subst (λ l. IsSame l (arms_at zero_test before) (late_arms zero_test)) (sym (others_of_others gone (λ d. one_puts first d.name) ds))
        (subst (λ w. IsSame (others (λ d. one_puts first d.name) rest) (arms_at zero_test w) (late_arms zero_test)) arms_before (arms_same zero_test)))

    pub either_alike : Alike helping (late_either ds t first second) (arms_at zero_test before) (arms_units_at zero_test before) words heap
    either_alike = record {
      wait = those_wait (λ d. not (gone d || one_puts first d.name)) ds h.0;
      same = either_same;
      cost = arms_cost ∙ arms_units_same zero_test ∙ ap (arms_units_at zero_test) arms_before;
    }

-- ---- with the word that is held

module _ (helping : Helping) (ds : List Delayed) (words : Words) (heap : List ℕ) (h : AreWaiting ds) where
  abbrev all_before : Words
  all_before = seen ds words heap

  abbrev lights : List Delayed
  lights = light ds

  lights_wait : AreWaitingLight lights
  lights_wait = light_wait ds h

  -- it is written first
  abbrev held_words : Words
  held_words = seen (held ds) words heap

  behind_alike : (l : Late) (a : Outcome) (units : ℕ) → Alike helping l a units held_words heap → Alike helping (behind ds l) a units words heap
  behind_alike l a units k = record {
    wait = k.wait;
    same = subst (λ o. IsSame l.later a o) (sym (written_then helping (held ds) l.now words heap (held_waits ds h))) k.same;
    cost = written_costs helping (held ds) l.now words heap (held_waits ds h) ∙ k.cost;
  }

  behind_simple : (s : Simple) → Alike helping (behind ds (late_among lights s)) (run_simple helping s all_before heap) (simple_units helping s all_before heap) words heap
  behind_simple s =
      subst (λ w. Alike helping (behind ds (late_among lights s)) (run_simple helping s w heap) (simple_units helping s w heap) words heap) (held_first ds words heap h)
      (behind_alike (late_among lights s) _ _ (among_alike helping lights held_words heap lights_wait s))

  behind_either : (t : Term) (first second : List Simple) → Alike helping (behind ds (late_either lights t first second)) (run_action helping (either t first second) all_before heap)
      (action_units helping (either t first second) all_before heap) words heap
  behind_either t first second =
      subst
      (λ w. Alike helping (behind ds (late_either lights t first second)) (run_action helping (either t first second) w heap) (action_units helping (either t first second) w heap) words heap)
      (held_first ds words heap h) (behind_alike (late_either lights t first second) _ _ (either_alike helping lights held_words heap lights_wait t first second))

  -- ---- a variable of no operand has it

  module _ (d : Delayed) (is : IsHeld ds lights d) (n : Name) (beside : is_operand n ≡ false) where
    abbrev word : ℕ
    word = value d.word words heap

    abbrev reads_it : Delayed → Bool
    reads_it e = reads_one (same_name n) e.word

    abbrev unspoiled : List Delayed
    unspoiled = others reads_it lights

    abbrev first_words : Words
    first_words = seen (those reads_it lights) words heap

    abbrev put_words : Words
    put_words = with_word n (value d.word first_words heap) first_words

    abbrev stand_in : Delayed
    stand_in = record { name = d.name; word = read n }

    word_there : value d.word first_words heap ≡ word
    word_there =
        unread_seen (those reads_it lights) d.word words heap (those_wait reads_it lights lights_wait.0)
        (λ m u e. is.apart m u (still_waits reads_it lights m u lights_wait.0 e))

    new_there : waiting unspoiled d.name ≡ None
    new_there = none_left (λ e. not (reads_it e)) lights d.name lights_wait.0 is.new

    -- the other words, and the variable
    others_put : seen unspoiled put_words heap ≡ with_word n word (seen lights words heap)
    others_put =
        ap (λ es. seen es put_words heap) (sym (all_others unspoiled))
        ∙ seen_next (same_name n) (λ m. false) (with_word n (value d.word first_words heap)) (one_puts_beside n (value d.word first_words heap) beside) unspoiled first_words heap heap
        (those_light (λ e. not (reads_it e)) lights lights_wait) (none_of_others reads_it lights)
        ∙ ap (with_word n (value d.word first_words heap)) (others_seen_again reads_it lights words heap lights_wait) ∙ ap (λ x. with_word n x (seen lights words heap)) word_there

    put_there : put_words n ≡ word
    put_there = let e = same_itself n in rw e word_there

    -- both have that word, in either order
    both_put : (w : Words) → with_word d.name word (with_word n word w) ≡ with_word n word (with_word d.name word w)
    both_put w = fun_ext (λ m. by m (same_name d.name m) (same_name n m))
      where
        by : (m : Name) (a b : Bool) → (if a then word else (if b then word else w m)) ≡ (if b then word else (if a then word else w m))
        by m true true = refl
        by m true false = refl
        by m false true = refl
        by m false false = refl

    all_are : all_before ≡ with_word d.name word (seen lights words heap)
    all_are = ap (λ es. seen es words heap) is.whole ∙ seen_last lights d words heap is.new

    stands_in : seen (unspoiled ++ stand_in ∷ []) put_words heap ≡ with_word n word all_before
    stands_in =
        seen_last unspoiled stand_in put_words heap new_there ∙ ap (λ x. with_word d.name x (seen unspoiled put_words heap)) put_there ∙ ap (with_word d.name word) others_put
        ∙ both_put (seen lights words heap) ∙ ap (with_word n word) (sym all_are)

    word_before : all_before d.name ≡ word
    word_before = let e = same_itself d.name in ap (λ (w : Words). w d.name) all_are ∙ rw e refl

    stand_in_waits : AreWaiting (unspoiled ++ stand_in ∷ [])
    stand_in_waits =
        one_more_waits unspoiled stand_in (those_light (λ e. not (reads_it e)) lights lights_wait) is.operand new_there
        (λ m u e. light_unread m (read n) (operand_waits unspoiled m u (those_wait (λ e. not (reads_it e)) lights lights_wait.0) e) (ap not beside))

    abbrev put_it : List Action
    put_it = simply (put n d.word) ∷ []

    -- what is written
    in_two_again : (taken (d ∷ []) lights (put n (read d.name))).now ≡ simples (written (those reads_it lights)) ++ put_it
    in_two_again = simples_joined (written (those reads_it lights)) (put n d.word ∷ [])

    taken_runs : run_actions helping (taken (d ∷ []) lights (put n (read d.name))).now words heap ≡ goes put_words heap
    taken_runs =
        ap (λ x. run_actions helping x words heap) in_two_again
        ∙ written_then helping (those reads_it lights) put_it words heap (those_wait reads_it lights lights_wait.0)

    taken_costs : actions_units helping (taken (d ∷ []) lights (put n (read d.name))).now words heap ≡ 0
    taken_costs =
        ap (λ x. actions_units helping x words heap) in_two_again
        ∙ written_costs helping (those reads_it lights) put_it words heap (those_wait reads_it lights lights_wait.0)

    taken_it : Alike helping (taken (d ∷ []) lights (put n (read d.name))) (goes (with_word n (all_before d.name) all_before) heap) 0 words heap
    taken_it = record {
      wait = stand_in_waits;
      same = subst (λ o. IsSame (unspoiled ++ stand_in ∷ []) (goes (with_word n (all_before d.name) all_before) heap) o) (sym taken_runs)
          (stands_in ∙ ap (λ x. with_word n x all_before) (sym word_before), refl);
      cost = taken_costs;
    }

  abbrev Taken : List Delayed → Simple → Type 0
  Taken hs s = Alike helping (taken hs lights s) (run_simple helping s all_before heap) (simple_units helping s all_before heap) words heap

  taken_alike : (hs : List Delayed) → held ds ≡ hs → (s : Simple) → takes hs lights s ≡ true → Taken hs s
  taken_alike (d ∷ []) is (put n (read m)) e =
      let k = and_parts (same_name d.name m) (not (is_operand n) && nat_lt (length lights) most_waiting) e in
      let l = and_parts (not (is_operand n)) (nat_lt (length lights) most_waiting) k.1 in
      subst (λ r. Taken (d ∷ []) (put n (read r))) (same_is d.name m k.0) (taken_it d (held_last d ds h is) n (is_false (is_operand n) l.0))
    where
      is_false : (b : Bool) → not b ≡ true → b ≡ false
      is_false true f = absurd (cc f)
      is_false false f = refl
  taken_alike hs is s e = absurd (cc e)

  simple_alike : (s : Simple) → Alike helping (late_simple ds s) (run_simple helping s all_before heap) (simple_units helping s all_before heap) words heap
  simple_alike s = by (takes (held ds) lights s) refl
    where
      by : (b : Bool) → takes (held ds) lights s ≡ b
          → Alike helping (if b then taken (held ds) lights s else behind ds (late_among lights s)) (run_simple helping s all_before heap) (simple_units helping s all_before heap) words heap
      by true e = taken_alike (held ds) refl s e
      by false e = behind_simple s

  action_alike : (a : Action) → Alike helping (late_action ds a) (run_action helping a all_before heap) (action_units helping a all_before heap) words heap
  action_alike (simply s) = simple_alike s
  action_alike (either t first second) = behind_either t first second

-- ---- one action after another

module _ (helping : Helping) where
  pub code_alike : (actions : List Action) (ds : List Delayed) (words : Words) (heap : List ℕ) → AreWaiting ds
      → Alike helping (late ds actions) (run_actions helping actions (seen ds words heap) heap) (actions_units helping actions (seen ds words heap) heap) words heap
  code_alike [] ds words heap h = record { wait = h; same = (refl, refl); cost = refl }
  code_alike (a ∷ more) ds words heap h =
      let x = late_action ds a in
      let y = late x.later more in
      let one = action_alike helping ds words heap h a in
      let same : IsSame y.later (run_actions helping (a ∷ more) (seen ds words heap) heap) (then_do (run_actions helping x.now words heap) (run_actions helping y.now)) =
      same_then x.later y.later (run_action helping a (seen ds words heap) heap) (run_actions helping x.now words heap) (run_actions helping more) (run_actions helping y.now) one.same
      (λ w k. (code_alike more x.later w k one.wait).same)
      in
      let costs : units_after (run_actions helping x.now words heap) (actions_units helping y.now) ≡ units_after (run_action helping a (seen ds words heap) heap) (actions_units helping more) =
      same_after x.later (run_action helping a (seen ds words heap) heap) (run_actions helping x.now words heap) (actions_units helping more) (actions_units helping y.now) one.same
      (λ w k. (code_alike more x.later w k one.wait).cost)
      in
      let here = one.cost in
      let whole = joined_costs helping x.now y.now words heap in
      record {
        wait = (code_alike more x.later words heap one.wait).wait;
        same = subst (λ o. IsSame y.later (run_actions helping (a ∷ more) (seen ds words heap) heap) o) (sym (joined_runs helping x.now y.now words heap)) same;
        cost = omega (arith, here, costs, whole);
      }
