-- Code whose words are written late calls the helpers that the code calls.
use Rattle.std.proofs.Common.{◌≡◌, Bool, true, false, List, [], ◌∷◌, ◌++◌, refl}
use Rattle.std.specs.Prelude.{if◌then◌else◌}
use Rattle.wasm2js_translation.specs.Names.{Name}
use Rattle.wasm2js_translation.specs.Words.{Term, read, Simple, put, ask, tell, guard, stop, write_byte, write_whole, Action, simply, either}
use Rattle.wasm2js_translation.specs.Pairs.{simples}
use Rattle.wasm2js_translation.specs.Delays.{Delayed, those, others, without, written, replaced, in_place, puts, Late, may_wait, at_once, late_among, late_arm, late_either, light, held, behind, takes, taken, late_simple, late_action, late}
use Rattle.wasm2js_laws_places.specs.Straight.{AsksHelpers, AskHelpers, ActionAsks, ActionsAsk}
use Rattle.wasm2js_laws_actions.specs.Laws.{LateAsksHelpers, WrittenAsksNone}

pub simples_ask : (xs : List Simple) → AskHelpers xs → ActionsAsk (simples xs)
simples_ask [] h = tt
simples_ask (x ∷ xs) h = (h.0, simples_ask xs h.1)

pub in_turn_ask : (xs ys : List Action) → ActionsAsk xs → ActionsAsk ys → ActionsAsk (xs ++ ys)
in_turn_ask [] ys h k = k
in_turn_ask (x ∷ xs) ys h k = (h.0, in_turn_ask xs ys h.1 k)

-- words that are written call nothing
written_ask : (ds : List Delayed) → ActionsAsk (simples (written ds))
written_ask [] = tt
written_ask (d ∷ ds) = (tt, written_ask ds)

one_more_asks : (ds : List Delayed) (x : Simple) → AsksHelpers x → ActionsAsk (simples (written ds ++ x ∷ []))
one_more_asks [] x h = (h, tt)
one_more_asks (d ∷ ds) x h = (tt, one_more_asks ds x h)

in_place_asks : (ds : List Delayed) (x : Simple) → AsksHelpers x → AsksHelpers (in_place ds x)
in_place_asks ds (put n t) h = tt
in_place_asks ds (ask n helper ts) h = h
in_place_asks ds (tell helper ts) h = h
in_place_asks ds (guard t most kind) h = tt
in_place_asks ds (stop kind) h = tt
in_place_asks ds (write_byte at t) h = tt
in_place_asks ds (write_whole at t) h = tt

at_once_asks : (ds : List Delayed) (x : Simple) → AsksHelpers x → ActionsAsk (at_once ds x).now
at_once_asks ds x h = one_more_asks (those _ ds) (in_place ds x) (in_place_asks ds x h)

put_asks : (ds : List Delayed) (n : Name) (t : Term) → ActionsAsk (late_among ds (put n t)).now
put_asks ds n t = by (may_wait ds n (replaced ds t))
  where
    by : (b : Bool) → ActionsAsk (if b then record { now = []; later = without n ds ++ record { name = n; word = replaced ds t } ∷ [] } else at_once ds (put n t)).now
    by true = tt
    by false = at_once_asks ds (put n t) tt

late_among_asks : (ds : List Delayed) (x : Simple) → AsksHelpers x → ActionsAsk (late_among ds x).now
late_among_asks ds (put n t) h = put_asks ds n t
late_among_asks ds x h = at_once_asks ds x h

behind_asks : (ds : List Delayed) (l : Late) → ActionsAsk l.now → ActionsAsk (behind ds l).now
behind_asks ds l h = in_turn_ask (simples (written (held ds))) l.now (written_ask (held ds)) h

taken_asks : (hs ls : List Delayed) (x : Simple) → takes hs ls x ≡ true → ActionsAsk (taken hs ls x).now
taken_asks (d ∷ []) ls (put n (read m)) e = one_more_asks (those _ ls) (put n d.word) tt
taken_asks hs ls x e = absurd (cc e)

late_simple_asks : (ds : List Delayed) (x : Simple) → AsksHelpers x → ActionsAsk (late_simple ds x).now
late_simple_asks ds x h = by (takes (held ds) (light ds) x) refl
  where
    by : (b : Bool) → takes (held ds) (light ds) x ≡ b → ActionsAsk (if b then taken (held ds) (light ds) x else behind ds (late_among (light ds) x)).now
    by true e = taken_asks (held ds) (light ds) x e
    by false e = behind_asks ds (late_among (light ds) x) (late_among_asks (light ds) x h)

late_arm_asks : (ds : List Delayed) (xs : List Simple) → AskHelpers xs → AskHelpers (late_arm ds xs)
late_arm_asks ds [] h = tt
late_arm_asks ds (x ∷ xs) h = (in_place_asks ds x h.0, late_arm_asks (others (λ d. puts x d.name) ds) xs h.1)

late_action_asks : (ds : List Delayed) (a : Action) → ActionAsks a → ActionsAsk (late_action ds a).now
late_action_asks ds (simply x) h = late_simple_asks ds x h
late_action_asks ds (either t first second) h =
    behind_asks ds (late_either (light ds) t first second)
    (in_turn_ask (simples (written (those _ (light ds)))) _ (written_ask (those _ (light ds))) ((late_arm_asks _ first h.0, late_arm_asks _ second h.1), tt))

late_asks : (actions : List Action) (ds : List Delayed) → ActionsAsk actions → ActionsAsk (late ds actions).now
late_asks [] ds h = tt
late_asks (a ∷ actions) ds h = in_turn_ask (late_action ds a).now _ (late_action_asks ds a h.0) (late_asks actions (late_action ds a).later h.1)

pub late_asks_helpers : LateAsksHelpers
late_asks_helpers ds actions h = late_asks actions ds h

pub written_asks_none : WrittenAsksNone
written_asks_none ds = written_ask ds
