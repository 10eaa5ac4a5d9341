-- Code without what is needless calls the helpers that the code calls.
use Rattle.std.proofs.Common.{Bool, true, false, ◌||◌, List, [], ◌∷◌}
use Rattle.std.specs.Prelude.{if◌then◌else◌}
use Rattle.wasm2js_translation.specs.Words.{Term, Simple, Action, simply, either}
use Rattle.wasm2js_translation.specs.Pairs.{simples}
use Rattle.wasm2js_translation.specs.Delays.{one_changes}
use Rattle.wasm2js_translation.specs.Known.{Known, bound, is_within, unchanged, all_learned, Lean, is_needless, lean_action, lean}
use Rattle.wasm2js_laws_places.specs.Straight.{ActionAsks, ActionsAsk}
use Rattle.wasm2js_laws_actions.specs.Laws.{LeanAsksHelpers}
use Rattle.wasm2js_laws_actions.proofs.LateAsking.{simples_ask, in_turn_ask}

-- the second arm alone, or both
abbrev one_or_both : List Known → Term → (first second : List Simple) → Bool → Lean
one_or_both ks t first second b =
    if b then record { now = simples second; known = all_learned ks second }
    else record { now = either t first second ∷ []; known = unchanged (λ n. one_changes first n || one_changes second n) ks }

lean_action_asks : (ks : List Known) (a : Action) → ActionAsks a → ActionsAsk (lean_action ks a).now
lean_action_asks ks (simply s) h = by (is_needless ks s)
  where
    by : (b : Bool) → ActionsAsk (if b then [] else simply s ∷ [])
    by true = tt
    by false = (h, tt)
lean_action_asks ks (either t first second) h = by (is_within (bound ks t) 0)
  where
    by : (b : Bool) → ActionsAsk (one_or_both ks t first second b).now
    by true = simples_ask second h.1
    by false = (h, tt)

lean_asks : (actions : List Action) (ks : List Known) → ActionsAsk actions → ActionsAsk (lean ks actions).now
lean_asks [] ks h = tt
lean_asks (a ∷ actions) ks h = in_turn_ask (lean_action ks a).now _ (lean_action_asks ks a h.0) (lean_asks actions (lean_action ks a).known h.1)

pub lean_asks_helpers : LeanAsksHelpers
lean_asks_helpers ks actions h = lean_asks actions ks h
