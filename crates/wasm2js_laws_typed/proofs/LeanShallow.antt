-- Straight code without what is needless is no deeper.
use Rattle.std.proofs.Common.{ℕ, ◌≤◌, max, Bool, true, false, List, [], ◌∷◌, arith}
use Rattle.std.specs.Prelude.{if◌then◌else◌}
use Rattle.wasm2js_translation.specs.Words.{Action, simply, either}
use Rattle.wasm2js_translation.specs.Known.{Known, bound, is_within, is_needless, lean_action, lean}
use Rattle.wasm2js_laws_terms.specs.Sound.{action_depth, actions_depth}
use Rattle.wasm2js_laws_typed.specs.Waiting.{LeanIsShallow}
use Rattle.wasm2js_laws_typed.proofs.LateShallow.{simples_deep, in_turn_deep}
use Rattle.wasm2js_laws_typed.proofs.LeanSound.{one_or_both}

lean_action_depth : (ks : List Known) (a : Action) → actions_depth (lean_action ks a).now ≤ action_depth a
lean_action_depth ks (simply x) = by (is_needless ks x)
  where
    by : (b : Bool) → actions_depth (if b then [] else simply x ∷ []) ≤ action_depth (simply x)
    by true = omega arith
    by false = omega arith
lean_action_depth ks (either t first second) = by (is_within (bound ks t) 0)
  where
    by : (b : Bool) → actions_depth (one_or_both ks t first second b).now ≤ action_depth (either t first second)
    by true = let e = simples_deep second in omega (arith, e)
    by false = omega arith

in_turn : (x y a b c : ℕ) → c ≤ max x y → x ≤ a → y ≤ b → c ≤ max a b
in_turn x y a b c p q r = omega (arith, p, q, r)

lean_depth : (actions : List Action) (ks : List Known) → actions_depth (lean ks actions).now ≤ actions_depth actions
lean_depth [] ks = omega arith
lean_depth (a ∷ actions) ks =
    let x = lean_action ks a in in_turn _ _ _ _ _ (in_turn_deep x.now (lean x.known actions).now) (lean_action_depth ks a) (lean_depth actions x.known)

pub lean_shallow : LeanIsShallow
lean_shallow ks actions = lean_depth actions ks
