-- Straight code without what is needless may stand where the code may.
use Rattle.std.proofs.Common.{Bool, true, false, ◌||◌, List, [], ◌∷◌}
use Rattle.std.specs.Prelude.{if◌then◌else◌}
use Rattle.asm_lang_valid.specs.Typing.{Scope}
use Rattle.wasm2js_translation.specs.Words.{Term, Simple, Action, simply, either}
use Rattle.wasm2js_translation.specs.Pairs.{simples}
use Rattle.wasm2js_translation.specs.Delays.{one_changes}
use Rattle.wasm2js_translation.specs.Known.{Known, bound, is_within, unchanged, all_learned, Lean, is_needless, lean_action, lean}
use Rattle.wasm2js_laws_terms.specs.Sound.{IsSoundAction, AreSoundActions}
use Rattle.wasm2js_laws_typed.specs.Waiting.{LeanIsSound}
use Rattle.wasm2js_laws_typed.proofs.LateSound.{simples_sound, in_turn_sound}

-- the second arm alone, or both
abbrev pub one_or_both : List Known → Term → (first second : List Simple) → Bool → Lean
one_or_both ks t first second b =
    if b then record { now = simples second; known = all_learned ks second }
    else record { now = either t first second ∷ []; known = unchanged (λ n. one_changes first n || one_changes second n) ks }

module _ (s : Scope) where
  lean_action_sound : (ks : List Known) (a : Action) → IsSoundAction s a → AreSoundActions s (lean_action ks a).now
  lean_action_sound ks (simply x) h = by (is_needless ks x)
    where
      by : (b : Bool) → AreSoundActions s (if b then [] else simply x ∷ [])
      by true = tt
      by false = (h, tt)
  lean_action_sound ks (either t first second) h = by (is_within (bound ks t) 0)
    where
      by : (b : Bool) → AreSoundActions s (one_or_both ks t first second b).now
      by true = simples_sound s second h.2
      by false = (h, tt)

  lean_code_sound : (actions : List Action) (ks : List Known) → AreSoundActions s actions → AreSoundActions s (lean ks actions).now
  lean_code_sound [] ks h = tt
  lean_code_sound (a ∷ actions) ks h =
      in_turn_sound s (lean_action ks a).now _ (lean_action_sound ks a h.0) (lean_code_sound actions (lean_action ks a).known h.1)

pub lean_sound : LeanIsSound
lean_sound s ks actions h = lean_code_sound s actions ks h
