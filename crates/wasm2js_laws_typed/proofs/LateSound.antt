-- Straight code whose words are written late may stand where the code may.
use Rattle.std.proofs.Common.{◌≡◌, suc, Bool, true, false, List, [], ◌∷◌, ◌++◌, length, Some, refl, sym, ap, ◌∙◌, subst, ◌≤◌}
use Rattle.std.specs.Prelude.{if◌then◌else◌}
use Rattle.asm_lang_valid.specs.Typing.{Scope, most_operators}
use Rattle.wasm2js_translation.specs.Names.{Name, same_name}
use Rattle.wasm2js_translation.specs.Words.{Term, read, number, both, flip, sum, product, zeros, compare, choose, byte, whole, Summands, no_more, further, Simple, put, ask, tell, guard, stop, write_byte, write_whole, Action, simply, either, simple_statement, simple_statements, statements}
use Rattle.wasm2js_translation.specs.Pairs.{simples}
use Rattle.wasm2js_translation.specs.Delays.{Delayed, is_light, waiting, those, others, without, written, word_or, at_hand, replaced, replaced_summands, all_replaced, in_place, puts, Late, may_wait, at_once, late_among, late_arm, late_either, light, held, behind, takes, taken, late_simple, late_action, late, stands}
use Rattle.wasm2js_laws_terms.specs.Sound.{IsInt, IsSound, AreSound, AllSound, IsHelper, IsSoundSimple, AreSoundSimple, IsSoundAction, AreSoundActions, some_summands, summands_length}
use Rattle.wasm2js_laws_typed.specs.Waiting.{AreSoundWaiting, LateIsSound, WrittenIsSound, StandingIsSound}

-- ---- lists of the same length

summands_some : (ds : List Delayed) (ts : Summands) → some_summands (replaced_summands ds ts) ≡ some_summands ts
summands_some ds no_more = refl
summands_some ds (further minus t ts) = refl

summands_long : (ds : List Delayed) (ts : Summands) → summands_length (replaced_summands ds ts) ≡ summands_length ts
summands_long ds no_more = refl
summands_long ds (further minus t ts) = ap suc (summands_long ds ts)

all_long : (ds : List Delayed) (ts : List Term) → length (all_replaced ds ts) ≡ length ts
all_long ds [] = refl
all_long ds (t ∷ ts) = ap suc (all_long ds ts)

module _ (s : Scope) where
  -- ---- what waits

  pub those_sound : (asked : Delayed → Bool) (ds : List Delayed) → AreSoundWaiting s ds → AreSoundWaiting s (those asked ds)
  those_sound asked [] h = tt
  those_sound asked (d ∷ ds) h = by (those_sound asked ds h.2) (asked d)
    where
      by : AreSoundWaiting s (those asked ds) → (b : Bool) → AreSoundWaiting s (if b then d ∷ those asked ds else those asked ds)
      by rest true = (h.0, h.1, rest)
      by rest false = rest

  joined_sound : (ds more : List Delayed) → AreSoundWaiting s ds → AreSoundWaiting s more → AreSoundWaiting s (ds ++ more)
  joined_sound [] more h k = k
  joined_sound (d ∷ ds) more h k = (h.0, h.1, joined_sound ds more h.2 k)

  pub written_sound : (ds : List Delayed) → AreSoundWaiting s ds → AreSoundSimple s (written ds)
  written_sound [] h = tt
  written_sound (d ∷ ds) h = ((h.0, h.1), written_sound ds h.2)

  -- ---- terms

  pub at_hand_sound : (ds : List Delayed) (n : Name) → AreSoundWaiting s ds → IsInt s n → IsSound s (at_hand ds n)
  at_hand_sound [] n h k = k
  at_hand_sound (d ∷ ds) n h k = by (at_hand_sound ds n h.2 k) (same_name d.name n)
    where
      by : IsSound s (at_hand ds n) → (b : Bool) → IsSound s (word_or (if b then Some d.word else waiting ds n) n)
      by rest true = h.1
      by rest false = rest

  module _ (ds : List Delayed) (h : AreSoundWaiting s ds) where
    mutual
      pub replaced_sound : (t : Term) → IsSound s t → IsSound s (replaced ds t)
      replaced_sound (read n) k = at_hand_sound ds n h k
      replaced_sound (number z) k = k
      replaced_sound (both op a b) k = (replaced_sound a k.0, replaced_sound b k.1)
      replaced_sound (flip a) k = replaced_sound a k
      replaced_sound (sum a ts) k = (
        replaced_sound a k.0,
        summands_sound ts k.1,
        summands_some ds ts ∙ k.2,
        subst (λ n. n ≤ most_operators) (sym (summands_long ds ts)) k.3,
      )
      replaced_sound (product a b) k = (k.0, replaced_sound a k.1, replaced_sound b k.2)
      replaced_sound (zeros a) k = (k.0, replaced_sound a k.1)
      replaced_sound (compare signed r a b) k = (replaced_sound a k.0, replaced_sound b k.1)
      replaced_sound (choose t a b) k = (replaced_sound t k.0, replaced_sound a k.1, replaced_sound b k.2)
      replaced_sound (byte signed at) k = (k.0, replaced_sound at k.1)
      replaced_sound (whole at) k = (k.0, replaced_sound at k.1)

      summands_sound : (ts : Summands) → AreSound s ts → AreSound s (replaced_summands ds ts)
      summands_sound no_more k = tt
      summands_sound (further minus t ts) k = (replaced_sound t k.0, summands_sound ts k.1)

    all_sound : (ts : List Term) → AllSound s ts → AllSound s (all_replaced ds ts)
    all_sound [] k = tt
    all_sound (t ∷ ts) k = (replaced_sound t k.0, all_sound ts k.1)

    in_place_sound : (x : Simple) → IsSoundSimple s x → IsSoundSimple s (in_place ds x)
    in_place_sound (put n t) k = (k.0, replaced_sound t k.1)
    in_place_sound (ask n helper ts) k = (k.0, subst (λ m. IsHelper s helper m true) (sym (all_long ds ts)) k.1, all_sound ts k.2)
    in_place_sound (tell helper ts) k = (subst (λ m. IsHelper s helper m false) (sym (all_long ds ts)) k.0, all_sound ts k.1)
    in_place_sound (guard t most kind) k = (replaced_sound t k.0, k.1, k.2)
    in_place_sound (stop kind) k = k
    in_place_sound (write_byte at t) k = (k.0, replaced_sound at k.1, replaced_sound t k.2)
    in_place_sound (write_whole at t) k = (k.0, replaced_sound at k.1, replaced_sound t k.2)

  -- ---- straight code

  pub simples_sound : (xs : List Simple) → AreSoundSimple s xs → AreSoundActions s (simples xs)
  simples_sound [] h = tt
  simples_sound (x ∷ xs) h = (h.0, simples_sound xs h.1)

  one_more_sound : (xs : List Simple) (x : Simple) → AreSoundSimple s xs → IsSoundSimple s x → AreSoundSimple s (xs ++ x ∷ [])
  one_more_sound [] x h k = (k, tt)
  one_more_sound (y ∷ xs) x h k = (h.0, one_more_sound xs x h.1 k)

  pub in_turn_sound : (xs ys : List Action) → AreSoundActions s xs → AreSoundActions s ys → AreSoundActions s (xs ++ ys)
  in_turn_sound [] ys h k = k
  in_turn_sound (x ∷ xs) ys h k = (h.0, in_turn_sound xs ys h.1 k)

  abbrev IsSoundLate : Late → Type 0
  IsSoundLate x = AreSoundActions s x.now × AreSoundWaiting s x.later

  at_once_sound : (ds : List Delayed) (x : Simple) → IsSoundSimple s x → AreSoundWaiting s ds → IsSoundLate (at_once ds x)
  at_once_sound ds x k h = (
    simples_sound _ (one_more_sound (written (those _ ds)) (in_place ds x) (written_sound _ (those_sound _ ds h)) (in_place_sound ds h x k)),
    those_sound _ ds h,
  )

  put_sound : (ds : List Delayed) (n : Name) (t : Term) → IsSoundSimple s (put n t) → AreSoundWaiting s ds → IsSoundLate (late_among ds (put n t))
  put_sound ds n t k h = by (may_wait ds n (replaced ds t))
    where
      by : (b : Bool) → IsSoundLate (if b then record { now = []; later = without n ds ++ record { name = n; word = replaced ds t } ∷ [] } else at_once ds (put n t))
      by true = (tt, joined_sound (without n ds) _ (those_sound _ ds h) (k.0, replaced_sound ds h t k.1, tt))
      by false = at_once_sound ds (put n t) k h

  late_among_sound : (ds : List Delayed) (x : Simple) → IsSoundSimple s x → AreSoundWaiting s ds → IsSoundLate (late_among ds x)
  late_among_sound ds (put n t) k h = put_sound ds n t k h
  late_among_sound ds x k h = at_once_sound ds x k h

  behind_sound : (ds : List Delayed) (l : Late) → AreSoundWaiting s ds → IsSoundLate l → IsSoundLate (behind ds l)
  behind_sound ds l h k = (in_turn_sound (simples (written (held ds))) l.now (simples_sound _ (written_sound _ (those_sound _ ds h))) k.0, k.1)

  taken_sound : (hs ls : List Delayed) (x : Simple) → takes hs ls x ≡ true → IsSoundSimple s x → AreSoundWaiting s hs → AreSoundWaiting s ls → IsSoundLate (taken hs ls x)
  taken_sound (d ∷ []) ls (put n (read m)) e k h l = (
    simples_sound _ (one_more_sound (written (those _ ls)) (put n d.word) (written_sound _ (those_sound _ ls l)) (k.0, h.1)),
    joined_sound (others _ ls) _ (those_sound _ ls l) (h.0, k.0, tt),
  )
  taken_sound hs ls x e k h l = absurd (cc e)

  late_simple_sound : (ds : List Delayed) (x : Simple) → IsSoundSimple s x → AreSoundWaiting s ds → IsSoundLate (late_simple ds x)
  late_simple_sound ds x k h = by (takes (held ds) (light ds) x) refl
    where
      by : (b : Bool) → takes (held ds) (light ds) x ≡ b → IsSoundLate (if b then taken (held ds) (light ds) x else behind ds (late_among (light ds) x))
      by true e = taken_sound (held ds) (light ds) x e k (those_sound _ ds h) (those_sound _ ds h)
      by false e = behind_sound ds (late_among (light ds) x) h (late_among_sound (light ds) x k (those_sound _ ds h))

  late_arm_sound : (ds : List Delayed) (xs : List Simple) → AreSoundSimple s xs → AreSoundWaiting s ds → AreSoundSimple s (late_arm ds xs)
  late_arm_sound ds [] k h = tt
  late_arm_sound ds (x ∷ xs) k h = (in_place_sound ds h x k.0, late_arm_sound (others (λ d. puts x d.name) ds) xs k.1 (those_sound _ ds h))

  late_action_sound : (ds : List Delayed) (a : Action) → IsSoundAction s a → AreSoundWaiting s ds → IsSoundLate (late_action ds a)
  late_action_sound ds (simply x) k h = late_simple_sound ds x k h
  late_action_sound ds (either t first second) k h =
      let l = those_sound (λ d. is_light d.word) ds h in
      behind_sound ds (late_either (light ds) t first second) h (
        in_turn_sound (simples (written (those _ (light ds)))) _ (simples_sound _ (written_sound _ (those_sound _ (light ds) l)))
            ((replaced_sound (light ds) l t k.0, late_arm_sound _ first k.1 (those_sound _ (light ds) l), late_arm_sound _ second k.2 (those_sound _ (light ds) l)), tt),
        those_sound _ (light ds) l,
      )

  actions_sound : (actions : List Action) (ds : List Delayed) → AreSoundActions s actions → AreSoundWaiting s ds → IsSoundLate (late ds actions)
  actions_sound [] ds k h = (tt, h)
  actions_sound (a ∷ actions) ds k h =
      let first = late_action_sound ds a k.0 h in
      let rest = actions_sound actions (late_action ds a).later k.1 first.1 in (in_turn_sound (late_action ds a).now _ first.0 rest.0, rest.1)

pub late_sound : LateIsSound
late_sound s ds actions k h = actions_sound s actions ds k h

pub written_is_sound : WrittenIsSound
written_is_sound s ds h = written_sound s ds h

pub standing_sound : StandingIsSound
standing_sound s b ts ds h = those_sound s (λ d. stands b ts d.name) ds h

-- ---- words that are written, as actions

pub simple_actions : (xs : List Simple) → statements (simples xs) ≡ simple_statements xs
simple_actions [] = refl
simple_actions (x ∷ xs) = ap (λ ss. simple_statement x ∷ ss) (simple_actions xs)
