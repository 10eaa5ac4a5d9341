-- Straight code whose words are written late is no deeper: a word that stands in the place of a variable is as deep as that.
use Rattle.std.proofs.Common.{◌≡◌, ℕ, ◌+◌, ◌≤◌, max, Bool, true, false, List, [], ◌∷◌, ◌++◌, Some, refl, sym, ap, subst, arith}
use Rattle.std.specs.Prelude.{if◌then◌else◌}
use Rattle.wasm_lang.specs.declared.types.ValType.{ValType}
use Rattle.wasm2js_translation.specs.Names.{Name, same_name}
use Rattle.wasm2js_translation.specs.Words.{Term, read, number, both, flip, sum, product, zeros, compare, choose, byte, whole, Summands, no_more, further, Simple, put, ask, tell, guard, stop, write_byte, write_whole, Action, simply, either}
use Rattle.wasm2js_translation.specs.Pairs.{simples}
use Rattle.wasm2js_translation.specs.Delays.{Delayed, is_light, waiting, those, others, without, written, word_or, at_hand, replaced, replaced_summands, all_replaced, in_place, puts, Late, may_wait, at_once, late_among, late_arm, late_either, light, held, behind, takes, taken, late_simple, late_action, late, stands, standing}
use Rattle.wasm2js_laws_terms.specs.Sound.{term_depth, summands_depth, terms_depth, simple_depth, simples_depth, action_depth, actions_depth}
use Rattle.wasm2js_laws_typed.specs.Waiting.{AreShallow, LateIsShallow}

-- ---- what waits

light_depth : (t : Term) → is_light t ≡ true → term_depth t ≡ 1
light_depth (read n) h = refl
light_depth (number z) h = refl
light_depth (both op a b) h = absurd (cc h)
light_depth (flip a) h = absurd (cc h)
light_depth (sum a ts) h = absurd (cc h)
light_depth (product a b) h = absurd (cc h)
light_depth (zeros a) h = absurd (cc h)
light_depth (compare signed r a b) h = absurd (cc h)
light_depth (choose t a b) h = absurd (cc h)
light_depth (byte signed at) h = absurd (cc h)
light_depth (whole at) h = absurd (cc h)

abbrev AreLight : List Delayed → Type 0
AreLight [] = Unit {0}
AreLight (d ∷ ds) = (is_light d.word ≡ true) × AreLight ds

those_light : (asked : Delayed → Bool) (ds : List Delayed) → AreLight ds → AreLight (those asked ds)
those_light asked [] h = tt
those_light asked (d ∷ ds) h = by (those_light asked ds h.1) (asked d)
  where
    by : AreLight (those asked ds) → (b : Bool) → AreLight (if b then d ∷ those asked ds else those asked ds)
    by rest true = (h.0, rest)
    by rest false = rest

all_light : (ds : List Delayed) → AreLight (light ds)
all_light [] = tt
all_light (d ∷ ds) = by (is_light d.word) refl (all_light ds)
  where
    by : (b : Bool) → is_light d.word ≡ b → AreLight (light ds) → AreLight (if b then d ∷ light ds else light ds)
    by true e rest = (e, rest)
    by false e rest = rest

module _ (n : ℕ) where
  pub those_shallow : (asked : Delayed → Bool) (ds : List Delayed) → AreShallow n ds → AreShallow n (those asked ds)
  those_shallow asked [] h = tt
  those_shallow asked (d ∷ ds) h = by (those_shallow asked ds h.1) (asked d)
    where
      by : AreShallow n (those asked ds) → (b : Bool) → AreShallow n (if b then d ∷ those asked ds else those asked ds)
      by rest true = (h.0, rest)
      by rest false = rest

  pub standing_shallow : (b : ℕ) (ts : List ValType) (ds : List Delayed) → AreShallow n ds → AreShallow n (standing b ts ds)
  standing_shallow b ts ds h = those_shallow (λ d. stands b ts d.name) ds h

  joined_shallow : (ds more : List Delayed) → AreShallow n ds → AreShallow n more → AreShallow n (ds ++ more)
  joined_shallow [] more h k = k
  joined_shallow (d ∷ ds) more h k = (h.0, joined_shallow ds more h.1 k)

  written_shallow : (ds : List Delayed) → AreShallow n ds → simples_depth (written ds) ≤ n
  written_shallow [] h = omega arith
  written_shallow (d ∷ ds) h = let first = h.0 in let rest = written_shallow ds h.1 in omega (arith, first, rest)

-- ---- terms

at_hand_depth : (ds : List Delayed) (n : Name) → AreLight ds → term_depth (at_hand ds n) ≡ 1
at_hand_depth [] n h = refl
at_hand_depth (d ∷ ds) n h = by (at_hand_depth ds n h.1) (same_name d.name n)
  where
    by : term_depth (at_hand ds n) ≡ 1 → (b : Bool) → term_depth (word_or (if b then Some d.word else waiting ds n) n) ≡ 1
    by rest true = light_depth d.word h.0
    by rest false = rest

two : {a b c d : ℕ} → a ≡ c → b ≡ d → max a b ≡ max c d
two p q = rw (p, q) refl

module _ (ds : List Delayed) (h : AreLight ds) where
  mutual
    pub replaced_depth : (t : Term) → term_depth (replaced ds t) ≡ term_depth t
    replaced_depth (read n) = at_hand_depth ds n h
    replaced_depth (number z) = refl
    replaced_depth (both op a b) = ap (λ n. 1 + n) (two (replaced_depth a) (replaced_depth b))
    replaced_depth (flip a) = ap (λ n. 1 + n) (replaced_depth a)
    replaced_depth (sum a ts) = ap (λ n. 1 + n) (two (replaced_depth a) (summands_as_deep ts))
    replaced_depth (product a b) = ap (λ n. 1 + n) (two (replaced_depth a) (replaced_depth b))
    replaced_depth (zeros a) = ap (λ n. 1 + n) (replaced_depth a)
    replaced_depth (compare signed r a b) = ap (λ n. 1 + n) (two (replaced_depth a) (replaced_depth b))
    replaced_depth (choose t a b) = ap (λ n. 1 + n) (two (replaced_depth t) (two (replaced_depth a) (replaced_depth b)))
    replaced_depth (byte signed at) = ap (λ n. 1 + n) (replaced_depth at)
    replaced_depth (whole at) = ap (λ n. 1 + n) (replaced_depth at)

    summands_as_deep : (ts : Summands) → summands_depth (replaced_summands ds ts) ≡ summands_depth ts
    summands_as_deep no_more = refl
    summands_as_deep (further minus t ts) = two (replaced_depth t) (summands_as_deep ts)

  terms_as_deep : (ts : List Term) → terms_depth (all_replaced ds ts) ≡ terms_depth ts
  terms_as_deep [] = refl
  terms_as_deep (t ∷ ts) = two (replaced_depth t) (terms_as_deep ts)

  in_place_depth : (x : Simple) → simple_depth (in_place ds x) ≡ simple_depth x
  in_place_depth (put n t) = replaced_depth t
  in_place_depth (ask n helper ts) = terms_as_deep ts
  in_place_depth (tell helper ts) = terms_as_deep ts
  in_place_depth (guard t most kind) = replaced_depth t
  in_place_depth (stop kind) = refl
  in_place_depth (write_byte at t) = two (replaced_depth at) (replaced_depth t)
  in_place_depth (write_whole at t) = two (replaced_depth at) (replaced_depth t)

late_arm_depth : (ds : List Delayed) (xs : List Simple) → AreLight ds → simples_depth (late_arm ds xs) ≡ simples_depth xs
late_arm_depth ds [] h = refl
late_arm_depth ds (x ∷ xs) h = two (in_place_depth ds h x) (late_arm_depth (others (λ d. puts x d.name) ds) xs (those_light _ ds h))

-- ---- straight code

pub simples_deep : (xs : List Simple) → actions_depth (simples xs) ≡ simples_depth xs
simples_deep [] = refl
simples_deep (x ∷ xs) = two {a = simple_depth x} refl (simples_deep xs)

one_more_deep : (xs : List Simple) (x : Simple) → simples_depth (xs ++ x ∷ []) ≤ max (simples_depth xs) (simple_depth x)
one_more_deep [] x = omega arith
one_more_deep (y ∷ xs) x = let rest = one_more_deep xs x in omega (arith, rest)

pub in_turn_deep : (xs ys : List Action) → actions_depth (xs ++ ys) ≤ max (actions_depth xs) (actions_depth ys)
in_turn_deep [] ys = omega arith
in_turn_deep (x ∷ xs) ys = let rest = in_turn_deep xs ys in omega (arith, rest)

-- what waits then, and what is written, is no deeper than so much
module _ (n : ℕ) where
  abbrev IsShallowLate : Late → Type 0
  IsShallowLate x = AreShallow n x.later × (actions_depth x.now ≤ n)

  pub written_deep : (ds : List Delayed) → AreShallow n ds → actions_depth (simples (written ds)) ≤ n
  written_deep ds h = subst (λ m. m ≤ n) (sym (simples_deep (written ds))) (written_shallow n ds h)

  at_most : {a b c : ℕ} → a ≤ max b c → b ≤ n → c ≤ n → a ≤ n
  at_most p q r = omega (arith, p, q, r)

  as_deep : {a b : ℕ} → a ≡ b → b ≤ n → a ≤ n
  as_deep p q = omega (arith, p, q)

  one_more_shallow : (ds : List Delayed) (x : Simple) → AreShallow n ds → simple_depth x ≤ n → actions_depth (simples (written ds ++ x ∷ [])) ≤ n
  one_more_shallow ds x h k = subst (λ m. m ≤ n) (sym (simples_deep (written ds ++ x ∷ []))) (at_most (one_more_deep (written ds) x) (written_shallow n ds h) k)

  at_once_shallow : (ds : List Delayed) (x : Simple) → AreLight ds → AreShallow n ds → simple_depth x ≤ n → IsShallowLate (at_once ds x)
  at_once_shallow ds x are h k = (those_shallow n _ ds h, one_more_shallow (those _ ds) (in_place ds x) (those_shallow n _ ds h) (as_deep (in_place_depth ds are x) k))

  put_shallow : (ds : List Delayed) (m : Name) (t : Term) → AreLight ds → AreShallow n ds → term_depth t ≤ n → IsShallowLate (late_among ds (put m t))
  put_shallow ds m t are h k = by (may_wait ds m (replaced ds t))
    where
      by : (b : Bool) → IsShallowLate (if b then record { now = []; later = without m ds ++ record { name = m; word = replaced ds t } ∷ [] } else at_once ds (put m t))
      by true = (joined_shallow n (without m ds) _ (those_shallow n _ ds h) (as_deep (replaced_depth ds are t) k, tt), omega arith)
      by false = at_once_shallow ds (put m t) are h k

  late_among_shallow : (ds : List Delayed) (x : Simple) → AreLight ds → AreShallow n ds → simple_depth x ≤ n → IsShallowLate (late_among ds x)
  late_among_shallow ds (put m t) are h k = put_shallow ds m t are h k
  late_among_shallow ds x are h k = at_once_shallow ds x are h k

  late_either_shallow : (ds : List Delayed) (t : Term) (first second : List Simple) → AreLight ds → AreShallow n ds → action_depth (either t first second) ≤ n → IsShallowLate (late_either ds t first second)
  late_either_shallow ds t first second are h k = (
    those_shallow n _ ds h,
    at_most (in_turn_deep (simples (written (those _ ds))) _) (written_deep _ (those_shallow n _ ds h))
        (alone (as_deep (two (replaced_depth ds are t) (two (late_arm_depth _ first (those_light _ ds are)) (late_arm_depth _ second (those_light _ ds are)))) k)),
  )
    where
      alone : {a : ℕ} → a ≤ n → max a 0 ≤ n
      alone p = omega (arith, p)

  behind_shallow : (ds : List Delayed) (l : Late) → AreShallow n ds → IsShallowLate l → IsShallowLate (behind ds l)
  behind_shallow ds l h k = (k.0, at_most (in_turn_deep (simples (written (held ds))) l.now) (written_deep _ (those_shallow n _ ds h)) k.1)

  taken_shallow : (hs ls : List Delayed) (x : Simple) → takes hs ls x ≡ true → AreShallow n hs → AreShallow n ls → simple_depth x ≤ n → IsShallowLate (taken hs ls x)
  taken_shallow (d ∷ []) ls (put m (read r)) e h l k = (joined_shallow n (others _ ls) _ (those_shallow n _ ls l) (k, tt), one_more_shallow (those _ ls) (put m d.word) (those_shallow n _ ls l) h.0)
  taken_shallow hs ls x e h l k = absurd (cc e)

  late_simple_shallow : (ds : List Delayed) (x : Simple) → AreShallow n ds → simple_depth x ≤ n → IsShallowLate (late_simple ds x)
  late_simple_shallow ds x h k = by (takes (held ds) (light ds) x) refl
    where
      by : (b : Bool) → takes (held ds) (light ds) x ≡ b → IsShallowLate (if b then taken (held ds) (light ds) x else behind ds (late_among (light ds) x))
      by true e = taken_shallow (held ds) (light ds) x e (those_shallow n _ ds h) (those_shallow n _ ds h) k
      by false e = behind_shallow ds (late_among (light ds) x) h (late_among_shallow (light ds) x (all_light ds) (those_shallow n _ ds h) k)

  late_action_shallow : (ds : List Delayed) (a : Action) → AreShallow n ds → action_depth a ≤ n → IsShallowLate (late_action ds a)
  late_action_shallow ds (simply x) h k = late_simple_shallow ds x h k
  late_action_shallow ds (either t first second) h k =
      behind_shallow ds (late_either (light ds) t first second) h (late_either_shallow (light ds) t first second (all_light ds) (those_shallow n _ ds h) k)

  first_low : (a b : ℕ) → max a b ≤ n → a ≤ n
  first_low a b p = omega (arith, p)

  rest_low : (a b : ℕ) → max a b ≤ n → b ≤ n
  rest_low a b p = omega (arith, p)

  actions_shallow : (actions : List Action) (ds : List Delayed) → AreShallow n ds → actions_depth actions ≤ n → IsShallowLate (late ds actions)
  actions_shallow [] ds h k = (h, omega arith)
  actions_shallow (a ∷ actions) ds h k =
      let first = late_action_shallow ds a h (first_low (action_depth a) (actions_depth actions) k) in
      let rest = actions_shallow actions (late_action ds a).later first.0 (rest_low (action_depth a) (actions_depth actions) k) in
      (rest.0, at_most (in_turn_deep (late_action ds a).now (late (late_action ds a).later actions).now) first.1 rest.1)

pub late_shallow : LateIsShallow
late_shallow n ds actions h k = actions_shallow n actions ds h k
