-- What still waits, of the code and as plain data.
use Rattle.std.proofs.Common.{◌≡◌, Bool, true, false, List, [], ◌∷◌, ◌++◌, Option, Some, None, refl, sym, ap, ◌∙◌, append-nil}
use Rattle.wasm2js_translation.specs.Names.{Name, same_name}
use Rattle.wasm2js_translation.specs.Words.{Term}
use Rattle.std.specs.Prelude.{filter, if◌then◌else◌}
use Rattle.wasm2js_translation.specs.Delays as delays
use Rattle.wasm2js_translation.specs.Delays.{those, waiting, word_or, at_hand}
use Rattle.wasm2js_terms.specs.Waits.{delayed_view, delays_view}
use Rattle.wasm2js_terms.specs.Held.{all_held, with_held}
use Rattle.wasm2js_terms.specs.declared.atoms.Delayed.{Delayed}
use Rattle.wasm2js_terms.specs.declared.held.Held.{Held}

step : (p : delays.Delayed → Bool) (b : Bool) (d : Delayed) (ds xs : List Delayed) (ys : List delays.Delayed) → delays_view xs ≡ ys
    → delays_view (if b then d ∷ xs else xs) ≡ (if b then delayed_view d ∷ ys else ys)
step p true d ds xs ys e = ap (λ (more : List delays.Delayed). delayed_view d ∷ more) e
step p false d ds xs ys e = e

pub those_filtered : (p : delays.Delayed → Bool) (ds : List Delayed) → delays_view (filter (λ d. p (delayed_view d)) ds) ≡ those p (delays_view ds)
those_filtered p [] = refl
those_filtered p (d ∷ ds) = step p (p (delayed_view d)) d ds (filter (λ x. p (delayed_view x)) ds) (those p (delays_view ds)) (those_filtered p ds)

-- ---- with the word that is held

those_and : (p : delays.Delayed → Bool) (ds es : List delays.Delayed) → those p (ds ++ es) ≡ those p ds ++ those p es
those_and p [] es = refl
those_and p (d ∷ ds) es = by (p d) (those_and p ds es)
  where
    by : (b : Bool) → those p (ds ++ es) ≡ those p ds ++ those p es → (if b then d ∷ those p (ds ++ es) else those p (ds ++ es)) ≡ (if b then d ∷ those p ds else those p ds) ++ those p es
    by true e = ap (λ (more : List delays.Delayed). d ∷ more) e
    by false e = e

held_last : (ds : List delays.Delayed) (o : Option Held) → with_held ds o ≡ ds ++ all_held o
held_last ds None = sym (append-nil ds)
held_last ds (Some h) = refl

-- of the code, which keeps those of the light words and of the one that is held
pub held_among : (p : delays.Delayed → Bool) (ds es : List delays.Delayed) (o q : Option Held) → es ≡ those p ds → all_held q ≡ those p (all_held o) → with_held es q ≡ those p (with_held ds o)
held_among p ds es o q lights rest =
    held_last es q ∙ ap (λ (xs : List delays.Delayed). xs ++ all_held q) lights ∙ ap (λ (xs : List delays.Delayed). those p ds ++ xs) rest
    ∙ sym (those_and p ds (all_held o)) ∙ ap (those p) (sym (held_last ds o))

-- ---- the word that stands for a variable

found_first : (ds es : List delays.Delayed) (n : Name) (t : Term) → Some t ≡ waiting ds n → Some t ≡ waiting (ds ++ es) n
found_first [] es n t e = absurd (cc e)
found_first (d ∷ ds) es n t e = by (same_name d.name n) (found_first ds es n t) e
  where
    by : (b : Bool) → (Some t ≡ waiting ds n → Some t ≡ waiting (ds ++ es) n) → Some t ≡ (if b then Some d.word else waiting ds n) → Some t ≡ (if b then Some d.word else waiting (ds ++ es) n)
    by true f g = g
    by false f g = f g

none_first : (ds es : List delays.Delayed) (n : Name) → None ≡ waiting ds n → waiting es n ≡ waiting (ds ++ es) n
none_first [] es n e = refl
none_first (d ∷ ds) es n e = by (same_name d.name n) (none_first ds es n) e
  where
    by : (b : Bool) → (None ≡ waiting ds n → waiting es n ≡ waiting (ds ++ es) n) → None ≡ (if b then Some d.word else waiting ds n) → waiting es n ≡ (if b then Some d.word else waiting (ds ++ es) n)
    by true f g = absurd (cc g)
    by false f g = f g

-- of a light one, and of the one that is held
pub light_at_hand : (ds : List delays.Delayed) (o : Option Held) (n : Name) (t : Term) → Some t ≡ waiting ds n → t ≡ at_hand (with_held ds o) n
light_at_hand ds o n t e = ap (λ (x : Option Term). word_or x n) (found_first ds (all_held o) n t e) ∙ ap (λ (es : List delays.Delayed). at_hand es n) (sym (held_last ds o))

pub held_at_hand : (ds : List delays.Delayed) (o : Option Held) (n : Name) (t : Term) → None ≡ waiting ds n → t ≡ at_hand (all_held o) n → t ≡ at_hand (with_held ds o) n
held_at_hand ds o n t e made = made ∙ ap (λ (x : Option Term). word_or x n) (none_first ds (all_held o) n e) ∙ ap (λ (es : List delays.Delayed). at_hand es n) (sym (held_last ds o))
