-- What follows a part that only reads.
use Rattle.std.proofs.Common.{◌≡◌, ℕ, List, ◌∷◌, refl, sym, subst}
use Rattle.std.specs.Prelude.{map}
use Rattle.sem_words.specs.declared.js_value.JsValue.{JsValue}
use Rattle.sem_words.specs.JsValues.{to_uint32_of}
use Rattle.asm_lang_exec.specs.Runs.{Place, Run, goes, stops, spent, wrong, Part, after, and_then, gives}
use Rattle.wasm2js_laws_actions.specs.Reads.{Reads, ReadsAll, Finds}

pub read_then : {B : Type 0} (P : Run B → Type 0) (x : ℕ) (p : Place) (r : Run JsValue) (next : JsValue → Part B)
    → P wrong → Reads x p r → ((v : JsValue) → to_uint32_of v ≡ x → P (next v p)) → P (after r next)
read_then P x p (goes v q) next w h f = subst (λ q. P (next v q)) (sym h.0) (f v h.1)
read_then P x p (stops e q) next w h f = absurd h
read_then P x p (spent q) next w h f = absurd h
read_then P x p wrong next w h f = w

pub all_then : {B : Type 0} (P : Run B → Type 0) (xs : List ℕ) (p : Place) (r : Run (List JsValue)) (next : List JsValue → Part B)
    → P wrong → ReadsAll xs p r → ((vs : List JsValue) → map to_uint32_of vs ≡ xs → P (next vs p)) → P (after r next)
all_then P xs p (goes vs q) next w h f = subst (λ q. P (next vs q)) (sym h.0) (f vs h.1)
all_then P xs p (stops e q) next w h f = absurd h
all_then P xs p (spent q) next w h f = absurd h
all_then P xs p wrong next w h f = w

pub found_then : {B : Type 0} (P : Run B → Type 0) (x : JsValue) (p : Place) (r : Run JsValue) (next : JsValue → Part B)
    → P wrong → Finds x p r → P (next x p) → P (after r next)
found_then P x p (goes v q) next w h f = subst (λ q. P (next v q)) (sym h.0) (subst (λ v. P (next v p)) (sym h.1) f)
found_then P x p (stops e q) next w h f = absurd h
found_then P x p (spent q) next w h f = absurd h
found_then P x p wrong next w h f = w

-- one more value before others
pub one_more : (x : ℕ) (xs : List ℕ) (p : Place) (r : Run JsValue) (others : Part (List JsValue)) → Reads x p r → ReadsAll xs p (others p)
    → ReadsAll (x ∷ xs) p (after r (λ v. and_then others (λ vs. gives (v ∷ vs))))
one_more x xs p r others h k =
    read_then (ReadsAll (x ∷ xs) p) x p r (λ v. and_then others (λ vs. gives (v ∷ vs))) tt h
    (λ v e. all_then (ReadsAll (x ∷ xs) p) xs p (others p) (λ vs. gives (v ∷ vs)) tt k (λ vs es. (refl, cc (e, es))))
