-- How parts of a run are put together.
use Rattle.std.proofs.Common.{◌≡◌, ℕ, ◌≤◌, Bool, true, false, List, Option, Some, None, refl, subst, arith}
use Rattle.std.specs.Prelude.{if◌then◌else◌}
use Rattle.sem_words.specs.declared.js_value.JsValue.{JsValue}
use Rattle.asm_types.specs.declared.value_type.ValueType.{ValueType}
use Rattle.asm_lang_exec.specs.Runs.{Place, Run, goes, stops, spent, wrong, Part, after, gives, goes_wrong, defined}
use Rattle.asm_lang_exec.specs.Meaning.{in_type}
use Rattle.asm_run_code.specs.Machine.{State, going, Leads}
use Rattle.asm_run_laws.specs.Frames.{Setting, Frame, state, Shows, Goes, Does}
use Rattle.asm_run_laws.proofs.Fetched.{leads_on}

module _ (s : Setting) (x : Frame) where
  -- from a state that leads there
  pub does_from : {A : Type 0} → (shows : Shows A) (m n : ℕ) (t u : State) (o : Run A) → Leads s.codes t (going u) → m ≤ n → Does s x shows m u o → Does s x shows n t o
  does_from shows m n t u (goes a q) l le d =
      let few = d.few in record { at = d.at; words = d.words; leads = leads_on s.codes t u (going (state x d.at d.words q)) l d.leads; shown = d.shown; few = omega (arith, few, le) }
  does_from shows m n t u (stops e q) l le d = record { last = d.last; leads = leads_on s.codes t u _ l d.leads; events = d.events; heap = d.heap }
  does_from shows m n t u (spent q) l le d = record { last = d.last; leads = leads_on s.codes t u _ l d.leads; events = d.events }
  does_from shows m n t u wrong l le d = tt

  -- one part after another, which knows what the first came to
  pub does_then : {A B : Type 0} → (shows : Shows A) (shows_then : Shows B) (n : ℕ) (t : State) (o : Run A) (go : A → Part B) → Does s x shows n t o
      → ((a : A) (q : Place) (at : ℕ) (ws : List ℕ) → o ≡ goes a q → shows a q at ws → q.units ≤ n → Does s x shows_then q.units (state x at ws q) (go a q))
      → Does s x shows_then n t (after o go)
  does_then shows shows_then n t (goes a q) go d next =
      does_from shows_then q.units n t (state x d.at d.words q) (go a q) d.leads d.few (next a q d.at d.words refl d.shown d.few)
  does_then shows shows_then n t (stops e q) go d next = d
  does_then shows shows_then n t (spent q) go d next = d
  does_then shows shows_then n t wrong go d next = tt

  -- what is shown may say less
  pub does_more : {A : Type 0} → (shows shows_then : Shows A) (n : ℕ) (t : State) (o : Run A) → Does s x shows n t o
      → ((a : A) (q : Place) (at : ℕ) (ws : List ℕ) → o ≡ goes a q → shows a q at ws → shows_then a q at ws) → Does s x shows_then n t o
  does_more shows shows_then n t (goes a q) d next = record { at = d.at; words = d.words; leads = d.leads; shown = next a q d.at d.words refl d.shown; few = d.few }
  does_more shows shows_then n t (stops e q) d next = d
  does_more shows shows_then n t (spent q) d next = d
  does_more shows shows_then n t wrong d next = tt

  -- .. after further steps
  pub does_onward : {A : Type 0} → (shows shows_then : Shows A) (n : ℕ) (t : State) (o : Run A) → Does s x shows n t o
      → ((a : A) (q : Place) (at : ℕ) (ws : List ℕ) → o ≡ goes a q → shows a q at ws → Goes s x shows_then q.units (state x at ws q) a q) → Does s x shows_then n t o
  does_onward shows shows_then n t (goes a q) d next = does_from shows_then q.units n t (state x d.at d.words q) (goes a q) d.leads d.few (next a q d.at d.words refl d.shown)
  does_onward shows shows_then n t (stops e q) d next = d
  does_onward shows shows_then n t (spent q) d next = d
  does_onward shows shows_then n t wrong d next = tt

  pub does_same : {A : Type 0} → (shows : Shows A) (n : ℕ) (t : State) (o o' : Run A) → o ≡ o' → Does s x shows n t o → Does s x shows n t o'
  does_same shows n t o o' e d = subst (λ o. Does s x shows n t o) e d

  -- a value that is checked is the same, or the run is wrong
  pub does_seen : (shows : Shows JsValue) (n : ℕ) (t : State) (ty : Option ValueType) (o : Run JsValue) → Does s x shows n t o
      → Does s x shows n t (after o (λ v. if in_type ty v then gives v else goes_wrong))
  does_seen shows n t ty (goes v q) d = by (in_type ty v)
    where
      by : (b : Bool) → Does s x shows n t ((if b then gives v else goes_wrong) q)
      by true = d
      by false = tt
  does_seen shows n t ty (stops e q) d = d
  does_seen shows n t ty (spent q) d = d
  does_seen shows n t ty wrong d = tt

  pub does_defined : {A : Type 0} → (shows : Shows A) (n : ℕ) (t : State) (o : Option A) (q : Place) → ((a : A) → o ≡ Some a → Goes s x shows n t a q) → Does s x shows n t (defined o q)
  does_defined shows n t None q f = tt
  does_defined shows n t (Some a) q f = f a refl

-- one part after another, the first of which runs in a frame of its own
pub does_across : (s : Setting) (x y : Frame) {A B : Type 0} → (shows : Shows A) (shows_then : Shows B) (n : ℕ) (t : State) (o : Run A) (go : A → Part B) → Does s y shows n t o
    → ((a : A) (q : Place) (at : ℕ) (ws : List ℕ) → o ≡ goes a q → shows a q at ws → q.units ≤ n → Does s x shows_then q.units (state y at ws q) (go a q))
    → Does s x shows_then n t (after o go)
does_across s x y shows shows_then n t (goes a q) go d next =
    does_from s x shows_then q.units n t (state y d.at d.words q) (go a q) d.leads d.few (next a q d.at d.words refl d.shown d.few)
does_across s x y shows shows_then n t (stops e q) go d next = d
does_across s x y shows shows_then n t (spent q) go d next = d
does_across s x y shows shows_then n t wrong go d next = tt
