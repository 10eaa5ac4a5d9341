-- What a part of a program of asm.js does, said by words and the heap: what straight code comes to, and a helper.
use Rattle.std.specs.Prelude.{◌≡◌, ℕ, ◌+◌, ◌<◌, ◌≤◌, List, [], ◌∷◌, map, true}
use Rattle.sem_words.specs.declared.word.Word.TheVariants.{W32}
use Rattle.sem_words.specs.declared.js_value.JsValue.{JsValue}
use Rattle.sem_words.specs.JsValues.{to_uint32_of}
use Rattle.session_lang.specs.Observation.{EndPlain, stopped, trap_name}
use Rattle.asm_lang.specs.Modules.{Function}
use Rattle.asm_lang_valid.specs.Scope.{a_function}
use Rattle.asm_lang_valid.specs.Typing.{Scope, named}
use Rattle.asm_lang_exec.specs.Runs as runs
use Rattle.asm_lang_exec.specs.Runs.{Place, Run, spent, wrong}
use Rattle.asm_lang_exec.specs.Values.{Calls}
use Rattle.asm_lang_exec.specs.Meaning.{Completion, normal}
use Rattle.wasm2js_translation.specs.Names.{Fixed}
use Rattle.wasm2js_translation.specs.Words.{name_of}
use Rattle.wasm2js_laws_places.specs.Straight.{Words, Answer, gives, traps, Helping, with_high, is_helper, Outcome, goes, stops}
use Rattle.wasm2js_laws_places.specs.Places.{word_at, names_in, IsHeap}

-- q has these words and this heap, and so many units fewer than p; nothing else of p has changed
pub record IsOn (bytes : ℕ) (words : Words) (heap : List ℕ) (units : ℕ) (p q : Place) : Type 0 where
  pub has_words : (n : _) → word_at q n ≡ words n
  pub has_heap : q.heap ≡ heap
  pub is_heap : IsHeap bytes heap
  pub left : q.units + units ≡ p.units
  pub locals : names_in q.locals ≡ names_in p.locals
  pub globals : names_in q.globals ≡ names_in p.globals
  pub events : q.events ≡ p.events
  pub replies : q.replies ≡ p.replies

-- the trap of this number was called, with this heap
pub record IsTrap (kind : ℕ) (heap : List ℕ) (p : Place) (e : EndPlain) (q : Place) : Type 0 where
  pub end : e ≡ stopped trap_name (W32 kind ∷ [])
  pub has_heap : q.heap ≡ heap
  pub events : q.events ≡ p.events

-- so many units weren't there
pub record IsShort (units : ℕ) (p q : Place) : Type 0 where
  pub few : p.units < units
  pub events : q.events ≡ p.events

-- what straight code comes to from p; where it goes wrong nothing is asked
abbrev pub Does : (bytes : ℕ) → Outcome → (units : ℕ) → Place → Run Completion → Type 0
Does bytes (goes words heap) units p (runs.goes d q) = (d ≡ normal) × IsOn bytes words heap units p q
Does bytes (goes words heap) units p (runs.stops e q) = ⊥
Does bytes (stops kind heap) units p (runs.goes d q) = ⊥
Does bytes (stops kind heap) units p (runs.stops e q) = IsTrap kind heap p e q
Does bytes o units p (spent q) = IsShort units p q
Does bytes o units p wrong = Unit {0}

-- what a call of a helper comes to
abbrev pub Helps : (bytes : ℕ) → Answer → (units : ℕ) → Place → Run JsValue → Type 0
Helps bytes (gives word high heap) units p (runs.goes v q) = (to_uint32_of v ≡ word) × IsOn bytes (with_high high (word_at p)) heap units p q
Helps bytes (gives word high heap) units p (runs.stops e q) = ⊥
Helps bytes (traps kind) units p (runs.goes v q) = ⊥
Helps bytes (traps kind) units p (runs.stops e q) = IsTrap kind p.heap p e q
Helps bytes a units p (spent q) = IsShort units p q
Helps bytes a units p wrong = Unit {0}

-- each function that has a helper's name does what is said of it, where calls lie at most so deep
abbrev pub AreHelpers : Scope → Calls → (bound bytes : ℕ) → Helping → Type 0
AreHelpers c calls bound bytes helping =
    (f : Fixed) (g : Function) → is_helper f ≡ true → named c (name_of f) ≡ a_function g → (vs : List JsValue) (p : Place) → IsHeap bytes p.heap → p.units ≤ bound
    → Helps bytes (helping.answer f (map to_uint32_of vs) p.heap) (helping.cost f (map to_uint32_of vs)) p (calls g vs p)
