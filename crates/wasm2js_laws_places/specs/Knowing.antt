-- What is known of words, where it holds, and that straight code without what is needless by it does what the whole code does.
use Rattle.std.specs.Prelude.{◌≡◌, ℕ, ◌≤◌, ◌%◌, true, List, [], ◌∷◌, Option, Some, None}
use Rattle.wasm2js_translation.specs.Words.{Term, Action}
use Rattle.wasm2js_translation.specs.Known.{Fact, Known, bound, by_four, lean}
use Rattle.wasm2js_laws_places.specs.Straight.{Words, value, Helping, goes, run_actions, actions_units}

abbrev pub IsBound : Option ℕ → ℕ → Type 0
IsBound None w = Unit {0}
IsBound (Some m) w = w ≤ m

-- of a word
pub record IsFact (f : Fact) (w : ℕ) : Type 0 where
  pub bound : IsBound f.most w
  pub by_four : f.by_four ≡ true → w % 4 ≡ 0

-- of the words of the variables
abbrev pub AreKnown : List Known → Words → Type 0
AreKnown [] words = Unit {0}
AreKnown (k ∷ ks) words = IsFact k.fact (words k.name) × AreKnown ks words

-- ---- laws

-- of terms
abbrev pub TermsAreBounded : Type 0
TermsAreBounded =
    (ks : List Known) (t : Term) (words : Words) (heap : List ℕ) → AreKnown ks words
    → IsBound (bound ks t) (value t words heap) × (by_four ks t ≡ true → value t words heap % 4 ≡ 0)

-- what is needless changes nothing, and takes no units; and what is known afterwards holds
abbrev pub LeanIsAlike : Type 0
LeanIsAlike =
    (helping : Helping) (ks : List Known) (actions : List Action) (words : Words) (heap : List ℕ) → AreKnown ks words
    → (run_actions helping (lean ks actions).now words heap ≡ run_actions helping actions words heap)
    × (actions_units helping (lean ks actions).now words heap ≡ actions_units helping actions words heap)
    × ((words' : Words) (heap' : List ℕ) → run_actions helping actions words heap ≡ goes words' heap' → AreKnown (lean ks actions).known words')
