-- Expressions of asm.js that only read.
use Rattle.std.specs.Prelude.{◌≡◌, ℕ, List, map}
use Rattle.sem_words.specs.declared.js_value.JsValue.{JsValue}
use Rattle.sem_words.specs.JsValues.{to_uint32_of}
use Rattle.asm_lang_exec.specs.Runs.{Place, Run, goes, stops, spent, wrong}

-- a value of this word, at the same place; where it goes wrong nothing is asked
abbrev pub Reads : (word : ℕ) → Place → Run JsValue → Type 0
Reads x p (goes v q) = (q ≡ p) × (to_uint32_of v ≡ x)
Reads x p (stops e q) = ⊥
Reads x p (spent q) = ⊥
Reads x p wrong = Unit {0}

-- values of these words
abbrev pub ReadsAll : (words : List ℕ) → Place → Run (List JsValue) → Type 0
ReadsAll xs p (goes vs q) = (q ≡ p) × (map to_uint32_of vs ≡ xs)
ReadsAll xs p (stops e q) = ⊥
ReadsAll xs p (spent q) = ⊥
ReadsAll xs p wrong = Unit {0}

-- this very value
abbrev pub Finds : JsValue → Place → Run JsValue → Type 0
Finds x p (goes v q) = (q ≡ p) × (v ≡ x)
Finds x p (stops e q) = ⊥
Finds x p (spent q) = ⊥
Finds x p wrong = Unit {0}
