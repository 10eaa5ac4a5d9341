-- Words that wait, and straight code whose words are written late, or that is without what is needless: it may stand where the code may, and is
-- no deeper.
use Rattle.std.specs.Prelude.{ℕ, ◌≤◌, List, [], ◌∷◌}
use Rattle.wasm_lang.specs.declared.types.ValType.{ValType}
use Rattle.asm_lang_valid.specs.Typing.{Scope}
use Rattle.wasm2js_translation.specs.Words.{Action}
use Rattle.wasm2js_translation.specs.Delays.{Delayed, written, late, standing}
use Rattle.wasm2js_translation.specs.Known.{Known, lean}
use Rattle.wasm2js_laws_terms.specs.Sound.{IsInt, IsSound, AreSoundSimple, AreSoundActions, term_depth, actions_depth}

-- each may be written
abbrev pub AreSoundWaiting : Scope → List Delayed → Type 0
AreSoundWaiting s [] = Unit {0}
AreSoundWaiting s (d ∷ ds) = IsInt s d.name × IsSound s d.word × AreSoundWaiting s ds

-- none is deeper than this
abbrev pub AreShallow : ℕ → List Delayed → Type 0
AreShallow n [] = Unit {0}
AreShallow n (d ∷ ds) = (term_depth d.word ≤ n) × AreShallow n ds

-- ---- laws

abbrev pub LateIsSound : Type 0
LateIsSound =
    (s : Scope) (ds : List Delayed) (actions : List Action) → AreSoundActions s actions → AreSoundWaiting s ds
    → AreSoundActions s (late ds actions).now × AreSoundWaiting s (late ds actions).later

-- what is written, and what waits then, is no deeper than the code and what waited before: words that stand in the place of variables leave each
-- term as deep as it was
abbrev pub LateIsShallow : Type 0
LateIsShallow =
    (n : ℕ) (ds : List Delayed) (actions : List Action) → AreShallow n ds → actions_depth actions ≤ n
    → AreShallow n (late ds actions).later × (actions_depth (late ds actions).now ≤ n)

abbrev pub LeanIsSound : Type 0
LeanIsSound = (s : Scope) (ks : List Known) (actions : List Action) → AreSoundActions s actions → AreSoundActions s (lean ks actions).now

abbrev pub LeanIsShallow : Type 0
LeanIsShallow = (ks : List Known) (actions : List Action) → actions_depth (lean ks actions).now ≤ actions_depth actions

abbrev pub WrittenIsSound : Type 0
WrittenIsSound = (s : Scope) (ds : List Delayed) → AreSoundWaiting s ds → AreSoundSimple s (written ds)

abbrev pub StandingIsSound : Type 0
StandingIsSound = (s : Scope) (b : ℕ) (ts : List ValType) (ds : List Delayed) → AreSoundWaiting s ds → AreSoundWaiting s (standing b ts ds)
