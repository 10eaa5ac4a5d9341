-- What words come to while some of them wait: straight code whose words are written late does what the code does that writes each at once.
use Rattle.std.specs.Prelude.{◌≡◌, ℕ, Bool, true, false, List, [], ◌∷◌, Some, None, if◌then◌else◌}
use Rattle.wasm_lang.specs.declared.types.ValType.{ValType}
use Rattle.wasm2js_translation.specs.Names.{Name, same_name}
use Rattle.wasm2js_translation.specs.Words.{Term, Action}
use Rattle.wasm2js_translation.specs.Delays.{Delayed, is_operand, is_light, waiting, those, at_hand, written, late, standing}
use Rattle.wasm2js_laws_places.specs.Straight.{Words, with_word, value, Helping, Outcome, goes, stops, run_simples, simples_units, run_actions, actions_units}
use Rattle.wasm2js_laws_places.specs.Places.{operands, locals_of, globals_of, Stays}

-- the word of each variable, where these words count as written
abbrev pub seen : List Delayed → Words → (heap : List ℕ) → Words
seen [] words heap = words
seen (d ∷ ds) words heap = λ n. if same_name d.name n then value d.word words heap else seen ds words heap n

-- whatever word that variable has, the term has the same
abbrev pub IsUnread : Name → Term → Type 0
IsUnread n t = (x : ℕ) (words : Words) (heap : List ℕ) → value t (with_word n x words) heap ≡ value t words heap

-- only operands wait, each once; only the last one's word may be none of the light ones; and none reads the variable of one that waits before it
abbrev pub AreWaiting : List Delayed → Type 0
AreWaiting [] = Unit {0}
AreWaiting (d ∷ ds) =
    (is_operand d.name ≡ true) × (waiting ds d.name ≡ None) × (is_light d.word ≡ false → ds ≡ [])
    × ((n : Name) (t : Term) → waiting ds n ≡ Some t → IsUnread d.name t) × AreWaiting ds

-- what code comes to that writes each word at once, and what it comes to where these still wait at the end
abbrev pub IsSame : List Delayed → Outcome → Outcome → Type 0
IsSame ds (goes words heap) (goes words' heap') = (seen ds words' heap' ≡ words) × (heap' ≡ heap)
IsSame ds (stops kind heap) (stops kind' heap') = (kind' ≡ kind) × (heap' ≡ heap)
IsSame ds a b = ⊥

-- ---- laws

-- late words change nothing, and take no units of their own
abbrev pub LateIsAlike : Type 0
LateIsAlike =
    (helping : Helping) (ds : List Delayed) (actions : List Action) (words : Words) (heap : List ℕ) → AreWaiting ds
    → AreWaiting (late ds actions).later
    × IsSame (late ds actions).later (run_actions helping actions (seen ds words heap) heap) (run_actions helping (late ds actions).now words heap)
    × (actions_units helping (late ds actions).now words heap ≡ actions_units helping actions (seen ds words heap) heap)

-- all that waits is written
abbrev pub WrittenIsSeen : Type 0
WrittenIsSeen =
    (helping : Helping) (ds : List Delayed) (words : Words) (heap : List ℕ) → AreWaiting ds
    → (run_simples helping (written ds) words heap ≡ goes (seen ds words heap) heap) × (simples_units helping (written ds) words heap ≡ 0)

-- operands that stand, and those below them, are the same without what is never written
abbrev pub StandingIsSeen : Type 0
StandingIsSeen =
    (b : ℕ) (ts : List ValType) (ds : List Delayed) (words : Words) (heap : List ℕ) → AreWaiting ds
    → AreWaiting (standing b ts ds) × (operands b ts (seen (standing b ts ds) words heap) ≡ operands b ts (seen ds words heap))
    × Stays b (seen ds words heap) (seen (standing b ts ds) words heap)

-- locals and globals don't wait
abbrev pub OthersAreSeen : Type 0
OthersAreSeen =
    (ts : List ValType) (ds : List Delayed) (words : Words) (heap : List ℕ) → AreWaiting ds
    → (locals_of ts (seen ds words heap) ≡ locals_of ts words) × (globals_of ts (seen ds words heap) ≡ globals_of ts words)

-- where some are written, by their variables, each of these has its word, and the word that stands for another variable comes to what that was
-- to have
abbrev pub SomeAreSeen : Type 0
SomeAreSeen =
    (asked : Name → Bool) (ds : List Delayed) (words : Words) (heap : List ℕ) → AreWaiting ds
    → let some = those (λ d. asked d.name) ds in
    AreWaiting some
    × ((n : Name) → asked n ≡ true → seen some words heap n ≡ seen ds words heap n)
    × ((n : Name) → asked n ≡ false → value (at_hand ds n) (seen some words heap) heap ≡ seen ds words heap n)
