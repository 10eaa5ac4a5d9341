-- Straight code of asm.js does what its words say.
use Rattle.std.specs.Prelude.{◌≡◌, ℕ, ◌≤◌, List, false}
use Rattle.asm_lang_valid.specs.Typing.{Scope}
use Rattle.asm_lang_exec.specs.Runs.{Place, Part, and_then}
use Rattle.asm_lang_exec.specs.Values.{Calls}
use Rattle.asm_lang_exec.specs.Meaning.{eval, eval_all, exec_all, Completion}
use Rattle.asm_laws_continuation.specs.Following.{CallsBefore, exec_all_to}
use Rattle.asm_laws_continuation.specs.Laws.{AllFollow}
use Rattle.wasm2js_translation.specs.Words.{Term, Action, expr, int_of, arguments, statements, stmts_in}
use Rattle.wasm2js_translation.specs.Pairs.{simples}
use Rattle.wasm2js_translation.specs.Delays.{Delayed, written, late}
use Rattle.wasm2js_translation.specs.Known.{Known, lean}
use Rattle.wasm2js_laws_terms.specs.Sound.{IsSound, AllSound, AreSoundActions}
use Rattle.wasm2js_laws_places.specs.Straight.{value, values, Helping, ActionsAsk, run_actions, actions_units}
use Rattle.wasm2js_laws_places.specs.Places.{word_at, AreApart, IsHeap}
use Rattle.wasm2js_laws_places.specs.Helped.{Does, AreHelpers}
use Rattle.wasm2js_laws_actions.specs.Reads.{Reads, ReadsAll}

-- a term as it is, and as an int, has its word
abbrev pub TermsAreRead : Type 0
TermsAreRead = (calls : Calls) (c : Scope) (t : Term) (p : Place) → IsSound c t → AreApart p → Reads (value t (word_at p) p.heap) p (eval false calls c (expr t) p)

abbrev pub IntsAreRead : Type 0
IntsAreRead = (calls : Calls) (c : Scope) (t : Term) (p : Place) → IsSound c t → AreApart p → Reads (value t (word_at p) p.heap) p (eval false calls c (int_of t) p)

abbrev pub ArgumentsAreRead : Type 0
ArgumentsAreRead =
    (calls : Calls) (c : Scope) (ts : List Term) (p : Place) → AllSound c ts → AreApart p
    → ReadsAll (values ts (word_at p) p.heap) p (eval_all false calls c (arguments ts) p)

-- where helpers do what is said of them, actions in a row come to the words and the heap, or to the trap, that they have without asm.js
abbrev pub ActionsAreDone : Type 0
ActionsAreDone =
    (calls : Calls) (c : Scope) (turns bound bytes : ℕ) (helping : Helping) → AreHelpers c calls bound bytes helping
    → (actions : List Action) → AreSoundActions c actions → ActionsAsk actions → (p : Place) → AreApart p → IsHeap bytes p.heap → p.units ≤ bound
    → Does bytes (run_actions helping actions (word_at p) p.heap) (actions_units helping actions (word_at p) p.heap) p (exec_all false calls c turns (stmts_in (statements actions)) p)

-- and then what comes after them
abbrev pub ActionsAreFollowed : Type 0
ActionsAreFollowed =
    (calls : Calls) (calls_to : CallsBefore (Unit {0})) (c : Scope) (turns : ℕ) (actions : List Action) (next : Completion → Part (Unit {0})) (p : Place) → AllFollow calls calls_to
    → exec_all_to calls_to c turns (stmts_in (statements actions)) next p ≡ and_then (exec_all false calls c turns (stmts_in (statements actions))) next p

-- code whose words are written late calls no other functions
abbrev pub LateAsksHelpers : Type 0
LateAsksHelpers = (ds : List Delayed) (actions : List Action) → ActionsAsk actions → ActionsAsk (late ds actions).now

-- .. nor does code without what is needless
abbrev pub LeanAsksHelpers : Type 0
LeanAsksHelpers = (ks : List Known) (actions : List Action) → ActionsAsk actions → ActionsAsk (lean ks actions).now

-- .. and what is written calls none
abbrev pub WrittenAsksNone : Type 0
WrittenAsksNone = (ds : List Delayed) → ActionsAsk (simples (written ds))
