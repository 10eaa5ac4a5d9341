-- Straight code that grows, action by action.
use Rattle.std.specs.Prelude.{Bool, true, false, Option, Some, None, List, [], ◌∷◌, ◌++◌, if◌then◌else◌}
use Rattle.asm_lang.specs.Modules.{Stmt}
use Rattle.wasm2js_translation.specs.Names.{Name, same_name}
use Rattle.wasm2js_translation.specs.Words.{read, Simple, put, Action, statement, statements}
use Rattle.wasm2js_translation.specs.Pairs.{simples}
use Rattle.wasm2js_translation.specs.Delays.{Delayed, Late, those, others, written, replaced, reads_one, may_wait, takes, late_action}
use Rattle.wasm2js_translation.specs.Known.{Known, lean}
use Rattle.wasm2js_terms.specs.Waits.{delays_view}
use Rattle.wasm2js_terms.specs.Held.{with_held}
use Rattle.wasm2js_terms.specs.Facts.{knowns_view}
use Rattle.wasm2js_build.specs.Blocks.{statements_of}
use Rattle.wasm2js_build.specs.declared.light.LightBlock.{LightBlock}
use Rattle.wasm2js_build.specs.declared.straight.LateBlock.{LateBlock}
use Rattle.wasm2js_build.specs.declared.straight.Straight.{Straight}

-- the statements so far, the words that wait, where words may wait, and what is known of variables
pub record State : Type 0 where
  pub is_late : Bool
  pub told : List Stmt
  pub waits : List Delayed
  pub known : List Known

-- where words may wait, and what is needless is left out
abbrev pub late_at : List Stmt → List Delayed → List Known → State
late_at told ds ks = record { is_late = true; told = told; waits = ds; known = ks }

-- what is written is left out where it is needless
abbrev pub grown : List Stmt → List Known → Late → State
grown told ks x = let y = lean ks x.now in late_at (told ++ statements y.now) x.later y.known

abbrev pub after_late : State → Action → State
after_late s a = grown s.told s.known (late_action s.waits a)

-- where each action is written as it is
abbrev pub after_at_once : State → Action → State
after_at_once s a = record { is_late = false; told = s.told ++ statement a ∷ []; waits = s.waits; known = s.known }

-- the state after one more action
unfoldable pub one : State → Action → State
one s a = if s.is_late then after_late s a else after_at_once s a

abbrev pub run : State → List Action → State
run s [] = s
run s (a ∷ more) = run (one s a) more

-- where nothing waits
abbrev pub state_at_once : List Stmt → State
state_at_once told = record { is_late = false; told = told; waits = []; known = [] }

abbrev pub lights_of : LightBlock → List Delayed
lights_of b = delays_view b.waits.items

abbrev pub lights_known : LightBlock → List Known
lights_known b = knowns_view b.known.items

abbrev pub lights_in : LateBlock → List Delayed
lights_in b = delays_view b.waits.items

abbrev pub waits_of : LateBlock → List Delayed
waits_of b = with_held (lights_in b) b.held

abbrev pub known_of : LateBlock → List Known
known_of b = knowns_view b.known.items

-- what a piece of code leaves to the next one
pub record Held : Type 0 where
  pub waits : List Delayed
  pub known : List Known

abbrev pub nothing_held : Held
nothing_held = record { waits = []; known = [] }

abbrev pub held_of : LateBlock → Held
held_of b = record { waits = waits_of b; known = known_of b }

abbrev pub late_state : LateBlock → State
late_state b = late_at (statements_of b.block) (waits_of b) (known_of b)

abbrev pub state_of : Straight → State
state_of s = record { is_late = s.is_late; told = statements_of s.text.block; waits = with_held (lights_of s.text) s.held; known = lights_known s.text }

-- where words may wait
abbrev pub late_of : Straight → State
late_of s = late_at (statements_of s.text.block) (with_held (lights_of s.text) s.held) (lights_known s.text)

-- what a step puts that may wait
abbrev pub begins_to_wait : List Delayed → Simple → Option Delayed
begins_to_wait ds (put n t) = if may_wait ds n (replaced ds t) then Some (record { name = n; word = replaced ds t }) else None
begins_to_wait ds s = None

-- the variable into which a step puts the operand of the word that is held, and that word
abbrev pub taking : List Delayed → List Delayed → Simple → Option (Name × Delayed)
taking (d ∷ []) ds (put n t) = if takes (d ∷ []) ds (put n t) then Some (n, d) else None
taking hs ds s = None

-- that variable has the word, and stands for its operand
abbrev pub took : List Delayed → Name → Delayed → Late
took ds n d =
    let spoiled = λ (e : Delayed). reads_one (same_name n) e.word in
    record {
      now = simples (written (those spoiled ds) ++ put n d.word ∷ []);
      later = others spoiled ds ++ record { name = d.name; word = read n } ∷ [];
    }
