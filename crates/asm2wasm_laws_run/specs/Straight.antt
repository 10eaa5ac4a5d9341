-- Code without blocks, branches and calls that neither traps nor wants an operand: all of it at once.
use Rattle.std.specs.Prelude.{ℕ, suc, List, [], ◌∷◌, Option, Some, None, if◌then◌else◌}
use Rattle.sem_words.specs.declared.word.Word.{Word}
use Rattle.wasm_lang.specs.Instructions.{Plain}
use Rattle.wasm_lang_exec.specs.Store.{Store}
use Rattle.wasm_lang_exec.specs.Plain.{Effect, goes, traps, sticks, do_plain}
use Rattle.wasm_laws_drive.specs.Equations.{is_constant}

-- values, the topmost first, locals and store
pub record Reached : Type 0 where
  pub values : List Word
  pub locals : List Word
  pub store : Store

abbrev pub reached : List Word → List Word → Store → Reached
reached values locals s = record { values = values; locals = locals; store = s }

abbrev pub on_from : Effect → (List Word → List Word → Store → Option Reached) → Option Reached
on_from (goes values locals s) go = go values locals s
on_from (traps kind) go = None
on_from sticks go = None

-- what all of it does
abbrev pub effects : List Plain → List Word → List Word → Store → Option Reached
effects [] values locals s = Some (reached values locals s)
effects (p ∷ ps) values locals s = on_from (do_plain p values locals s) (effects ps)

-- its reductions: a constant is none
abbrev pub paid : List Plain → ℕ
paid [] = 0
paid (p ∷ ps) = if is_constant p then paid ps else suc (paid ps)
