-- What some reductions of a configuration come to: they are followed until it is values, leaves its label or its function by a
-- branch or a return, the session has ended, nothing can be reduced, or the reductions are used up.
use Rattle.std.specs.Prelude.{ℕ, zero, suc, List}
use Rattle.sem_words.specs.declared.word.Word.{Word}
use Rattle.session_lang.specs.Observation.{EndPlain}
use Rattle.wasm_lang.specs.Modules.{WasmModule}
use Rattle.wasm_lang_exec.specs.Code.{Trees}
use Rattle.wasm_lang_exec.specs.Store.{Store}
use Rattle.wasm_lang_exec.specs.Reductions.{Config, Code, Reduct, to, is_values, branches, returns, stops, is_stuck, reduce}

-- a place in a run: values, the topmost first, locals and store, and the reductions that are left
pub record State : Type 0 where
  pub values : List Word
  pub locals : List Word
  pub store : Store
  pub left : ℕ

-- what a configuration comes to
pub data Outcome : Type 0 where
  -- values: nothing is left to reduce
  Next : State → Outcome
  -- a branch to the label that many labels out; its reduction is paid
  Branch : (label : ℕ) → State → Outcome
  -- a return; its reduction is paid
  Leave : State → Outcome
  -- the end of the session
  Ended : EndPlain → Store → Outcome
  -- nothing can be reduced: an operand is missing or of another type
  Stuck : Store → Outcome
  -- the reductions are used up
  Spent : Store → Outcome

abbrev pub at : List Word → List Word → Store → ℕ → State
at values locals s n = record { values = values; locals = locals; store = s; left = n }

-- what comes of a reduct with no reduction left
abbrev pub halted : Reduct → List Word → Store → Outcome
halted (is_values values) locals s = Next (at values locals s 0)
halted _ locals s = Spent s

-- what comes of a reduct with one reduction, and n further ones
abbrev pub driven : (Config → List Word → Store → Outcome) → ℕ → Reduct → List Word → Store → Outcome
driven go n (to c locals' s') locals s = go c locals' s'
driven go n (is_values values) locals s = Next (at values locals s (suc n))
driven go n (branches k values) locals s = Branch k (at values locals s n)
driven go n (returns values) locals s = Leave (at values locals s n)
driven go n (stops e s') locals s = Ended e s'
driven go n is_stuck locals s = Stuck s

module _ (m : WasmModule) where
  abbrev pub drive : ℕ → Config → List Word → Store → Outcome
  drive zero c locals s = halted (reduce m c locals s) locals s
  drive (suc n) c locals s = driven (drive n) n (reduce m c locals s) locals s

  -- what code comes to from a state
  abbrev pub onward : Trees → State → Outcome
  onward code t = drive t.left (Code t.values code) t.locals t.store
