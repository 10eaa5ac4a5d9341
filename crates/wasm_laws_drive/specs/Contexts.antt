-- What surrounds the innermost code of a configuration: labels and frames, the innermost first.
use Rattle.std.specs.Prelude.{ℕ, List, [], ◌∷◌}
use Rattle.sem_words.specs.declared.word.Word.{Word}
use Rattle.wasm_lang.specs.Modules.{WasmModule}
use Rattle.wasm_lang_exec.specs.Code.{Trees}
use Rattle.wasm_lang_exec.specs.Reductions.{Config, Label, Frame}
use Rattle.wasm_laws_drive.specs.Drive.{Outcome}
use Rattle.wasm_laws_drive.specs.Equations.{at_label, at_frame}

-- a label, or a frame with the locals of its caller; the values below it and the code after it
pub data Surrounding : Type 0 where
  in_label : (values : List Word) (arity : ℕ) (continuation code : Trees) → Surrounding
  in_frame : (values : List Word) (arity : ℕ) (code : Trees) (locals : List Word) → Surrounding

-- a configuration with its locals
abbrev pub Placed : Type 0
Placed = Config × List Word

-- the configuration that is innermost, with all that surrounds it
abbrev pub surrounded : List Surrounding → Config → List Word → Placed
surrounded [] c locals = (c, locals)
surrounded (in_label values n continuation code ∷ around) c locals = surrounded around (Label values n continuation c code) locals
surrounded (in_frame values n code outer ∷ around) c locals = surrounded around (Frame values n locals c code) outer

module _ (m : WasmModule) where
  -- what they make of what comes of the innermost
  abbrev pub closed : List Surrounding → Outcome → Outcome
  closed [] r = r
  closed (in_label values n continuation code ∷ around) r = closed around (at_label m values n continuation code r)
  closed (in_frame values n code locals ∷ around) r = closed around (at_frame m values n code locals r)
