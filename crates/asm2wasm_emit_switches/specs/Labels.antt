-- The labels that are open, in runs: as the plain list of them.
use Rattle.std.specs.Prelude.{ℕ, Bool, false, List, [], ◌∷◌, ◌++◌, Option, Some, None, replicate}
use Rattle.asm_tree.specs.Views.{texts_view}
use Rattle.asm2wasm_translation.specs.Bodies as code
use Rattle.asm2wasm_emit_switches.specs.declared.labels.Branch.{Branch}
use Rattle.asm2wasm_emit_switches.specs.declared.labels.Branch.TheVariants.{Break, Continue}
use Rattle.asm2wasm_emit_switches.specs.declared.labels.Open.{Open}
use Rattle.asm2wasm_emit_switches.specs.declared.labels.Open.TheVariants.{Plainly, Breakable, NamedEnd, NextTurn}
use Rattle.asm2wasm_emit_switches.specs.declared.labels.Labels.{Labels, Labels-F, fold-Labels}
use Rattle.asm2wasm_emit_switches.specs.declared.labels.Labels.TheOpen.{Nothing, Inside}

abbrev pub run_view : Open → List code.Label
run_view (Plainly n) = replicate n code.plainly
run_view Breakable = code.breakable ∷ []
run_view (NamedEnd ns) = code.named_end (texts_view ns.now) ∷ []
run_view (NextTurn ns) = code.next_turn (texts_view ns.now) ∷ []

abbrev pub layer : Labels-F (List code.Label) → List code.Label
layer Nothing = []
layer (Inside o outer) = run_view o ++ outer.now

unfoldable pub labels_view : Labels → List code.Label
labels_view = fold-Labels (List code.Label) layer

-- ---- the label that a branch means

abbrev pub meant : Branch → Option (List ℕ) → code.Label → Bool
meant Break None = code.is_breakable
meant Break (Some n) = code.is_end_of n
meant Continue None = code.is_turn
meant Continue (Some n) = code.is_turn_of n

abbrev pub run_length : Open → ℕ
run_length (Plainly n) = n
run_length _ = 1

-- is it one of a run
abbrev pub is_met : (code.Label → Bool) → Open → Bool
is_met is (Plainly n) = false
is_met is Breakable = is code.breakable
is_met is (NamedEnd ns) = is (code.named_end (texts_view ns.now))
is_met is (NextTurn ns) = is (code.next_turn (texts_view ns.now))
