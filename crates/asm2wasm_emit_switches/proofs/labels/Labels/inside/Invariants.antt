use Rattle.std.proofs.Common.{◌≡◌, ◌+◌}
use Rattle.asm_tree.specs.Views.{text_option}
use Rattle.asm2wasm_translation.specs.Bodies as code
use Rattle.asm2wasm_emit_switches.specs.Labels.{labels_view, meant}
use Rattle.asm2wasm_emit_switches.proofs.labels.Labels.inside.Given as goal

abbrev pub invariant-loop-labels : goal.invariant-loop-labels
invariant-loop-labels l = code.labels_inside (meant l.branch (text_option l.name)) (labels_view l.self) ≡ l.inside + code.labels_inside (meant l.branch (text_option l.name)) (labels_view l.labels)
