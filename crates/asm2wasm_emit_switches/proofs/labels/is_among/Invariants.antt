use Rattle.std.proofs.Common.{◌≡◌, drop}
use Rattle.asm_tree.specs.Views.{texts_view}
use Rattle.asm_lang_valid.specs.Scope as scope
use Rattle.asm2wasm_emit_switches.proofs.labels.is_among.Given as goal

abbrev pub invariant-loop-other : goal.invariant-loop-other
invariant-loop-other l = scope.is_in l.name (texts_view l.names) ≡ scope.is_in l.name (texts_view (drop l.other-index l.names))
