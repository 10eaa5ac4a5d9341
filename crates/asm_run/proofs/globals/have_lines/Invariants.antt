use Rattle.std.proofs.Common.{◌≡◌, drop}
use Rattle.asm_tree.specs.Views.{texts_view}
use Rattle.session_lang.specs.Fits.{are_given}
use Rattle.asm_run.proofs.globals.have_lines.Given as goal

abbrev pub invariant-loop-name : goal.invariant-loop-name
invariant-loop-name l = are_given (texts_view l.names) l.lines ≡ are_given (texts_view (drop l.name-index l.names)) l.lines
