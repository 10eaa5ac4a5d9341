use Rattle.std.proofs.Common.{ap, sym, ◌∙◌}
use Rattle.session_lang.specs.Views.{script_of}
use Rattle.asm_tree.specs.Views.{module_view}
use Rattle.session_lang.specs.Fits.{are_given, missing_line}
use Rattle.asm_lang_exec.specs.Fits.{tests}
use Rattle.session_lang.proofs.Parts.{misfit_some, misfit_none}
use Rattle.asm_run.proofs.fits.fits_by.Goals as goal

pub returns-in-Some : goal.returns-in-Some
returns-in-Some c = misfit_some (tests (module_view c.args.checked.now) c.args.heap_len) (script_of c.args.script.now) c.in-Some.line (sym c.in-Some.ensures)

pub returns-then-are_given : goal.returns-then-are_given
returns-then-are_given c =
    let t = tests (module_view c.args.checked.now) c.args.heap_len in
    misfit_none t (script_of c.args.script.now) c.are_given.result (sym c.in-None.ensures) (c.are_given.ensures ∙ ap (are_given t.imports) c.requires.lines) ∙ ap missing_line c.if-are_given.true

pub returns-else-are_given : goal.returns-else-are_given
returns-else-are_given c =
    let t = tests (module_view c.args.checked.now) c.args.heap_len in
    misfit_none t (script_of c.args.script.now) c.are_given.result (sym c.in-None.ensures) (c.are_given.ensures ∙ ap (are_given t.imports) c.requires.lines) ∙ ap missing_line c.if-are_given.false
