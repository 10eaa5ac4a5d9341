use Rattle.std.proofs.Common.{◌≡◌, ℕ, List, [], ap, ◌∙◌}
use Rattle.session_lang.specs.Script.{GlobalPlain}
use Rattle.session_lang.specs.Views.{script_of}
use Rattle.asm_lang_valid.specs.Refusal.{foreign_globals}
use Rattle.asm_tree.specs.Views.{module_view}
use Rattle.session_lang.specs.Fits.{global_lines, least}
use Rattle.asm_lang_exec.specs.Fits.{fits_global, tests}
use Rattle.session_lang.proofs.Parts.{four}
use Rattle.asm_run.specs.Globals.{fits_line}
use Rattle.asm_run.proofs.fits.first_unfit.Goals as goal

pub returns : goal.returns
returns c =
    let m = module_view c.args.checked.now in
    let script = script_of c.args.script.now in
    let globals : c.first_global-globals.result ≡ least (global_lines (fits_global m) [] script.globals) =
    c.first_global-globals.ensures ∙ ap (λ (names : List (List ℕ)). least (global_lines (fits_line names) [] c.args.lines.now)) c.requires.imported
    ∙ ap (λ (ls : List GlobalPlain). least (global_lines (fits_line (foreign_globals m)) [] ls)) c.requires.lines in
    four (tests m c.args.heap_len) script c.first_global-globals.result c.first_write-writes.result c.first_call-calls.result c.first_reply-replies.result
    c.earlier.result c.earlier-2.result c.earlier-3.result
    globals (rw c.as_slice.ensures at c.first_write-writes.ensures)
    (rw c.as_slice-2.ensures at c.first_call-calls.ensures) (rw c.as_slice-3.ensures at c.first_reply-replies.ensures)
    c.earlier.ensures c.earlier-2.ensures c.earlier-3.ensures
