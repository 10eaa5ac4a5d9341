use Rattle.std.proofs.Common.{◌≡◌, List, [], ap, ◌∙◌}
use Rattle.session_lang.specs.Script.{GlobalPlain}
use Rattle.session_lang.specs.Views.{script_of}
use Rattle.session_lang.specs.Fits.{global_lines, least}
use Rattle.wasm_lang_exec.specs.Fits.{GlobalImport, fits_global, global_imports, tests}
use Rattle.session_lang.proofs.Parts.{four}
use Rattle.wasm_run.specs.Globals.{fits_line}
use Rattle.wasm_run.proofs.fits.first_unfit.Goals as goal

pub returns : goal.returns
returns c =
    let m = c.args.valid.now in
    let script = script_of c.args.script.now in
    let globals : c.first_global-globals.result ≡ least (global_lines (fits_global m) [] script.globals) =
    c.first_global-globals.ensures ∙ ap (λ (gs : List GlobalImport). least (global_lines (fits_line gs) [] c.args.lines.now)) c.requires.imported
    ∙ ap (λ (ls : List GlobalPlain). least (global_lines (fits_line (global_imports m.imports)) [] ls)) c.requires.lines in
    four (tests m) script c.first_global-globals.result c.first_in_writes-writes.result c.first_in_calls-calls.result c.first_in_replies-replies.result
    c.earlier.result c.earlier-2.result c.earlier-3.result
    globals c.first_in_writes-writes.ensures c.first_in_calls-calls.ensures c.first_in_replies-replies.ensures
    c.earlier.ensures c.earlier-2.ensures c.earlier-3.ensures
