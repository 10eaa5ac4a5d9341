use Rattle.std.proofs.Common.{◌≡◌, List, Bool, ap, sym, ◌∙◌}
use Rattle.session_lang.specs.Script.{GlobalPlain, ScriptPlain}
use Rattle.session_lang.specs.Views.{script_of}
use Rattle.session_lang.specs.Fits.{are_given, missing_line}
use Rattle.wasm_lang.specs.Modules.{WasmModule}
use Rattle.wasm_lang_exec.specs.Fits.{GlobalImport, global_imports, global_names, tests}
use Rattle.session_lang.proofs.Parts.{misfit_some, misfit_none}
use Rattle.wasm_run.proofs.fits.fits_by.Goals as goal

-- whether all are given, of the module's globals and the script's lines
all_given : (m : WasmModule) (script : ScriptPlain) (globals : List GlobalImport) (lines : List GlobalPlain) (given : Bool) → globals ≡ global_imports m.imports → lines ≡ script.globals
    → given ≡ are_given (global_names globals) lines → given ≡ are_given (tests m).imports script.globals
all_given m script globals lines given imported said is =
    is ∙ ap (λ gs. are_given (global_names gs) lines) imported ∙ ap (are_given (global_names (global_imports m.imports))) said

pub returns-in-Some : goal.returns-in-Some
returns-in-Some c = misfit_some (tests c.args.valid.now) (script_of c.args.script.now) c.in-Some.line (sym c.in-Some.ensures)

pub returns-then-are_given : goal.returns-then-are_given
returns-then-are_given c =
    let m = c.args.valid.now in
    let script = script_of c.args.script.now in
    misfit_none (tests m) script c.are_given.result (sym c.in-None.ensures) (all_given m script c.args.imported.now c.args.lines.now c.are_given.result c.requires.imported c.requires.lines c.are_given.ensures)
    ∙ ap missing_line c.if-are_given.true

pub returns-else-are_given : goal.returns-else-are_given
returns-else-are_given c =
    let m = c.args.valid.now in
    let script = script_of c.args.script.now in
    misfit_none (tests m) script c.are_given.result (sym c.in-None.ensures) (all_given m script c.args.imported.now c.args.lines.now c.are_given.result c.requires.imported c.requires.lines c.are_given.ensures)
    ∙ ap missing_line c.if-are_given.false
