use Rattle.std.proofs.Common.{◌≡◌, drop, map}
use Rattle.session_lang.specs.Fits.{are_given}
use Rattle.wasm_lang_exec.specs.Fits.{global_names}
use Rattle.wasm_run.specs.GlobalViews.{imported_of}
use Rattle.wasm_run.proofs.imported.are_given.Given as goal

abbrev pub invariant-loop-global : goal.invariant-loop-global
invariant-loop-global l = are_given (global_names (map imported_of l.globals)) l.lines ≡ are_given (global_names (map imported_of (drop l.global-index l.globals))) l.lines
