use Rattle.std.proofs.Common.{◌≡◌, drop, map}
use Rattle.session_lang.specs.Script.{WritePlain}
use Rattle.session_lang.specs.Views.{write_of}
use Rattle.session_lang.specs.Fits.{lines_of, least}
use Rattle.wasm_lang_exec.specs.Fits.{lies_in}
use Rattle.session_lang.specs.Earlier.{earlier}
use Rattle.wasm_run.proofs.writes.first_write.Given as goal

abbrev pub invariant-loop-write : goal.invariant-loop-write
invariant-loop-write l =
    least (lines_of (lies_in l.pages) (λ (w : WritePlain). w.line) (map write_of l.writes))
    ≡ earlier l.first (least (lines_of (lies_in l.pages) (λ (w : WritePlain). w.line) (map write_of (drop l.write-index l.writes))))
