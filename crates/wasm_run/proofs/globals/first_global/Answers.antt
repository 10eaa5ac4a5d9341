use Rattle.std.proofs.Common.{sym, ◌∙◌}
use Rattle.script_lines.proofs.GlobalLines.{line_fits, line_unfit}
use Rattle.wasm_run.specs.Globals.{fits_line}
use Rattle.wasm_run.proofs.globals.first_global.Goals.{then-not-fits_global, else-not-fits_global}
use Rattle.wasm_run.proofs.globals.first_global.Goals as goal

pub loop-i-preserved : goal.loop-i-preserved
loop-i-preserved c =
    let lines = c.args.lines.now in
    let globals = c.as_slice-globals.result.now in
    let first = c.if-not-fits_global.first in
    elim c.if-not-fits_global.branch [
      | then-not-fits_global w ↦
          line_unfit (fits_line c.args.imported.now) lines globals c.loop-i.i c.index-globals-i.result _ c.loop-i.first first c.as_slice-globals.ensures c.loop-i-test.true c.index-globals-i.is
          (sym c.fits_global.ensures ∙ w.if-not-fits_global.true) (w.first-is ∙ w.lesser-first.ensures) c.loop-i.invariant
      | else-not-fits_global w ↦
          line_fits (fits_line c.args.imported.now) lines globals c.loop-i.i c.index-globals-i.result _ c.loop-i.first first c.as_slice-globals.ensures c.loop-i-test.true c.index-globals-i.is
          (sym c.fits_global.ensures ∙ w.if-not-fits_global.false) w.first-is c.loop-i.invariant
    ]
