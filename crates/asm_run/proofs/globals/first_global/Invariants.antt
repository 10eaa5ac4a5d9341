use Rattle.std.proofs.Common.{◌≡◌, [], take, drop, map}
use Rattle.session_lang.specs.Views.{global_of}
use Rattle.session_lang.specs.Fits.{global_lines, least}
use Rattle.session_lang.specs.Earlier.{earlier}
use Rattle.asm_run.specs.Globals.{fits_line}
use Rattle.asm_run.proofs.globals.first_global.Given as goal

abbrev pub invariant-loop-i : goal.invariant-loop-i
invariant-loop-i l =
    least (global_lines (fits_line l.imported) [] l.lines)
    ≡ earlier l.first (least (global_lines (fits_line l.imported) (take l.i l.lines) (map global_of (drop l.i l.globals))))
