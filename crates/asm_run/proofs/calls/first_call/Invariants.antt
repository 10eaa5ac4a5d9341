use Rattle.std.proofs.Common.{◌≡◌, drop, map}
use Rattle.session_lang.specs.Script.{CallPlain}
use Rattle.session_lang.specs.Views.{call_of}
use Rattle.asm_tree.specs.Views.{module_view}
use Rattle.session_lang.specs.Fits.{lines_of, least}
use Rattle.asm_lang_exec.specs.Fits.{fits_call}
use Rattle.session_lang.specs.Earlier.{earlier}
use Rattle.asm_run.proofs.calls.first_call.Given as goal

abbrev pub invariant-loop-i : goal.invariant-loop-i
invariant-loop-i l =
    least (lines_of (fits_call (module_view l.checked)) (λ (c : CallPlain). c.line) (map call_of l.calls))
    ≡ earlier l.first (least (lines_of (fits_call (module_view l.checked)) (λ (c : CallPlain). c.line) (map call_of (drop l.i l.calls))))
