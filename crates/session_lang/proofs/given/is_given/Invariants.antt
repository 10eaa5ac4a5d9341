use Rattle.std.proofs.Common.{◌≡◌, drop, map}
use Rattle.session_lang.specs.Views.{global_of}
use Rattle.session_lang.specs.Fits.{is_given}
use Rattle.session_lang.proofs.given.is_given.Given as goal

abbrev pub invariant-loop-global : goal.invariant-loop-global
invariant-loop-global l = is_given (map global_of l.globals) l.name ≡ is_given (map global_of (drop l.global-index l.globals)) l.name
