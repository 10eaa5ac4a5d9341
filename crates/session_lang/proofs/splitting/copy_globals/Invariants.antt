use Rattle.std.proofs.Common.{◌≡◌, take, map}
use Rattle.session_lang.specs.Views.{global_of}
use Rattle.session_lang.proofs.splitting.copy_globals.Given as goal

abbrev pub invariant-loop-global : goal.invariant-loop-global
invariant-loop-global l = map global_of l.copies.items ≡ map global_of (take l.global-index l.globals)
