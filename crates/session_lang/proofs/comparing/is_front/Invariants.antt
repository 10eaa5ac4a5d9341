use Rattle.std.proofs.Common.{◌≡◌, take, map}
use Rattle.session_lang.specs.Views.{event_of}
use Rattle.session_lang.proofs.comparing.is_front.Given as goal

abbrev pub invariant-loop-i : goal.invariant-loop-i
invariant-loop-i l = take l.i (map event_of l.front) ≡ take l.i (map event_of l.whole)
