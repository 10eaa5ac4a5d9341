use Rattle.std.proofs.Common.{◌≡◌, ◌∷◌, take, map}
use Rattle.std.specs.List.{flat_map}
use Rattle.session_lang.specs.CallingForms.{init_call, split_call}
use Rattle.session_lang.specs.Views.{call_of, shape_of}
use Rattle.session_lang.proofs.splitting.split_calls.Given as goal

abbrev pub invariant-loop-call : goal.invariant-loop-call
invariant-loop-call l =
    map call_of l.lines.items
    ≡ init_call ∷ flat_map (split_call (map shape_of l.fn.shapes)) (map call_of (take l.call-index l.calls))
