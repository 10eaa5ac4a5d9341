-- The callers of a machine, the innermost first.
use Rattle.std.proofs.Common.{◌≡◌, List, [], ◌∷◌, ◌++◌, map, reverse, sym, ap, ◌∙◌}
use Rattle.std.proofs.lemmas.List.{reverse-append}
use Rattle.asm_run_steps.specs.declared.machine.Caller.{Caller}
use Rattle.asm_run_steps.specs.States.{caller_of, callers_of}

pub callers_pushed : (cs ds : List Caller) (c : Caller) → ds ≡ cs ++ c ∷ [] → callers_of ds ≡ caller_of c ∷ callers_of cs
callers_pushed cs ds c e = ap callers_of e ∙ ap (map caller_of) (reverse-append cs (c ∷ []))
