-- A session is what its calls come to.
use Rattle.std.proofs.Common.{◌≡◌, ℕ, ◌≤◌, ◌<◌, ◌+◌, List, ◌∷◌, length, map, drop, get_or, Option, Some, sym, ap, ◌∙◌}
use Rattle.std.proofs.lemmas.List.{at_drop_more, at_drop_all}
use Rattle.session_lang.specs.Observation.{EndPlain, ObservationPlain, done, ended}
use Rattle.session_lang.specs.Views.{call_of}
use Rattle.session_lang.specs.declared.script.CallLine.{CallLine}
use Rattle.asm_lang.specs.Modules.{Module}
use Rattle.asm_run_code.specs.Machine.{State}
use Rattle.asm_run_code.specs.Modules.{codes_of}
use Rattle.asm_run_code.specs.Sessions.{flat_calls}
use Rattle.asm_run_state.specs.declared.host_calls.Hosted.{Hosted}
use Rattle.asm_run_state.specs.Session.{Calls, seen_hosted}

-- what is seen of the calls from one on, followed for so many steps
abbrev pub seen_from : Module → (steps : ℕ) → List CallLine → (at : ℕ) → State → Option ObservationPlain
seen_from m steps cs i s = flat_calls steps (codes_of m) m (map call_of (drop i cs)) s

-- one call, and then those that are left
pub next_call : (m : Module) (cs : List CallLine) (i : ℕ) (c : CallLine) (old new : State) (h : Hosted) (e : EndPlain) → i < length cs → c ≡ get_or cs i c → Calls m (call_of c) old h e new
    → (steps : ℕ) (o : ObservationPlain) → seen_from m steps cs i old ≡ Some o → seen_hosted h (seen_from m steps cs (i + 1)) e new ≡ Some o
next_call m cs i c old new h e below is calls steps o shows =
    calls steps (seen_from m steps cs (i + 1)) o
    (ap (λ (c : CallLine). flat_calls steps (codes_of m) m (map call_of (c ∷ drop (i + 1) cs)) old) is
    ∙ sym (at_drop_more (λ cs. flat_calls steps (codes_of m) m (map call_of cs) old) cs i c below)
    ∙ shows)

-- no call is left
pub all_made : (m : Module) (cs : List CallLine) (i : ℕ) (s : State) → length cs ≤ i → (steps : ℕ) (o : ObservationPlain) → seen_from m steps cs i s ≡ Some o → Some (ended s.events done s.heap) ≡ Some o
all_made m cs i s past steps o shows = sym (at_drop_all (λ cs. flat_calls steps (codes_of m) m (map call_of cs) s) cs i past) ∙ shows
