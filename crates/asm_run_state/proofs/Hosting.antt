-- Calls of the script, by what the machine came to.
use Rattle.std.proofs.Common.{◌≡◌, ℕ, List, [], ◌∷◌, ◌++◌, map, Option, Some, None, sym, ap, ◌∙◌}
use Rattle.std.specs.Prelude.{slice_get}
use Rattle.sem_words.specs.Words.{word_of}
use Rattle.session_lang.specs.Script.{CallPlain}
use Rattle.session_lang.specs.Observation.{EndPlain, ObservationPlain, running, ended}
use Rattle.asm_lang.specs.Modules.{Function, Module}
use Rattle.asm_run_code.specs.Machine.{State, Came, going, back, halts, unpaid, lost, and_on, followed}
use Rattle.asm_run_code.specs.Modules.{codes_of}
use Rattle.asm_run_code.specs.Sessions.{begins, called, seen_of, seen_by, seen_after, event_of, function_at, number_at, key_number}
use Rattle.asm_run_steps.specs.declared.ended.Ended.{Ended}
use Rattle.asm_run_steps.specs.declared.ended.Ended.TheVariants.{Back, Halted, Unpaid, Lost}
use Rattle.asm_run_steps.specs.Runs.{HasEnded, Comes, CameTo}
use Rattle.asm_run_state.specs.declared.host_calls.Hosted.TheVariants.{Goes, Ends, Stops, Wrong}
use Rattle.asm_run_state.specs.Session.{Later, Calls}

-- what is seen of a call of the function that ended so
abbrev pub seen_ended : Function → Later → Ended → EndPlain → State → Option ObservationPlain
seen_ended g later (Back word) e s = seen_after (event_of g word) later s
seen_ended g later Halted e s = Some (ended s.events e s.heap)
seen_ended g later Unpaid e s = Some (running s.events)
seen_ended g later Lost e s = None

came_to_is : (g : Function) (later : Later) (a : Ended) (e : EndPlain) (s : State) (r : Came) → CameTo a e s r → seen_of g later r ≡ seen_ended g later a e s
came_to_is g later (Back word) e s r is = ap (seen_of g later) is
came_to_is g later Halted e s r is = ap (seen_of g later) is
came_to_is g later Unpaid e s r is = ap (seen_of g later) is
came_to_is g later Lost e s r is = ap (seen_of g later) is

seen_has_ended : (g : Function) (later : Later) (o : ObservationPlain) (r : Came) → seen_of g later r ≡ Some o → HasEnded r
seen_has_ended g later o (going s) h = absurd (cc h)
seen_has_ended g later o (back w s) h = tt
seen_has_ended g later o (halts e s) h = tt
seen_has_ended g later o (unpaid s) h = tt
seen_has_ended g later o lost h = tt

module _ (m : Module) (call : CallPlain) (old : State) where
  pub no_number : (e : EndPlain) (new : State) → None ≡ key_number m call.name → Calls m call old Wrong e new
  no_number e new none = λ steps later o h. ap (λ k. seen_by (function_at m k) later (called steps (codes_of m) m call old)) none ∙ h

  pub no_function : (n : ℕ) (e : EndPlain) (new : State) → Some n ≡ key_number m call.name → None ≡ slice_get m.functions n → Calls m call old Wrong e new
  no_function n e new is none =
      λ steps later o h. ap (λ g. seen_by g later (called steps (codes_of m) m call old)) (none ∙ ap (function_at m) is) ∙ h

  pub is_seen : (n : ℕ) (g : Function) (args : List ℕ) (a : Ended) (e : EndPlain) (new : State) → Some n ≡ key_number m call.name → Some g ≡ slice_get m.functions n → args ≡ map (word_of 32) call.args
      → ((r : Came) → HasEnded r → Comes (codes_of m) (begins (codes_of m) n args old) r → CameTo a e new r)
      → (steps : ℕ) (later : Later) (o : ObservationPlain) → seen_by (function_at m (key_number m call.name)) later (called steps (codes_of m) m call old) ≡ Some o → seen_ended g later a e new ≡ Some o
  is_seen n g args a e new number function words runs steps later o h =
      let c = codes_of m in
      let r = called steps c m call old in
      let seen : seen_of g later r ≡ Some o = ap (λ g. seen_by g later r) (function ∙ ap (function_at m) number) ∙ h in
      let is : and_on (followed steps c) (begins c n args old) ≡ r =
      ap (λ k. and_on (followed steps c) (begins c (number_at k) args old)) number
      ∙ ap (λ ws. and_on (followed steps c) (begins c (number_at (key_number m call.name)) ws old)) words in
      sym (came_to_is g later a e new r (runs r (seen_has_ended g later o r seen) (steps, is))) ∙ seen

  -- by how the machine's call ended
  module _ (n : ℕ) (g : Function) (args : List ℕ) (a : Ended) (e : EndPlain) (new : State) (number : Some n ≡ key_number m call.name) (function : Some g ≡ slice_get m.functions n) (words : args ≡ map (word_of 32) call.args)
      (runs : (r : Came) → HasEnded r → Comes (codes_of m) (begins (codes_of m) n args old) r → CameTo a e new r) where
    pub call_goes : (word : ℕ) (ending : EndPlain) (next : State) → a ≡ Back word → next ≡ record new { events = new.events ++ event_of g word ∷ [] } → Calls m call old Goes ending next
    call_goes word ending next is added =
        λ steps later o h. ap later added ∙ ap (λ (x : Ended). seen_ended g later x e new) (sym is) ∙ is_seen n g args a e new number function words runs steps later o h

    pub call_ends : a ≡ Halted → Calls m call old Ends e new
    call_ends is = λ steps later o h. ap (λ (x : Ended). seen_ended g later x e new) (sym is) ∙ is_seen n g args a e new number function words runs steps later o h

    pub call_stops : a ≡ Unpaid → Calls m call old Stops e new
    call_stops is = λ steps later o h. ap (λ (x : Ended). seen_ended g later x e new) (sym is) ∙ is_seen n g args a e new number function words runs steps later o h

    pub call_is_wrong : a ≡ Lost → Calls m call old Wrong e new
    call_is_wrong is = λ steps later o h. ap (λ (x : Ended). seen_ended g later x e new) (sym is) ∙ is_seen n g args a e new number function words runs steps later o h
