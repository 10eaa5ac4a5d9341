-- A session of an accepted module with a script that fits never goes wrong.
use Rattle.std.proofs.Common.{◌≡◌, ℕ, suc, Bool, true, false, List, [], ◌∷◌, length, Option, Some, None, ℤ, slice_get, refl, ap, ◌∙◌, arith}
use Rattle.std.proofs.lemmas.Bool.{and_parts, eqb-true}
use Rattle.std.specs.Prelude.{map}
use Rattle.sem_words.specs.declared.js_value.JsValue.TheVariants.{Whole}
use Rattle.session_lang.specs.Script.{CallPlain, ScriptPlain}
use Rattle.session_lang.specs.Observation.{ObservationPlain}
use Rattle.asm_lang.specs.Modules.{no_stmts, Function, Module}
use Rattle.asm_lang_valid.specs.Refusal.{exported_from, IsAccepted}
use Rattle.asm_lang_valid.specs.Typed.{function_typed}
use Rattle.asm_lang_exec.specs.Runs.{Binding, Run, goes, stops, spent, wrong}
use Rattle.asm_lang_exec.specs.Values.{Calls}
use Rattle.asm_lang_exec.specs.Meaning.{call_at}
use Rattle.asm_lang_exec.specs.Session.{first_place, export_number, exported_function, result_event, host_call, host_calls, observed}
use Rattle.session_lang.specs.FitLaws.{a_call}
use Rattle.session_lang.proofs.Misfits.{no_misfit_fits}
use Rattle.asm_lang_exec.specs.Fits.{takes, fits_call, tests, misfit}
use Rattle.asm_lang_exec.proofs.Growth.{sessions_grow}
use Rattle.asm_laws_sound.specs.Laws.{AcceptedNeverGoWrong, ChecksChangeNothing, AcceptedSessionsGrow}
use Rattle.asm_laws_sound.proofs.Names.{globals_fit}
use Rattle.asm_laws_sound.proofs.Both.{EndsIn, Both, Sound, sound_then, sound_gives, sound_defined, sound_event}
use Rattle.asm_laws_sound.proofs.Members.{Typed, accepted_is_typed, function_at}
use Rattle.asm_laws_sound.proofs.Expressions.{from_bind}
use Rattle.asm_laws_sound.proofs.Evaluating.{Inv, SoundCalls}
use Rattle.asm_laws_sound.proofs.Executing.{calls_sound}

-- the host has no variables
abbrev host : Function
host = record { name = []; params = []; locals = []; body = no_stmts }

abbrev AllCallsFit : Module → List CallPlain → Type 0
AllCallsFit m [] = Unit {0}
AllCallsFit m (c ∷ cs) = (fits_call m c ≡ true) × AllCallsFit m cs

is_true : (b : Bool) → (b ≡ false → ⊥) → b ≡ true
is_true true h = refl
is_true false h = absurd (h refl)

all_calls_fit : (m : Module) (cs : List CallPlain) → ((i : ℕ) (c : CallPlain) → slice_get cs i ≡ Some c → fits_call m c ≡ true) → AllCallsFit m cs
all_calls_fit m [] each = tt
all_calls_fit m (c ∷ cs) each = (each 0 c refl, all_calls_fit m cs (λ i c e. each (suc i) c e))

calls_fit : (m : Module) (size : ℕ) (script : ScriptPlain) → misfit m size script ≡ None → AllCallsFit m script.calls
calls_fit m size script h =
    let fits = no_misfit_fits (tests m size) script h in
    all_calls_fit m script.calls (λ i c e. is_true (fits_call m c) (λ unfit. fits.all_fit c.line (a_call i c e unfit)))

wholes_length : (zs : List ℤ) → length (map Whole zs) ≡ length zs
wholes_length [] = refl
wholes_length (z ∷ zs) = ap suc (wholes_length zs)

-- an exported function is typed
record Exported (m : Module) (c : CallPlain) : Type 0 where
  function : Function
  is : exported_function m c.name ≡ Some function
  is_typed : function_typed m function ≡ true
  many : length (map Whole c.args) ≡ length function.params

exported_at : (m : Module) → Typed m → (c : CallPlain) (o : Option Function) → exported_function m c.name ≡ o → takes o c.args ≡ true → Exported m c
exported_at m ok c None e h = absurd (cc h)
exported_at m ok c (Some f) e h =
    let p = from_bind (λ i. slice_get m.functions i) (export_number (exported_from m m.exports) c.name) f e in
    record { function = f; is = e; is_typed = function_at m ok p.0 f p.2; many = wholes_length c.args ∙ eqb-true (length c.args) (length f.params) (and_parts _ _ h).0 }

module _ (m : Module) (ok : Typed m) (calls calls' : Calls) (sound_calls : SoundCalls m host calls calls') where
  host_call_sound : (c : CallPlain) → fits_call m c ≡ true → Sound (Inv m host) (λ _. Unit {0}) (host_call calls m c) (host_call calls' m c)
  host_call_sound c h =
      let x = exported_at m ok c (exported_function m c.name) refl h in
      sound_then {P = λ f. (function_typed m f ≡ true) × (length (map Whole c.args) ≡ length f.params)} (sound_defined (record { value = x.function; is = x.is; holds = (x.is_typed, x.many) }))
      (λ f g. sound_then (sound_calls f (map Whole c.args) g.0 g.1) (λ v _. sound_event (result_event f v)))

  host_calls_sound : (cs : List CallPlain) → AllCallsFit m cs → Sound (Inv m host) (λ _. Unit {0}) (host_calls calls m cs) (host_calls calls' m cs)
  host_calls_sound [] h = sound_gives tt tt
  host_calls_sound (c ∷ cs) h = sound_then (host_call_sound c h.0) (λ _ _. host_calls_sound cs h.1)

observed_there : (I : List Binding → List Binding → Type 0) (r : Run (Unit {0})) → EndsIn I (λ _. Unit {0}) r → (seen : ObservationPlain) × (observed r ≡ Some seen)
observed_there I (goes a p) h = (_, refl)
observed_there I (stops e p) h = (_, refl)
observed_there I (spent p) h = (_, refl)
observed_there I wrong h = absurd h

session_sound : (m : Module) (size : ℕ) (script : ScriptPlain) (units : ℕ) → IsAccepted m → misfit m size script ≡ None
    → Both (Inv m host) (λ _. Unit {0}) (host_calls (call_at false m units) m script.calls (first_place m size script units)) (host_calls (call_at true m units) m script.calls (first_place m size script units))
session_sound m size script units h fits =
    let ok = accepted_is_typed m h in
    let globals = (and_parts _ _ (and_parts _ _ ok.typed).0).0 in
    (host_calls_sound m ok _ _ (calls_sound m ok units host) script.calls (calls_fit m size script fits)).both (first_place m size script units) (tt, globals_fit m script m.globals globals)

pub accepted_never_go_wrong : AcceptedNeverGoWrong
accepted_never_go_wrong m size script units h fits = observed_there (Inv m host) _ (session_sound m size script units h fits).good

pub checks_change_nothing : ChecksChangeNothing
checks_change_nothing m size script units h fits = ap observed (session_sound m size script units h fits).same

pub accepted_sessions_grow : AcceptedSessionsGrow
accepted_sessions_grow m size script units h fits =
    let few = accepted_never_go_wrong m size script units h fits in
    let many = accepted_never_go_wrong m size script (suc units) h fits in
    record { seen = few.0; later = many.0; is_seen = few.1; is_later = many.1; is_below = sessions_grow m size script units (suc units) few.0 many.0 (omega arith) few.1 many.1 }
