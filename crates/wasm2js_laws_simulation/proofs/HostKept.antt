-- What is left of a session keeps the events that there were; and stores of places that differ in units and events alone.
use Rattle.std.proofs.Common.{◌≡◌, ℕ, Bool, true, false, List, [], ◌∷◌, ◌++◌, Option, Some, None, refl, ap, ◌∙◌}
use Rattle.std.specs.Prelude.{reverse}
use Rattle.std.proofs.Math.Path.{fun_ext}
use Rattle.session_lang.specs.Script.{CallPlain}
use Rattle.session_lang.specs.Observation.{EventPlain, ObservationPlain, IsPrefix}
use Rattle.session_lang.proofs.BelowLaws.{prefix_trans}
use Rattle.wasm_lang.specs.Modules.{WasmModule}
use Rattle.wasm_lang_exec.specs.Code.{call, ε, ◌▹◌}
use Rattle.wasm_lang_exec.specs.Store.{Store}
use Rattle.wasm_lang_exec.specs.Reductions.{Reduct, to, is_values, branches, returns, stops, is_stuck, reduce, callee_at, Code}
use Rattle.wasm_lang_exec.specs.Session.{with_none, result_event, with_event, function_named, arguments_for, after_call, one_call, calls_seen}
use Rattle.wasm_laws_drive.proofs.Events.{same_events}
use Rattle.asm_lang_exec.specs.Runs.{Place, value_in}
use Rattle.wasm2js_translation.specs.Names.{Name, spelled}
use Rattle.wasm2js_laws_places.specs.Places.{is_own, variables, word_bound, word_at, Setting, store_with, store_of}

-- ---- with no reduction left

abbrev pub KeepsEvents : (ℕ → Store → ObservationPlain) → Type 0
KeepsEvents next = (s : Store) → IsPrefix s.events (next 0 s).events

none_keeps : (r : Reduct) (s : Store) (next : ℕ → Store → ObservationPlain) → KeepsEvents next → IsPrefix s.events (after_call (with_none r s) next).events
none_keeps (is_values vs) s next keeps = prefix_trans s.events (s.events ++ result_event vs ∷ []) _ (result_event vs ∷ [], refl) (keeps (with_event (result_event vs) s))
none_keeps (to c locals s') s next keeps = same_events s
none_keeps (branches k vs) s next keeps = same_events s
none_keeps (returns vs) s next keeps = same_events s
none_keeps (stops e s') s next keeps = same_events s
none_keeps is_stuck s next keeps = same_events s

pub calls_keep : (w : WasmModule) (cs : List CallPlain) → KeepsEvents (calls_seen w cs)
calls_keep w [] s = same_events s
calls_keep w (c ∷ cs) s = by (calls_keep w cs) (function_named w.exports c.name)
  where
    by : KeepsEvents (calls_seen w cs) → (o : Option ℕ) → IsPrefix s.events (one_call w o c.args 0 s (calls_seen w cs)).events
    by keeps None = same_events s
    by keeps (Some f) = none_keeps (reduce w (Code (reverse (arguments_for (callee_at w f) c.args)) (call f ▹ ε)) [] s) s (calls_seen w cs) keeps

-- ---- stores

pub words_same : (p q : Place) → q.locals ≡ p.locals → q.globals ≡ p.globals → word_at q ≡ word_at p
words_same p q l g = fun_ext (λ n. by (is_own n) n)
  where
    by : (b : Bool) (n : Name) → word_bound (value_in (variables b q) (spelled n)) ≡ word_bound (value_in (variables b p) (spelled n))
    by true n = ap (λ bs. word_bound (value_in bs (spelled n))) l
    by false n = ap (λ bs. word_bound (value_in bs (spelled n))) g

pub store_same : (x : Setting) (p q : Place) (events : List EventPlain) → q.locals ≡ p.locals → q.globals ≡ p.globals → q.heap ≡ p.heap → q.replies ≡ p.replies
    → store_of x q events ≡ store_of x p events
store_same x p q events l g h r =
    ap (λ heap. store_with x (word_at q) heap q.replies events) h
    ∙ ap (λ words. store_with x words p.heap q.replies events) (words_same p q l g)
    ∙ ap (λ replies. store_with x (word_at p) p.heap replies events) r
