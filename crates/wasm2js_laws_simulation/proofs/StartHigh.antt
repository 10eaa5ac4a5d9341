-- A session of `$init` and `$hi`, where no start function runs: no statement of a segment touches the variable of the high word.
use Rattle.std.proofs.Common.{◌≡◌, ℕ, suc, ◌≤◌, Bool, true, false, List, [], ◌∷◌, ◌++◌, length, Option, Some, None, pos, refl, sym, ap, ◌∙◌, arith}
use Rattle.std.specs.Prelude.{if◌then◌else◌, codes}
use Rattle.std.specs.List.{flat_map}
use Rattle.sem_words.specs.declared.js_value.JsValue.{JsValue}
use Rattle.sem_words.specs.declared.js_value.JsValue.TheVariants.{Whole, Undef}
use Rattle.sem_words.specs.declared.js_value.JsOp.TheVariants.{Or}
use Rattle.sem_words.specs.declared.word.Word.TheVariants.{W32}
use Rattle.sem_words.specs.JsOperators.{js_binary_of}
use Rattle.session_lang.specs.Script.{ScriptPlain}
use Rattle.session_lang.specs.Observation.{call_gave, call_returned}
use Rattle.session_lang.specs.CallingForms.{init_call, hi_call}
use Rattle.wasm_lang.specs.Modules.{WasmModule}
use Rattle.wasm_lang_valid.specs.ModuleRules.{has_memory}
use Rattle.wasm_lang_valid.specs.Profile.{memory_bytes}
use Rattle.wasm_lang_exec.specs.Reductions.{callees}
use Rattle.wasm_lang_exec.specs.Fits as machine
use Rattle.asm_lang.specs.Modules as text
use Rattle.asm_lang.specs.Modules.{Variable}
use Rattle.asm_lang_valid.specs.Scope.{Signature, signature_of}
use Rattle.asm_lang_valid.specs.Typing.{Scope}
use Rattle.asm_lang_valid.specs.Typed.{scope_of}
use Rattle.asm_lang_exec.specs.Runs.{Place, Run, goes, stops, spent, wrong, Part, after, and_then, defined, gives, value_in, back_to, add_event}
use Rattle.asm_lang_exec.specs.Values.{word}
use Rattle.asm_lang_exec.specs.Meaning.{Completion, normal, returned, function_end, call_at}
use Rattle.asm_lang_exec.specs.Session.{first_globals, first_place, result_event, host_calls, observed}
use Rattle.asm_laws_continuation.specs.Following.{exec_all_to, unless_left_to, call_at_to, host_calls_to}
use Rattle.asm_laws_continuation.proofs.Following.{sessions_follow}
use Rattle.wasm2js_translation.specs.Names.{fixed, result_high, spelled}
use Rattle.wasm2js_translation.specs.Words.{stmts_in}
use Rattle.wasm2js_lang.specs.Heaps.{heap_bytes}
use Rattle.wasm2js_lang.specs.Calling.{IsCalledAs}
use Rattle.wasm2js_lang.specs.Allowed.{asking_high, GivesNoHighWord}
use Rattle.wasm2js_translation.specs.Modules.{segment_stmts, start_stmts, init_function, high_function, view_variables, fixed_variables, foreign_variables, global_variables, variables_of, translated}
use Rattle.wasm2js_laws_scripts.proofs.Calls.{IsExported, exported_as_asked}
use Rattle.wasm2js_laws_acceptance.specs.FunctionsFunctions.{IsSource}
use Rattle.wasm2js_laws_preservation.proofs.ControlStepping.{appended}
use Rattle.wasm2js_laws_simulation.specs.SegmentsLaws.{with_segments, segments_units, Takes, through, short}
use Rattle.wasm2js_laws_simulation.proofs.HostExports.{init_exported, high_exported}
use Rattle.wasm2js_laws_simulation.proofs.SegmentsStored.{segments_are_stored}
use Rattle.wasm2js_laws_simulation.proofs.InstancesMemory.{heap_holds}

abbrev high_name : List ℕ
high_name = spelled (fixed result_high)

-- the variable begins as 0, with a memory and without one
begins_as_zero : (w : WasmModule) (s : ScriptPlain) → value_in (first_globals s (variables_of w)) high_name ≡ Some (Whole (pos 0))
begins_as_zero w s = by (has_memory w)
  where
    by : (memory : Bool) → value_in (first_globals s ((if memory then view_variables else []) ++ fixed_variables ++ foreign_variables 0 (callees w) ++ global_variables w)) high_name ≡ Some (Whole (pos 0))
    by true = refl
    by false = refl

nothing_after : (r : Run (Unit {0})) → after r gives ≡ r
nothing_after (goes u p) = refl
nothing_after (stops e p) = refl
nothing_after (spent p) = refl
nothing_after wrong = refl

module _ (w : WasmModule) (source : IsSource w) (asked : IsCalledAs w (translated w)) (s : ScriptPlain) (fit : machine.misfit w s ≡ None) (none : w.start ≡ None) where
  abbrev a : text.Module
  a = translated w

  -- the units of segments
  abbrev cost : ℕ
  cost = segments_units w.segments

  abbrev begins : Place
  begins = first_place a (heap_bytes w) (asking_high s) (suc (suc cost))

  abbrev inside : Scope
  inside = scope_of a (init_function w)

  -- after `$init` took its unit, after the segments, and after `$init` is back
  abbrev entered : Place
  entered = record begins { locals = []; units = suc cost }

  abbrev stored : Place
  stored = record entered { heap = with_segments w.segments begins.heap; units = 1 }

  abbrev back : Place
  back = record stored { events = call_returned ∷ [] }

  abbrev last : Place
  last = record back { events = call_returned ∷ call_gave (W32 0) ∷ []; units = 0 }

  -- ---- `$hi`

  abbrev asks : Part (Unit {0})
  asks = host_calls_to (call_at_to a (suc (suc cost))) a (hi_call 0 ∷ []) gives

  abbrev answers : JsValue → Part (Unit {0})
  answers v = and_then (add_event (result_event high_function v)) gives

  abbrev read_as : Option JsValue → Run (Unit {0})
  read_as o =
      after (defined o (record back { locals = []; units = 0 })) (λ v. and_then (defined (js_binary_of Or v (Whole (pos 0)))) (λ x. and_then (function_end (returned x)) (λ y. and_then (back_to back.locals y) answers)))

  zero : value_in back.globals high_name ≡ Some (Whole (pos 0))
  zero = begins_as_zero w (asking_high s)

  high_called : asks back ≡ goes tt last
  high_called =
      ap (λ o. and_then (defined o) (λ g. call_at_to a (suc (suc cost)) g [] (λ v. and_then (add_event (result_event g v)) gives)) back) (high_exported w)
      ∙ ap read_as zero

  -- ---- `$init`

  none_signed : signature_of (init_function w) ≡ record { params = 0; result = false }
  none_signed = by_export (exported_as_asked w a (codes "$init") _ asked refl)
    where
      by_export : IsExported a (codes "$init") (record { params = 0; result = false }) → signature_of (init_function w) ≡ record { params = 0; result = false }
      by_export it =
          let both : Some (init_function w) ≡ Some it.function = sym (init_exported w) ∙ it.is_this in
          let same : init_function w ≡ it.function = some_same both in
          ap signature_of same ∙ it.signature
        where
          some_same : {f g : text.Function} → ◌≡◌ {A = Option text.Function} (Some f) (Some g) → f ≡ g
          some_same h = cc h

  abbrev next : JsValue → Part (Unit {0})
  next v = and_then (add_event (result_event (init_function w) v)) (λ _. asks)

  abbrev ends : Completion → Part (Unit {0})
  ends d = and_then (function_end d) (λ v. and_then (back_to [] v) next)

  abbrev starts : Option ℕ → Part (Unit {0})
  starts o = exec_all_to (call_at_to a (suc cost)) inside (suc cost) (stmts_in (start_stmts o)) ends

  holds : memory_bytes w ≤ length begins.heap
  holds = heap_holds w source asked s fit

  abbrev further : Completion → Part (Unit {0})
  further d = unless_left_to d (exec_all_to (call_at_to a (suc cost)) inside (suc cost) (stmts_in (start_stmts w.start))) ends

  all_stored : exec_all_to (call_at_to a (suc cost)) inside (suc cost) (stmts_in (flat_map segment_stmts w.segments)) further entered ≡ further normal stored
  all_stored = by (segments_are_stored w source (suc cost) further entered holds (omega arith))
    where
      by : {run : Run (Unit {0})} → Takes cost (with_segments w.segments begins.heap) entered (further normal) run → run ≡ further normal stored
      by (through left many is) =
          let one : left ≡ 1 = omega (arith, many) in
          is ∙ ap (λ u. further normal (record entered { heap = with_segments w.segments begins.heap; units = u })) one
      by (short q less shown is) = absurd (omega (arith, less))

  whole : host_calls_to (call_at_to a (suc (suc cost))) a (init_call ∷ hi_call 0 ∷ []) gives begins ≡ goes tt last
  whole =
      ap (λ o. and_then (defined o) (λ g. call_at_to a (suc (suc cost)) g [] (λ v. and_then (add_event (result_event g v)) (λ _. asks))) begins) (init_exported w)
      ∙ ap (λ f. f entered) (appended (call_at_to a (suc cost)) inside (suc cost) (flat_map segment_stmts w.segments) (start_stmts w.start) ends)
      ∙ all_stored
      ∙ ap (λ o. starts o stored) none
      ∙ ap (λ (f : Signature). asks (record stored { events = (if f.result then call_gave (word Undef) else call_returned) ∷ [] })) none_signed
      ∙ high_called

  direct : host_calls (call_at false a (suc (suc cost))) a (asking_high s).calls begins ≡ goes tt last
  direct = sym (nothing_after _) ∙ sym (sessions_follow a (suc (suc cost)) (asking_high s).calls gives begins) ∙ whole

  pub no_high_word : GivesNoHighWord w a s
  no_high_word = record { units = suc (suc cost); heap = last.heap; gives = ap observed direct }
