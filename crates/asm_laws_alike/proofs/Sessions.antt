-- Alike modules have equal sessions, and the same scripts fit them.
use Rattle.std.proofs.Common.{◌≡◌, ℕ, zero, suc, ◌+◌, ℤ, false, ◌&&◌, List, [], ◌∷◌, length, Option, refl, sym, ap, subst}
use Rattle.std.specs.Prelude.{if◌then◌else◌, map, nat_le, replicate, not, ◌==◌}
use Rattle.std.specs.List.{list_all}
use Rattle.sem_words.specs.declared.js_value.JsValue.{JsValue}
use Rattle.sem_words.specs.declared.js_value.JsValue.TheVariants.{Whole}
use Rattle.session_lang.specs.Script.{WritePlain, CallPlain, ScriptPlain}
use Rattle.session_lang.specs.Observation.{call_gave, call_returned}
use Rattle.session_lang.specs.Fits as parts
use Rattle.session_lang.specs.Fits.{is_given, writes_of, are_bytes}
use Rattle.asm_lang.specs.Modules.{Function, Module}
use Rattle.asm_lang_valid.specs.Scope.{is_in, Signature}
use Rattle.asm_lang_valid.specs.Typed.{scope_of}
use Rattle.asm_lang_exec.specs.Runs.{Binding, defined, add_event}
use Rattle.asm_lang_exec.specs.Values.{with_writes, word}
use Rattle.asm_lang_exec.specs.Meaning.{Completion, first_locals, function_end, call_at}
use Rattle.asm_lang_exec.specs.Session.{first_heap, first_place, exported_function, result_event, host_call, host_calls, asm}
use Rattle.asm_lang_exec.specs.Fits.{in_range, fits_write, takes, tests, misfit}
use Rattle.asm_short_lang.specs.Renaming.{local_names}
use Rattle.asm_laws_alike.specs.Places.{valued_names, nothing_open}
use Rattle.asm_laws_alike.specs.Code.{ArePaired, SameOption, neither, both}
use Rattle.asm_laws_alike.specs.Alike.{AreAlike, AlikeAreSameOutside}
use Rattle.asm_laws_alike.proofs.Values.{SameBindings, no_bindings}
use Rattle.asm_laws_alike.proofs.Runs.{Sides, SamePlace, Same, Equal, same_then, same_value_then, same_gives, same_wrong, same_out_of_units, same_pay, same_event, same_locals, same_observed, both_go, both_wrong}
use Rattle.asm_laws_alike.proofs.Evaluating.{SameCalls, same_option}
use Rattle.asm_laws_alike.proofs.Executing.{SameEnd, both_normal, both_break, both_break_to, both_continue, both_continue_to, both_return, exec_all_same}
use Rattle.asm_laws_alike.proofs.Declared.{SameLocals, no_locals, both_locals, locals_same, globals_same, heap_same, foreign_same, same_params, signature_same, of_pair, exported_same, offers_same}

-- ---- calls

same_function_end : (s : Sides) (d d' : Completion) → SameEnd nothing_open nothing_open d d' → Same s Equal (function_end d) (function_end d')
same_function_end s d d' both_normal = same_gives refl
same_function_end s d d' both_break = same_wrong
same_function_end s d d' (both_break_to h) = same_wrong
same_function_end s d d' both_continue = same_wrong
same_function_end s d d' (both_continue_to h) = same_wrong
same_function_end s d d' (both_return v) = same_gives refl

same_first : (s : Sides) (l l' : List (List ℕ)) (o o' : Option (List Binding)) → SameLocals l l' o o' → Same s (SameBindings l l') (defined o) (defined o')
same_first s l l' o o' no_locals = record { runs = λ p p' i. both_wrong }
same_first s l l' o o' (both_locals h) = record { runs = λ p p' i. both_go h i }

module _ (m m' : Module) (h : AreAlike m m') where
  abbrev globals : List (List ℕ)
  globals = valued_names m.globals

  abbrev globals' : List (List ℕ)
  globals' = valued_names m'.globals

  pub calls_same : (bound : ℕ) → SameCalls h.pairs (call_at false m bound) (call_at false m' bound) globals globals'
  calls_same zero f f' p l l' vs = same_out_of_units
  calls_same (suc bound) f f' p l l' vs =
      let k = of_pair m m' h f f' p in
      let s : Sides = record { locals = l; locals' = l'; globals = globals; globals' = globals' } in
      same_value_then same_pay (λ _. same_then (same_first s (local_names f) (local_names f') (first_locals f vs) (first_locals f' vs) (locals_same h.pairs m m' f f' vs k))
      (λ bs bs' b. same_locals s (local_names f) (local_names f') bs bs' b
      (same_then (exec_all_same h.pairs (scope_of m f) (scope_of m' f') (call_at false m bound) (call_at false m' bound) bound (calls_same bound) k.body) (λ d d' e. same_function_end (record s { locals = local_names f; locals' = local_names f' }) d d' e))))

  -- ---- the script's calls

  abbrev outside : Sides
  outside = record { locals = []; locals' = []; globals = globals; globals' = globals' }

  same_result_event : (f f' : Function) (v : JsValue) → ArePaired h.pairs f f' → result_event f' v ≡ result_event f v
  same_result_event f f' v p = ap (λ (s : Signature). if s.result then call_gave (word v) else call_returned) (signature_same h.pairs m m' f f' (of_pair m m' h f f' p))

  host_call_same : (bound : ℕ) (c : CallPlain) → Same outside Equal (host_call (call_at false m bound) m c) (host_call (call_at false m' bound) m' c)
  host_call_same bound c =
      same_then (same_option h.pairs outside (exported_function m c.name) (exported_function m' c.name) (exported_same m m' h c.name))
      (λ f f' p. same_value_then (calls_same bound f f' p [] [] (map Whole c.args)) (λ v. subst (λ e. Same outside Equal (add_event (result_event f v)) (add_event e)) (sym (same_result_event f f' v p)) (same_event (result_event f v))))

  host_calls_same : (bound : ℕ) (cs : List CallPlain) → Same outside Equal (host_calls (call_at false m bound) m cs) (host_calls (call_at false m' bound) m' cs)
  host_calls_same bound [] = same_gives refl
  host_calls_same bound (c ∷ cs) = same_value_then (host_call_same bound c) (λ _. host_calls_same bound cs)

  same_heap : (size : ℕ) (script : ScriptPlain) → first_heap m' size script ≡ first_heap m size script
  same_heap size script = ap (λ b. with_writes script.writes (replicate (if b then size else 0) 0)) (heap_same m m' h.globals)

  same_first_place : (size : ℕ) (script : ScriptPlain) (units : ℕ) → SamePlace outside (first_place m size script units) (first_place m' size script units)
  same_first_place size script units = record { locals = no_bindings; globals = globals_same script m.globals m'.globals h.globals; heap = same_heap size script; replies = refl; events = refl; units = refl }

  pub sessions_same : (size : ℕ) (script : ScriptPlain) (units : ℕ) → asm m' size script units ≡ asm m size script units
  sessions_same size script units = same_observed outside ((host_calls_same units script.calls).runs (first_place m size script units) (first_place m' size script units) (same_first_place size script units))

  -- ---- what fits

  same_takes : (o o' : Option Function) (zs : List ℤ) → SameOption h.pairs o o' → takes o' zs ≡ takes o zs
  same_takes o o' zs neither = refl
  same_takes o o' zs (both {f = f} {f' = f'} p) = ap (λ n. (length zs == n) && list_all in_range zs) (same_params h.pairs m m' f f' (of_pair m m' h f f' p))

  same_fits_write : (size : ℕ) → fits_write m' size ≡ fits_write m size
  same_fits_write size = ap (λ b (w : WritePlain). are_bytes w.bytes && (b && nat_le (w.at + length w.bytes) size)) (heap_same m m' h.globals)

  same_tests : (size : ℕ) → tests m' size ≡ tests m size
  same_tests size i = record {
    imports = foreign_same m m' h.globals i;
    fits_global = λ before g. is_in g.name (foreign_same m m' h.globals i) && in_range g.value && not (is_given before g.name);
    fits_write = same_fits_write size i;
    fits_call = λ c. same_takes (exported_function m c.name) (exported_function m' c.name) c.args (exported_same m m' h c.name) i;
    fits_reply = λ r. list_all (same_fits_write size i) (writes_of r);
  }

  pub misfit_same : (size : ℕ) (script : ScriptPlain) → misfit m' size script ≡ misfit m size script
  misfit_same size script = ap (λ t. parts.misfit t script) (same_tests size)

pub alike_are_same : AlikeAreSameOutside
alike_are_same m m' h = record { heap = heap_same m m' h.globals; foreign = foreign_same m m' h.globals; exports = offers_same m m' h; fits = misfit_same m m' h; sessions = sessions_same m m' h }
