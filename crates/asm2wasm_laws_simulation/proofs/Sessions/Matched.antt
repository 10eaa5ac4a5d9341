-- Each number of units has one of reductions by which both sessions show the same; and the target's ends are no traps.
use Rattle.std.proofs.Common.{◌≡◌, ℕ, ◌+◌, ◌-◌, ◌*◌, ◌≤◌, List, ◌++◌, length, map, drop, replicate, Some, refl, sym, ap, ◌∙◌, subst, arith}
use Rattle.std.specs.Prelude.{IsNone}
use Rattle.std.proofs.Math.Seq.{take-append_seam, drop-append_seam}
use Rattle.std.proofs.lemmas.Option.{none-some}
use Rattle.session_lang.specs.Script.{ScriptPlain}
use Rattle.session_lang.specs.Observation.{EndPlain, done, stopped, no_reply, trapped, ObservationPlain, running, ended}
use Rattle.session_lang.specs.Simulation.{Session, HeapsAgree, Comparison, IsSameAs, SourceIsBelow, TargetIsBelow}
use Rattle.session_lang.specs.CallingForms.{event_to_wasm, end_to_wasm, script_to_wasm}
use Rattle.session_lang.specs.Laws.{IsMatched}
use Rattle.session_lang.proofs.Sides.{source_same, target_same}
use Rattle.session_lang.proofs.BelowLaws.{prefix_same}
use Rattle.wasm_lang.specs.Modules.{WasmModule}
use Rattle.wasm_lang_exec.specs.Store.{page}
use Rattle.wasm_lang_valid.specs.Runnable.{pages}
use Rattle.wasm_lang_exec.specs.Session.{bytes_in, first_memory, wasm}
use Rattle.wasm_laws_drive.proofs.Sessions.{ended_sessions_stay}
use Rattle.asm_lang.specs.Modules.{Module}
use Rattle.asm_lang_exec.specs.Runs.{Place, Run, goes, stops, spent, wrong}
use Rattle.asm_lang_exec.specs.Session.{heap_length, first_heap, observed}
use Rattle.asm2wasm_lang.specs.Allowed.{or_nothing, target_session, comparison}
use Rattle.asm2wasm_lang.specs.Heaps.{pages_for}
use Rattle.asm2wasm_translation.specs.Modules.{translation}
use Rattle.asm2wasm_laws_run.specs.State.{Fixed, IsNoTrap}
use Rattle.asm2wasm_laws_simulation.specs.Sessions.Reached.{fixed_for, Reaches}
use Rattle.asm2wasm_laws_simulation.proofs.Sessions.Begun.{FitsTo, heap_long, memory_is}

module _ (m : Module) (size : ℕ) (s : ScriptPlain) (hold : size ≤ pages_for size * page) (fits : FitsTo m size s) where
  abbrev w : WasmModule
  w = translation m size

  abbrev by : Comparison
  by = comparison w s

  abbrev past : List ℕ
  past = replicate (bytes_in (pages w) - heap_length m size) 0

  -- ---- the same

  heaps_agree : (heap : List ℕ) → length heap ≡ heap_length m size → HeapsAgree (first_memory w (script_to_wasm s)) heap (heap ++ past)
  heaps_agree heap long =
      let same : length heap ≡ length (first_heap m size s) = long ∙ sym (heap_long m size s) in
      let first : drop (length heap) (first_memory w (script_to_wasm s)) ≡ past =
      ap (λ b. drop (length heap) b) (memory_is m size s hold fits) ∙ ap (λ n. drop n (first_heap m size s ++ past)) same ∙ drop-append_seam (first_heap m size s) past
      in
      record { same = take-append_seam heap past; kept = drop-append_seam heap past ∙ sym first }

  ends_same : (p : Place) (e : EndPlain) → length p.heap ≡ heap_length m size
      → IsSameAs by (ended p.events e p.heap) (ended (map event_to_wasm p.events) (end_to_wasm e) (p.heap ++ past))
  ends_same p e long = record { events = refl; end = refl; heap = heaps_agree p.heap long }

  abbrev target : Session
  target = target_session w s

  module _ (source : Session) (worth more : ℕ) where
    module _ (bound : ℕ → ℕ) (n : ℕ) (few : more + worth * n ≤ bound n) where
      -- from what is the same in both
      matched_ends : (p : Place) (e : EndPlain) (budget : ℕ) → budget ≤ more + worth * n → length p.heap ≡ heap_length m size → source n ≡ ended p.events e p.heap
          → target budget ≡ ended (map event_to_wasm p.events) (end_to_wasm e) (p.heap ++ past) → IsMatched by source target bound n
      matched_ends p e budget le long is shown =
          let x = ended p.events e p.heap in
          let y = ended (map event_to_wasm p.events) (end_to_wasm e) (p.heap ++ past) in
          record {
            budget = budget;
            within = omega (arith, le, few);
            no_less = subst (λ x. SourceIsBelow by x (target budget)) (sym is) (subst (λ y. SourceIsBelow by x y) (sym shown) (source_same by x y (ends_same p e long)));
            no_more = subst (λ x. TargetIsBelow by (target budget) x) (sym is) (subst (λ y. TargetIsBelow by y x) (sym shown) (target_same by x y (ends_same p e long)));
            goes_on = λ none. let never : IsNone (Some e) = subst (λ (x : ObservationPlain). IsNone x.end) is none in absurd (cc never);
          }

      pub matched : (o : Run (Unit {0})) (seen : ObservationPlain) → observed o ≡ Some seen → source n ≡ or_nothing (observed o)
          → Reaches (fixed_for m size s) (heap_length m size) worth more n target o → IsMatched by source target bound n
      matched (goes u p) seen right is r = matched_ends p done r.1.budget r.1.within r.0 is r.1.by
      matched (stops e p) seen right is r = matched_ends p e r.2.budget r.2.within r.1 is r.2.by
      matched (spent p) seen right is r =
          let x = running p.events in
          let y = running (map event_to_wasm p.events) in
          let le = r.0.within in
          let same = prefix_same (map event_to_wasm p.events) (map event_to_wasm p.events) refl in
          record {
            budget = r.0.budget;
            within = omega (arith, le, few);
            no_less = subst (λ x. SourceIsBelow by x (target r.0.budget)) (sym is) (subst (λ y. SourceIsBelow by x y) (sym r.0.by) same);
            no_more = subst (λ x. TargetIsBelow by (target r.0.budget) x) (sym is) (subst (λ y. TargetIsBelow by y x) (sym r.0.by) same);
            goes_on = λ none. r.1;
          }
      matched wrong seen right is r = absurd (none-some seen right)

-- ---- ends

module _ (w : WasmModule) (to : ScriptPlain) where
  abbrev session : Session
  session = wasm w to

  no_trap_goes_over : (e : EndPlain) → IsNoTrap e → IsNoTrap (end_to_wasm e)
  no_trap_goes_over done h = tt
  no_trap_goes_over (stopped name args) h = tt
  no_trap_goes_over (no_reply name args) h = tt
  no_trap_goes_over (trapped kind) h = absurd h

  -- two budgets at which the session has ended show one end
  one_end : (n k : ℕ) (e e' : EndPlain) → (session n).end ≡ Some e → (session k).end ≡ Some e' → e' ≡ e
  one_end n k e e' h h' =
      let turned : n + k ≡ k + n = omega arith in
      let same : session k ≡ session n =
      sym (ended_sessions_stay w to k n e' h') ∙ ap session (sym turned) ∙ ended_sessions_stay w to n k e h
      in
      let both : Some e' ≡ Some e = sym h' ∙ ap (λ (x : ObservationPlain). x.end) same ∙ h in
      cc both

  pub no_trap : (x : Fixed) (long worth more n : ℕ) (o : Run (Unit {0})) (seen : ObservationPlain) → observed o ≡ Some seen → Reaches x long worth more n session o
      → (e : EndPlain) → (session n).end ≡ Some e → IsNoTrap e
  no_trap x long worth more n (goes u p) seen right r e h = subst IsNoTrap (one_end n r.1.budget e done h (ap (λ (x : ObservationPlain). x.end) r.1.by)) tt
  no_trap x long worth more n (stops e' p) seen right r e h = subst IsNoTrap (one_end n r.2.budget e (end_to_wasm e') h (ap (λ (x : ObservationPlain). x.end) r.2.by)) (no_trap_goes_over e' r.0)
  no_trap x long worth more n (spent p) seen right r e h =
      let budget = r.0.budget in
      let many = r.1 in
      let rest : n + (budget - n) ≡ budget = omega (arith, many) in
      let same : session budget ≡ session n = ap session (sym rest) ∙ ended_sessions_stay w to n (budget - n) e h in
      absurd (none-some e (sym (ap (λ (x : ObservationPlain). x.end) r.0.by) ∙ ap (λ (x : ObservationPlain). x.end) same ∙ h))
  no_trap x long worth more n wrong seen right r e h = absurd (none-some seen right)
