-- How many reductions are left, and what more of them change.
use Rattle.std.proofs.Common.{◌≡◌, ℕ, zero, suc, ◌+◌, List, [], refl, ap, ◌∙◌, subst, arith}
use Rattle.std.specs.Prelude.{reverse}
use Rattle.sem_words.specs.declared.word.Word.{Word}
use Rattle.session_lang.specs.Observation.{IsPrefix}
use Rattle.session_lang.proofs.BelowLaws.{prefix_trans}
use Rattle.wasm_lang.specs.Modules.{WasmModule}
use Rattle.wasm_lang_exec.specs.Code.{call, ε, ◌▹◌}
use Rattle.wasm_lang_exec.specs.Store.{Store}
use Rattle.wasm_lang_exec.specs.Reductions.{Config, Code, Reduct, to, is_values, branches, returns, stops, is_stuck, reduce}
use Rattle.wasm_lang_exec.specs.Session.{with_none, with_one, run}
use Rattle.wasm_laws_drive.specs.Drive.{Outcome, Next, Branch, Leave, Ended, Stuck, Spent, at, halted, driven, drive}
use Rattle.wasm_laws_drive.specs.Laws.{Within, NoMoreAreLeft, events_of, Adds, MoreOnlyAdd, EventsStay, run_of, RunIsDriven, HostCall}
use Rattle.wasm_laws_drive.proofs.Instructions.{call_enters}
use Rattle.wasm_laws_drive.proofs.Events.{same_events, Lasts, reduce_lasts}

within_more : (n : ℕ) (r : Outcome) → Within n r → Within (suc n) r
within_more n (Next t) h = omega arith
within_more n (Branch k t) h = omega arith
within_more n (Leave t) h = omega arith
within_more n (Ended e s) h = tt
within_more n (Stuck s) h = tt
within_more n (Spent s) h = tt

module _ (m : WasmModule) where
  within : (n : ℕ) (c : Config) (locals : List Word) (s : Store) → Within n (drive m n c locals s)
  within zero c locals s = go (reduce m c locals s)
    where
      go : (r : Reduct) → Within zero (halted r locals s)
      go (to c l s') = tt
      go (is_values values) = omega arith
      go (branches k values) = tt
      go (returns values) = tt
      go (stops e s') = tt
      go is_stuck = tt
  within (suc n) c locals s = go (λ c l s. within_more n (drive m n c l s) (within n c l s)) (reduce m c locals s)
    where
      go : ((c : Config) (l : List Word) (s : Store) → Within (suc n) (drive m n c l s)) → (r : Reduct) → Within (suc n) (driven (drive m n) n r locals s)
      go before (to c l s') = before c l s'
      go before (is_values values) = omega arith
      go before (branches k values) = omega arith
      go before (returns values) = omega arith
      go before (stops e s') = tt
      go before is_stuck = tt

  -- ---- events

  stay_none : (r : Reduct) (locals : List Word) (s : Store) → IsPrefix s.events (events_of (halted r locals s))
  stay_none (to c l s') locals s = same_events s
  stay_none (is_values values) locals s = same_events s
  stay_none (branches k values) locals s = same_events s
  stay_none (returns values) locals s = same_events s
  stay_none (stops e s') locals s = same_events s
  stay_none is_stuck locals s = same_events s

  stay_some : (n : ℕ) (r : Reduct) (locals : List Word) (s : Store)
      → ((c : Config) (l : List Word) (s : Store) → IsPrefix s.events (events_of (drive m n c l s)))
      → Lasts s r → IsPrefix s.events (events_of (driven (drive m n) n r locals s))
  stay_some n (to c l s') locals s before lasts = prefix_trans s.events s'.events (events_of (drive m n c l s')) lasts (before c l s')
  stay_some n (is_values values) locals s before lasts = same_events s
  stay_some n (branches k values) locals s before lasts = same_events s
  stay_some n (returns values) locals s before lasts = same_events s
  stay_some n (stops e s') locals s before lasts = lasts
  stay_some n is_stuck locals s before lasts = same_events s

  stay : (n : ℕ) (c : Config) (locals : List Word) (s : Store) → IsPrefix s.events (events_of (drive m n c locals s))
  stay zero c locals s = stay_none (reduce m c locals s) locals s
  stay (suc n) c locals s = stay_some n (reduce m c locals s) locals s (stay n) (reduce_lasts m c locals s)

  -- ---- more reductions

  adds_none : (r : Reduct) (locals : List Word) (s : Store) → Adds 0 (halted r locals s) (halted r locals s)
  adds_none (to c l s') locals s = same_events s
  adds_none (is_values values) locals s = refl
  adds_none (branches k values) locals s = same_events s
  adds_none (returns values) locals s = same_events s
  adds_none (stops e s') locals s = same_events s
  adds_none is_stuck locals s = same_events s

  adds_some : (k : ℕ) (r : Reduct) (locals : List Word) (s : Store) → Lasts s r → Adds (suc k) (halted r locals s) (driven (drive m k) k r locals s)
  adds_some k (to c l s') locals s lasts = prefix_trans s.events s'.events (events_of (drive m k c l s')) lasts (stay k c l s')
  adds_some k (is_values values) locals s lasts =
      let e : suc k ≡ 0 + suc k = omega arith in
      ap (λ left. Next (at values locals s left)) e
  adds_some k (branches l values) locals s lasts = same_events s
  adds_some k (returns values) locals s lasts = same_events s
  adds_some k (stops e s') locals s lasts = lasts
  adds_some k is_stuck locals s lasts = same_events s

  adds_further : (n k : ℕ) (r : Reduct) (locals : List Word) (s : Store)
      → ((c : Config) (l : List Word) (s : Store) → Adds k (drive m n c l s) (drive m (n + k) c l s))
      → Adds k (driven (drive m n) n r locals s) (driven (drive m (n + k)) (n + k) r locals s)
  adds_further n k (to c l s') locals s before = before c l s'
  adds_further n k (is_values values) locals s before =
      let e : suc (n + k) ≡ suc n + k = omega arith in
      ap (λ left. Next (at values locals s left)) e
  adds_further n k (branches l values) locals s before = refl
  adds_further n k (returns values) locals s before = refl
  adds_further n k (stops e s') locals s before = refl
  adds_further n k is_stuck locals s before = refl

  adds : (n k : ℕ) (c : Config) (locals : List Word) (s : Store) → Adds k (drive m n c locals s) (drive m (n + k) c locals s)
  adds zero zero c locals s = adds_none (reduce m c locals s) locals s
  adds zero (suc k) c locals s =
      let e : suc k ≡ 0 + suc k = omega arith in
      subst (λ j. Adds (suc k) (drive m zero c locals s) (drive m j c locals s)) e (adds_some k (reduce m c locals s) locals s (reduce_lasts m c locals s))
  adds (suc n) k c locals s =
      let e : suc (n + k) ≡ suc n + k = omega arith in
      subst (λ j. Adds k (drive m (suc n) c locals s) (drive m j c locals s)) e (adds_further n k (reduce m c locals s) locals s (adds n k))

  -- ---- the run of a host's call

  run_none : (r : Reduct) (locals : List Word) (s : Store) → with_none r s ≡ run_of (halted r locals s)
  run_none (to c l s') locals s = refl
  run_none (is_values values) locals s = refl
  run_none (branches k values) locals s = refl
  run_none (returns values) locals s = refl
  run_none (stops e s') locals s = refl
  run_none is_stuck locals s = refl

  run_some : (n : ℕ) (r : Reduct) (locals : List Word) (s : Store)
      → ((c : Config) (l : List Word) (s : Store) → run m n c l s ≡ run_of (drive m n c l s))
      → with_one (run m n) n r s ≡ run_of (driven (drive m n) n r locals s)
  run_some n (to c l s') locals s before = before c l s'
  run_some n (is_values values) locals s before = refl
  run_some n (branches k values) locals s before = refl
  run_some n (returns values) locals s before = refl
  run_some n (stops e s') locals s before = refl
  run_some n is_stuck locals s before = refl

  run_drives : (n : ℕ) (c : Config) (locals : List Word) (s : Store) → run m n c locals s ≡ run_of (drive m n c locals s)
  run_drives zero c locals s = run_none (reduce m c locals s) locals s
  run_drives (suc n) c locals s = run_some n (reduce m c locals s) locals s (run_drives n)

pub no_more_are_left : NoMoreAreLeft
no_more_are_left = within

pub events_stay : EventsStay
events_stay = stay

pub more_only_add : MoreOnlyAdd
more_only_add = adds

pub run_is_driven : RunIsDriven
run_is_driven = run_drives

pub host_call : HostCall
host_call m n f arguments s =
    run_is_driven m n (Code (reverse arguments) (call f ▹ ε)) [] s ∙ ap run_of (call_enters m f ε (at (reverse arguments) [] s n))
