-- Runs of a host's call, from its call to what it comes to.
use Rattle.std.proofs.Common.{◌≡◌, ◌≢◌, ℕ, zero, suc, ◌-◌, ◌<◌, false, List, [], ◌∷◌, Some, length, map, reverse, refl, sym, ap, subst, ◌∙◌, arith}
use Rattle.std.specs.Prelude.{slice_get}
use Rattle.std.proofs.lemmas.List.{reverse-reverse, length-reverse, length-map}
use Rattle.sem_words.specs.declared.word.Word.{Word}
use Rattle.wasm_lang.specs.Instructions.{Instruction}
use Rattle.wasm_lang.specs.Modules.{WasmModule}
use Rattle.wasm_lang_exec.specs.Code.{call, ε, ◌▹◌}
use Rattle.wasm_lang_exec.specs.Store.{Store}
use Rattle.wasm_lang_exec.specs.Reductions.{Code, callee_at}
use Rattle.wasm_lang_exec.specs.Session as session
use Rattle.wasm_lang_exec.specs.Session.{run_call, spent}
use Rattle.wasm_laws_drive.specs.Drive.{Outcome, Spent, at}
use Rattle.wasm_laws_drive.specs.Laws.{run_of}
use Rattle.wasm_laws_drive.proofs.Counting.{run_is_driven}
use Rattle.wasm_laws_drive.specs.Steps.{in_call}
use Rattle.wasm_laws_drive.proofs.Stepping.{call_step}
use Rattle.wasm_run_flat.proofs.Standing.{stands_inside}
use Rattle.wasm_laws_machine.specs.Machine.{EnclosingPlain, MachinePlain, state_of, targets_of}
use Rattle.wasm_laws_machine.specs.Meaning.{IsEnclosed, Runs, Calls}
use Rattle.wasm_run_frames.specs.declared.machine.Enclosing.{Enclosing}
use Rattle.wasm_run_frames.specs.Views.{enclosing_of, all_enclosing}
use Rattle.wasm_run_machine.specs.Kinds.{is_free}
use Rattle.wasm_run_machine.proofs.Spending.{stands_there, spends}
use Rattle.wasm_run_machine.specs.declared.running.Ran.{Ran}
use Rattle.wasm_run_machine.specs.declared.running.Ran.TheVariants as ran
use Rattle.wasm_run_machine.specs.Runs.{CameTo, RanAs}

-- ---- whether the host is back

is_enclosed : (es : List EnclosingPlain) → length es ≢ 0 → IsEnclosed es
is_enclosed [] h = absurd (h refl)
is_enclosed (e ∷ es) h = tt

count_is : (es : List Enclosing) → length (all_enclosing es) ≡ length es
count_is es = length-reverse (map enclosing_of es) ∙ length-map es enclosing_of

pub enclosed : (es : List Enclosing) → length es ≢ 0 → IsEnclosed (all_enclosing es)
enclosed es h = is_enclosed (all_enclosing es) (λ e. h (sym (count_is es) ∙ e))

nothing : (es : List EnclosingPlain) → length es ≡ 0 → es ≡ []
nothing [] h = refl
nothing (e ∷ es) h = absurd (omega (arith, h))

pub not_enclosed : (es : List Enclosing) → length es ≡ 0 → all_enclosing es ≡ []
not_enclosed es h = nothing (all_enclosing es) (count_is es ∙ h)

-- ---- one step

module _ (bodies : ℕ → List Instruction) (m : WasmModule) where
  pub has_instructions : (v : MachinePlain) (n : ℕ) (r : Outcome) → bodies v.function ≡ [] → Runs bodies m v n r → ⊥
  has_instructions v n r none s =
      let inside : v.at < length (bodies v.function) = stands_inside (bodies v.function) v.at (targets_of v.enclosing) (stands_there bodies m v n r s) in
      omega (arith, ap length none)

  pub has_one : (v : MachinePlain) (n : ℕ) (r : Outcome) (body : List Instruction) → bodies v.function ≡ body → Runs bodies m v n r → v.at < length body
  has_one v n r body same s =
      subst (λ b. v.at < length b) same (stands_inside (bodies v.function) v.at (targets_of v.enclosing) (stands_there bodies m v n r s))

  pub is_spent : (v : MachinePlain) (n : ℕ) (r : Outcome) (body : List Instruction) (i : Instruction) → n ≡ 0 → bodies v.function ≡ body → slice_get body v.at ≡ Some i → is_free i ≡ false
      → Runs bodies m v n r → run_of r ≡ spent v.store
  is_spent v n r body i none same got free s =
      ap run_of (spends bodies m v r i (subst (λ b. slice_get b v.at ≡ Some i) (sym same) got) free (subst (λ n. Runs bodies m v n r) none s))

  pub pays : (v : MachinePlain) (n : ℕ) (r : Outcome) → n ≢ 0 → Runs bodies m v n r → Runs bodies m v (suc (n - 1)) r
  pays v zero r h s = absurd (h refl)
  pays v (suc n) r h s = let e : suc n ≡ suc (suc n - 1) = omega arith in subst (λ n. Runs bodies m v n r) e s

  -- ---- a call of the host

  pub host_calls : (v : MachinePlain) (n f : ℕ) → v.enclosing ≡ [] → Calls bodies m v (callee_at m f) n (in_call m [] (callee_at m f) ε (state_of v n))
  host_calls v n f h = subst (λ es. Calls bodies m (record v { enclosing = es }) (callee_at m f) n (in_call m [] (callee_at m f) ε (state_of v n))) (sym h)
      (record { around = []; is_place = tt; round = refl; holds = refl })

module _ (m : WasmModule) where
  pub host_runs : (n f : ℕ) (values : List Word) (s : Store) → run_call m (suc n) f (reverse values) s ≡ run_of (in_call m [] (callee_at m f) ε (at values [] s n))
  host_runs n f values s =
      run_is_driven m (suc n) (Code (reverse (reverse values)) (call f ▹ ε)) [] s
      ∙ ap run_of (call_step m [] f ε (at (reverse (reverse values)) [] s (suc n)))
      ∙ ap (λ vs. run_of (in_call m [] (callee_at m f) ε (at vs [] s n))) (reverse-reverse values)

  pub host_spends : (n f : ℕ) (values : List Word) (s : Store) → n ≡ 0 → run_call m n f (reverse values) s ≡ spent s
  host_spends n f values s h =
      ap (λ n. run_call m n f (reverse values) s) h
      ∙ run_is_driven m 0 (Code (reverse (reverse values)) (call f ▹ ε)) [] s
      ∙ ap run_of (call_step m [] f ε (at (reverse (reverse values)) [] s 0))

  -- what the call of a machine's operands comes to
  pub as_run : (v : MachinePlain) (n f : ℕ) (o : Outcome) → n ≢ 0 → v.locals ≡ [] → in_call m [] (callee_at m f) ε (state_of v (n - 1)) ≡ o
      → run_call m n f (reverse v.values) v.store ≡ run_of o
  as_run v zero f o h none is = absurd (h refl)
  as_run v (suc n) f o h none is =
      let e : n ≡ suc n - 1 = omega arith in
      host_runs n f v.values v.store
      ∙ ap (λ ls. run_of (in_call m [] (callee_at m f) ε (at v.values ls v.store n))) (sym none)
      ∙ ap (λ k. run_of (in_call m [] (callee_at m f) ε (state_of v k))) e ∙ ap run_of is

  -- the run of a host's call, by what its machine came to
  pub came_as : (r : Ran) (v : MachinePlain) (o : Outcome) (whole : session.Run) → whole ≡ run_of o → CameTo r v o → RanAs r v whole
  came_as (ran.Back left) v o whole is came = is ∙ ap run_of came
  came_as (ran.Over e) v o whole is came = is ∙ ap run_of came
  came_as ran.Spent v o whole is came = is ∙ came
