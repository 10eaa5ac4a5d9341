-- One piece of code after another, and scratch locals after the others.
use Rattle.std.proofs.Common.{◌≡◌, ℕ, zero, suc, ◌+◌, ◌≤◌, List, [], ◌∷◌, ◌++◌, length, map, Some, refl, ap, ◌∙◌, arith, length-append}
use Rattle.std.specs.Prelude.{slice_get, slice_set}
use Rattle.std.proofs.lemmas.List.{length-map}
use Rattle.sem_words.specs.declared.word.Word.{Word}
use Rattle.sem_words.specs.declared.word.Word.TheVariants.{W32}
use Rattle.sem_words.specs.JsValues.{to_uint32_of}
use Rattle.wasm_lang.specs.Modules.{WasmModule}
use Rattle.wasm_lang_exec.specs.Code.{Trees, ◌⊕◌}
use Rattle.wasm_laws_drive.specs.Drive.{at, onward}
use Rattle.wasm_laws_drive.specs.Equations.{then_on}
use Rattle.wasm_laws_drive.proofs.Sequences.{sequence}
use Rattle.asm_lang.specs.Modules.{Param, Variable, Function}
use Rattle.asm_lang_exec.specs.Runs.{Binding, Place, Run, Part, after}
use Rattle.asm2wasm_translation.specs.Numbers.{local_names, first_scratch}
use Rattle.asm2wasm_laws_run.specs.Sim.{Steps, Ends, Shows, Sim, Keeps}
use Rattle.asm2wasm_laws_run.specs.State.{Fixed, words, names, store_of, run_from}
use Rattle.asm2wasm_laws_run.proofs.Simulated.{sim_same, sim_bind}

-- ---- code, and then more code

pub code_keeps : (w : WasmModule) (code : Trees) → Keeps (λ r. then_on r (onward w code))
code_keeps w code = record { ended = λ e s. refl; spent = λ s. refl }

pub sim_then : (w : WasmModule) (x : Fixed) (worth : ℕ) (ends : Ends) (A C : Type 0) (shows : Shows A) (shows_then : Shows C) (first more : Trees) (z1 z2 : ℕ) (p : Place) (scratch stack : List Word) (o : Run A) (go : A → Part C)
    → Sim worth ends shows z1 p.units (run_from w x stack first scratch p) o
    → ((a : A) (q : Place) (later : Steps) → shows a q later → q.units ≤ p.units → Sim worth ends shows_then z2 q.units (λ k. then_on (later k) (onward w more)) (go a q))
    → Sim worth ends shows_then (z1 + z2) p.units (run_from w x stack (first ⊕ more) scratch p) (after o go)
sim_then w x worth ends A C shows shows_then first more z1 z2 p scratch stack o go s next =
    sim_same worth ends C shows_then (z1 + z2) p.units (run_from w x stack (first ⊕ more) scratch p) (λ m. then_on (run_from w x stack first scratch p m) (onward w more)) (after o go)
    (λ k. sequence w first more (at stack (words p.locals ++ scratch) (store_of x p) k))
    (sim_bind worth ends A C shows shows_then (λ r. then_on r (onward w more)) z1 z2 p.units (run_from w x stack first scratch p) o go (code_keeps w more) s next)

-- ---- scratch locals

pub get_past : {A : Type 0} → (xs ys : List A) (i : ℕ) → slice_get (xs ++ ys) (length xs + i) ≡ slice_get ys i
get_past [] ys i = let e : 0 + i ≡ i = omega arith in ap (slice_get ys) e
get_past (x ∷ xs) ys i = let e : suc (length xs) + i ≡ suc (length xs + i) = omega arith in ap (slice_get (x ∷ (xs ++ ys))) e ∙ get_past xs ys i

pub set_past : {A : Type 0} → (xs ys : List A) (i : ℕ) (v : A) → slice_set (xs ++ ys) (length xs + i) v ≡ xs ++ slice_set ys i v
set_past [] ys i v = let e : 0 + i ≡ i = omega arith in ap (λ n. slice_set ys n v) e
set_past (x ∷ xs) ys i v =
    let e : suc (length xs) + i ≡ suc (length xs + i) = omega arith in
    ap (λ n. slice_set (x ∷ (xs ++ ys)) n v) e ∙ ap (λ l. x ∷ l) (set_past xs ys i v)

pub is_there : {A : Type 0} → (xs : List A) (i : ℕ) → suc i ≤ length xs → (x : A) × (slice_get xs i ≡ Some x)
is_there [] i h = absurd (omega (arith, h))
is_there (x ∷ xs) zero h = (x, refl)
is_there (x ∷ xs) (suc i) h = is_there xs i (omega (arith, h))

-- so many locals stand before the scratch locals
pub locals_length : (f : Function) (bs : List Binding) → names bs ≡ local_names f → length (words bs) ≡ first_scratch f
locals_length f bs e =
    let same : length (names bs) ≡ length (local_names f) = ap length e in
    let a = length-map bs (λ (b : Binding). b.name) in
    let b = length-map bs (λ (b : Binding). W32 (to_uint32_of b.value)) in
    let both = length-append (map (λ (p : Param). p.name) f.params) (map (λ (v : Variable). v.name) f.locals) in
    let c = length-map f.params (λ (p : Param). p.name) in
    let d = length-map f.locals (λ (v : Variable). v.name) in
    omega (arith, same, a, b, both, c, d)
