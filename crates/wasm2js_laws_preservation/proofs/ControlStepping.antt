-- Reductions in the function: what one pays for, and how statements go one after the other.
use Rattle.std.proofs.Common.{◌≡◌, ℕ, suc, ◌+◌, ◌≤◌, List, [], ◌∷◌, ◌++◌, refl, sym, ap, ◌∙◌, arith}
use Rattle.std.proofs.Math.Path.{fun_ext}
use Rattle.sem_words.specs.declared.word.Word.{Word}
use Rattle.session_lang.specs.Observation.{EventPlain}
use Rattle.session_lang.proofs.BelowLaws.{prefix_same}
use Rattle.wasm_laws_drive.specs.Drive.{State, Outcome}
use Rattle.wasm_laws_drive.specs.Equations.{pay}
use Rattle.asm_lang.specs.Modules.{Stmt}
use Rattle.asm_lang_valid.specs.Typing.{Scope}
use Rattle.asm_lang_exec.specs.Runs.{Place, Run, Part}
use Rattle.asm_lang_exec.specs.Meaning.{Completion, normal, broken, continued, returned}
use Rattle.asm_laws_continuation.specs.Following.{CallsBefore, unless_left_to, exec_to, exec_all_to}
use Rattle.wasm2js_translation.specs.Words.{stmts_in}
use Rattle.wasm2js_laws_places.specs.Following.{Rest, Stands}
use Rattle.wasm2js_laws_places.proofs.Paced.{steps_are_paid, same_is_followed}
use Rattle.wasm2js_laws_places.specs.Straight.{Words}
use Rattle.wasm2js_laws_places.specs.Places.{Stays}
use Rattle.wasm2js_laws_preservation.specs.ControlControl.{Function, IsFair, Inside, state_at, IsFollowed}

-- ---- statements one after the other

module _ (calls : CallsBefore (Unit {0})) (c : Scope) (bound : ℕ) where
  pub appended : (xs ys : List Stmt) (next : Completion → Part (Unit {0}))
      → exec_all_to calls c bound (stmts_in (xs ++ ys)) next ≡ exec_all_to calls c bound (stmts_in xs) (λ d. unless_left_to d (exec_all_to calls c bound (stmts_in ys)) next)
  appended [] ys next = refl
  appended (x ∷ xs) ys next = ap (exec_to calls c bound [] x) (fun_ext (each (appended xs ys next)))
    where
      each : exec_all_to calls c bound (stmts_in (xs ++ ys)) next ≡ exec_all_to calls c bound (stmts_in xs) (λ d. unless_left_to d (exec_all_to calls c bound (stmts_in ys)) next)
          → (d : Completion) → unless_left_to d (exec_all_to calls c bound (stmts_in (xs ++ ys))) next
          ≡ unless_left_to d (exec_all_to calls c bound (stmts_in xs)) (λ d. unless_left_to d (exec_all_to calls c bound (stmts_in ys)) next)
      each h normal = h
      each h (broken n) = refl
      each h (continued n) = refl
      each h (returned v) = refl

-- ---- operands that stay

pub stays_itself : (b : ℕ) (words : Words) → Stays b words words
stays_itself b words = record { low = λ d h. refl; high = λ d h. refl }

-- lower ones do, and over two stretches
pub stays_on : (lo b b' : ℕ) (x y z : Words) → lo ≤ b → lo ≤ b' → Stays b x y → Stays b' y z → Stays lo x z
stays_on lo b b' x y z le le' h k = record { low = λ d lt. k.low d (omega (arith, lt, le')) ∙ h.low d (omega (arith, lt, le)); high = λ d lt. k.high d (omega (arith, lt, le')) ∙ h.high d (omega (arith, lt, le)) }

-- ---- reductions

module _ (f : Function) (fair : IsFair f) where
  pub stands : (most : ℕ) (w : List EventPlain) (p : Place) (values : List Word) (go : State → Outcome) (r : Rest) → Inside f most w p
      → ((n : ℕ) → r n ≡ f.watch (pay (state_at f values p w n) go)) → Stands f.by p r
  stands most w p values go r i e = record { events = w; is_running = e 0 ∙ fair.spent (state_at f values p w 0).store; match = fair.match w p.events i.world.match }

  -- one that pays for a unit or none
  pub step : (most : ℕ) (w : List EventPlain) (p q : Place) (values : List Word) (go : State → Outcome) (r s : Rest) (run : Run (Unit {0})) → Inside f most w p
      → ((n : ℕ) → r n ≡ f.watch (pay (state_at f values p w n) go)) → (u : ℕ) → u ≤ f.pace → p.units ≡ q.units + u → q.events ≡ p.events
      → ((n : ℕ) → f.watch (go (state_at f values p w n)) ≡ s n) → IsFollowed f q s run → IsFollowed f p r run
  step most w p q values go r s run i e u le units same on h =
      steps_are_paid f.by fair.keeps f.pace f.unpaid u p q r s run le units (prefix_same p.events q.events (sym same)) (stands most w p values go r i e) (λ k. e (suc k) ∙ on k) h

  pub free_step : (most : ℕ) (w : List EventPlain) (p : Place) (values : List Word) (go : State → Outcome) (r s : Rest) (run : Run (Unit {0})) → Inside f most w p
      → ((n : ℕ) → r n ≡ f.watch (pay (state_at f values p w n) go)) → ((n : ℕ) → f.watch (go (state_at f values p w n)) ≡ s n) → IsFollowed f p s run → IsFollowed f p r run
  free_step most w p values go r s run i e on h = step most w p p values go r s run i e 0 (omega arith) (omega arith) refl on h

  pub no_step : (p : Place) (r s : Rest) (run : Run (Unit {0})) → ((n : ℕ) → r n ≡ s n) → IsFollowed f p s run → IsFollowed f p r run
  no_step p r s run e h = same_is_followed f.by f.pace f.unpaid p r s run e h
