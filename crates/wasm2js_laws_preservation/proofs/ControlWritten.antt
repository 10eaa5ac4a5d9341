-- What waits is written before code that begins with neither a plain instruction nor one that reads an operand's word where it waits, and that code
-- is kept as if nothing had waited.
use Rattle.std.proofs.Common.{◌≡◌, ℕ, List, [], ◌∷◌, ◌++◌, None, refl, sym, ap, ◌∙◌, subst, arith}
use Rattle.std.proofs.Math.Path.{fun_ext}
use Rattle.session_lang.specs.Observation.{EventPlain}
use Rattle.wasm_lang.specs.declared.types.ValType.{ValType}
use Rattle.wasm_lang_exec.specs.Code.{Trees}
use Rattle.wasm_laws_drive.specs.Drive.{onward}
use Rattle.wasm_laws_drive.specs.Contexts.{Surrounding, closed}
use Rattle.asm_lang.specs.Modules.{Stmt}
use Rattle.asm_lang_exec.specs.Runs.{Place, Part}
use Rattle.asm_lang_exec.specs.Meaning.{Completion, normal}
use Rattle.asm_laws_continuation.specs.Following.{unless_left_to, exec_all_to}
use Rattle.wasm2js_translation.specs.Words.{simple_statements, stmts_in}
use Rattle.wasm2js_translation.specs.Delays.{Delayed, written}
use Rattle.wasm2js_translation.specs.Known.{Known, into_block}
use Rattle.wasm2js_translation.specs.Bodies.{Aim, stmts_of}
use Rattle.wasm2js_laws_places.specs.Following.{Rest}
use Rattle.wasm2js_laws_places.specs.Straight.{Words, with_word, value, gives, Helping, goes, run_simples}
use Rattle.wasm2js_laws_places.specs.Places.{word_at, AreApart, IsHeap, operands, Stays}
use Rattle.wasm2js_laws_places.specs.Helped.{IsOn}
use Rattle.wasm2js_laws_places.specs.Delaying.{seen, AreWaiting}
use Rattle.wasm2js_laws_places.specs.Knowing.{AreKnown}
use Rattle.wasm2js_laws_typed.specs.Waiting.{AreSoundWaiting}
use Rattle.wasm2js_laws_actions.proofs.Doing.{apart_kept, still_on, on_further}
use Rattle.wasm2js_laws_preservation.specs.ControlControl.{Function, IsFair, Inside, MayWait, seen_at, state_at, code_sight, late_sight, IsFollowed, statements_to, IsKept, IsKeptLate}
use Rattle.wasm2js_laws_places.proofs.Delayed.{written_is_seen}
use Rattle.wasm2js_laws_places.proofs.KnownSteps.{known_inside}
use Rattle.wasm2js_laws_preservation.proofs.ControlSeen.{state_seen}
use Rattle.wasm2js_laws_preservation.proofs.ControlStepping.{appended, no_step}
use Rattle.wasm2js_laws_preservation.proofs.InstructionsEnding.{counts_alike}
use Rattle.wasm2js_laws_preservation.proofs.InstructionsComputing.{inside_on, state_on}
use Rattle.wasm2js_laws_preservation.proofs.ControlTerms.{put_then}

-- nothing waits
nothing_waits : (f : Function) → MayWait f []
nothing_waits f = record { waiting = tt; sound = tt }

-- and this is known
pub kept_knowing : (f : Function) (most : ℕ) (code : Trees) (ls : List Aim) (b : ℕ) (ts : List ValType) (around : List Surrounding) (before : Words) (next : Completion → Part (Unit {0}))
    → IsKeptLate f most code ls b ts around before next → (ks : List Known) (p : Place) (w : List EventPlain) → Inside f most w p → AreKnown ks (word_at p) → Stays b before (word_at p)
    → IsFollowed f p (code_sight f around code b ts p w) (statements_to f code ls b ts [] ks next p)
kept_knowing f most code ls b ts around before next kept ks p w i known stays = kept [] ks (nothing_waits f) p w i known stays

-- and nothing is known
pub kept_bare : (f : Function) (most : ℕ) (code : Trees) (ls : List Aim) (b : ℕ) (ts : List ValType) (around : List Surrounding) (before : Words) (next : Completion → Part (Unit {0}))
    → IsKeptLate f most code ls b ts around before next → IsKept f most code ls b ts around before next
kept_bare f most code ls b ts around before next kept p w i stays = kept_knowing f most code ls b ts around before next kept [] p w i tt stays

-- whatever is known, of which no more holds than what goes into a block
abbrev pub IsKeptOpening : (f : Function) (most : ℕ) → Trees → List Aim → (b : ℕ) → List ValType → List Surrounding → (before : Words) → (Completion → Part (Unit {0})) → Type 0
IsKeptOpening f most code ls b ts around before next =
    (ks : List Known) (p : Place) (w : List EventPlain) → Inside f most w p → AreKnown (into_block ks) (word_at p) → Stays b before (word_at p)
    → IsFollowed f p (code_sight f around code b ts p w) (statements_to f code ls b ts [] ks next p)

-- ---- words that are written one after the other

abbrev all_put : List Delayed → Words → (heap : List ℕ) → Words
all_put [] words heap = words
all_put (d ∷ ds) words heap = all_put ds (with_word d.name (value d.word words heap) words) heap

abbrev no_helping : Helping
no_helping = record { answer = λ f xs heap. gives 0 None heap; cost = λ f xs. 0 }

all_run : (ds : List Delayed) (words : Words) (heap : List ℕ) → run_simples no_helping (written ds) words heap ≡ goes (all_put ds words heap) heap
all_run [] words heap = refl
all_run (d ∷ ds) words heap = all_run ds (with_word d.name (value d.word words heap) words) heap

put_is_seen : (ds : List Delayed) (words : Words) (heap : List ℕ) → AreWaiting ds → all_put ds words heap ≡ seen ds words heap
put_is_seen ds words heap waiting =
    let e : goes (all_put ds words heap) heap ≡ goes (seen ds words heap) heap = sym (all_run ds words heap) ∙ (written_is_seen no_helping ds words heap waiting).0 in
    cc e

-- ---- their statements at p, seen from another place

module _ (f : Function) (r : Rest) (here : Place) where
  written_then : (ds : List Delayed) (p : Place) (next : Completion → Part (Unit {0})) → AreSoundWaiting f.scope ds → AreApart p → IsHeap f.setting.bytes p.heap
      → ((q : Place) → IsOn f.setting.bytes (all_put ds (word_at p) p.heap) p.heap 0 p q → IsFollowed f here r (next normal q))
      → IsFollowed f here r (exec_all_to f.calls f.scope f.bound (stmts_in (simple_statements (written ds))) next p)
  written_then [] p next sound apart heap k = k p (still_on f.setting.bytes p heap)
  written_then (d ∷ ds) p next sound apart heap k =
      put_then f r here d.name d.word p (λ c. unless_left_to c (exec_all_to f.calls f.scope f.bound (stmts_in (simple_statements (written ds)))) next) sound.1 apart heap
      (λ q on. written_then ds q next sound.2 (apart_kept p q on.locals on.globals apart) (subst (IsHeap f.setting.bytes) (sym on.has_heap) on.is_heap) (λ q' on'. k q' (further q q' on on')))
    where
      further : (q q' : Place) → IsOn f.setting.bytes (with_word d.name (value d.word (word_at p) p.heap) (word_at p)) p.heap 0 p q
          → IsOn f.setting.bytes (all_put ds (word_at q) q.heap) q.heap 0 q q' → IsOn f.setting.bytes (all_put (d ∷ ds) (word_at p) p.heap) p.heap 0 p q'
      further q q' on on' =
          on_further f.setting.bytes (with_word d.name (value d.word (word_at p) p.heap) (word_at p)) (all_put (d ∷ ds) (word_at p) p.heap) p.heap p.heap 0 0 p q q' on
          (subst (λ (words : Words). IsOn f.setting.bytes (all_put ds words p.heap) p.heap 0 q q') (fun_ext on.has_words)
          (subst (λ heap. IsOn f.setting.bytes (all_put ds (word_at q) heap) heap 0 q q') on.has_heap on'))

  pub seen_then : (ds : List Delayed) (p : Place) (next : Completion → Part (Unit {0})) → MayWait f ds → AreApart p → IsHeap f.setting.bytes p.heap
      → ((q : Place) → IsOn f.setting.bytes (seen_at ds p) p.heap 0 p q → IsFollowed f here r (next normal q))
      → IsFollowed f here r (exec_all_to f.calls f.scope f.bound (stmts_in (simple_statements (written ds))) next p)
  seen_then ds p next may apart heap k =
      written_then ds p next may.sound apart heap (λ q on. k q (subst (λ (words : Words). IsOn f.setting.bytes words p.heap 0 p q) (put_is_seen ds (word_at p) p.heap may.waiting) on))

-- ---- code after them

module _ (f : Function) (fair : IsFair f) (most : ℕ) (code : Trees) (ls : List Aim) (b : ℕ) (ts : List ValType) (around : List Surrounding) (before : Words) (next : Completion → Part (Unit {0}))
    (kept : IsKeptOpening f most code ls b ts around before next) where
  abbrev bare : List Known → List Stmt
  bare ks = stmts_of f.setting.bytes f.cells f.context code ls b ts [] ks

  abbrev then_code : List Known → Completion → Part (Unit {0})
  then_code ks c = unless_left_to c (exec_all_to f.calls f.scope f.bound (stmts_in (bare ks))) next

  module _ (ds : List Delayed) (ks : List Known) (may : MayWait f ds) (p : Place) (w : List EventPlain) (i : Inside f most w p) (known : AreKnown ks (word_at p)) (stays : Stays b before (seen_at ds p)) where
    abbrev start : Rest
    start = late_sight f around code b ts ds p w

    -- at a place where all is written
    module _ (q : Place) (on : IsOn f.setting.bytes (seen_at ds p) p.heap 0 p q) where
      same : word_at q ≡ seen_at ds p
      same = fun_ext on.has_words

      same_sight : (n : ℕ) → start n ≡ late_sight f around code b ts [] q w n
      same_sight n =
          ap (λ t. f.watch (closed f.home around (onward f.home code t)))
          (sym (state_seen f ds (word_at p) p.heap p.replies w may.waiting (operands b ts (seen_at ds p)) n) ∙ state_on f (seen_at ds p) p.heap 0 p q (operands b ts (seen_at ds p)) w n on)
          ∙ ap (λ (words : Words). f.watch (closed f.home around (onward f.home code (state_at f (operands b ts words) q w n)))) (sym same)

      known_there : AreKnown (into_block ks) (word_at q)
      known_there = subst (λ (words : Words). AreKnown (into_block ks) words) (sym same) (known_inside ks ds (word_at p) p.heap may.waiting known)

      from_there : IsFollowed f p start (then_code ks normal q)
      from_there =
          let left = on.left in
          counts_alike f p q start (then_code ks normal q) (omega (arith, left)) on.events
          (no_step f fair q start (late_sight f around code b ts [] q w) (then_code ks normal q) same_sight
          (kept ks q w (inside_on f most w (seen_at ds p) p.heap 0 p q on refl i) known_there (subst (λ (words : Words). Stays b before words) (sym same) stays)))

    after_written : stmts_of f.setting.bytes f.cells f.context code ls b ts ds ks ≡ simple_statements (written ds) ++ bare ks → IsFollowed f p start (statements_to f code ls b ts ds ks next p)
    after_written is =
        subst (λ run. IsFollowed f p start run)
        (sym (ap (λ ss. exec_all_to f.calls f.scope f.bound (stmts_in ss) next p) is
        ∙ ap (λ (part : Part (Unit {0})). part p) (appended f.calls f.scope f.bound (simple_statements (written ds)) (bare ks) next)))
        (seen_then f start p ds p (then_code ks) may i.apart i.world.is_heap from_there)

  -- where all is written first, whatever waits and is known
  pub kept_late : ((ds : List Delayed) (ks : List Known) → stmts_of f.setting.bytes f.cells f.context code ls b ts ds ks ≡ simple_statements (written ds) ++ bare ks) → IsKeptLate f most code ls b ts around before next
  kept_late is ds ks may p w i known stays = after_written ds ks may p w i known stays (is ds ks)
