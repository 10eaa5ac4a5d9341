-- All but one operand's word that waits is written before what reads that word where it stands.
use Rattle.std.proofs.Common.{◌≡◌, ℕ, ◌+◌, false, not, List, [], ◌∷◌, ◌++◌, length, Some, refl, sym, ap, ◌∙◌, subst, arith}
use Rattle.std.proofs.Math.Path.{fun_ext}
use Rattle.sem_words.specs.declared.word.Word.{Word}
use Rattle.sem_words.specs.declared.word.Word.TheVariants.{W32}
use Rattle.sem_words.specs.declared.js_value.JsValue.{JsValue}
use Rattle.sem_words.specs.JsValues.{to_uint32_of}
use Rattle.session_lang.specs.Observation.{EventPlain}
use Rattle.wasm_lang.specs.declared.types.ValType.{ValType}
use Rattle.wasm_lang.specs.declared.types.ValType.TheVariants.{I32}
use Rattle.wasm_laws_drive.specs.Drive.{State, Outcome}
use Rattle.wasm_laws_drive.specs.Contexts.{Surrounding, closed}
use Rattle.asm_lang.specs.Modules.{Stmt, returns}
use Rattle.asm_lang_exec.specs.Runs.{Place, Run, Part}
use Rattle.asm_lang_exec.specs.Meaning.{Completion, normal, returned}
use Rattle.asm_laws_continuation.specs.Following.{unless_left_to, exec_all_to}
use Rattle.wasm2js_translation.specs.Names.{Name, numbered, operand_low, operand_high, same_name}
use Rattle.wasm2js_translation.specs.Words.{Term, expr, signed_number, simple_statements, stmts_in}
use Rattle.wasm2js_translation.specs.Actions.{low}
use Rattle.wasm2js_translation.specs.Delays.{Delayed, without, at_hand, written, stands, standing}
use Rattle.wasm2js_translation.specs.Known.{Known, into_block}
use Rattle.wasm2js_translation.specs.Bodies.{written_but, leave_late}
use Rattle.wasm2js_laws_terms.specs.Sound.{IsInt, IsSound}
use Rattle.wasm2js_laws_typed.proofs.LateSound.{those_sound, at_hand_sound}
use Rattle.wasm2js_laws_places.specs.Straight.{Words, value}
use Rattle.wasm2js_laws_places.specs.Places.{word_at, operands, Stays}
use Rattle.wasm2js_laws_places.specs.Helped.{IsOn}
use Rattle.wasm2js_laws_places.specs.Knowing.{AreKnown}
use Rattle.wasm2js_laws_places.proofs.DelayedBeside.{some_are_seen, still_beside, elsewhere, seen_beside}
use Rattle.wasm2js_laws_places.proofs.Delayed.{standing_is_seen}
use Rattle.wasm2js_laws_places.proofs.KnownSteps.{known_inside}
use Rattle.wasm2js_laws_preservation.specs.ControlControl.{Function, IsFair, Inside, MayWait, seen_at, state_at, sight, IsFollowed}
use Rattle.wasm2js_laws_preservation.proofs.ControlSeen.{state_seen}
use Rattle.wasm2js_laws_preservation.proofs.ControlStepping.{appended, no_step}
use Rattle.wasm2js_laws_preservation.proofs.ControlLabels.{operands_stay}
use Rattle.wasm2js_laws_preservation.proofs.InstructionsEnding.{counts_alike}
use Rattle.wasm2js_laws_preservation.proofs.InstructionsComputing.{inside_on, state_on}
use Rattle.wasm2js_laws_preservation.proofs.BranchesMoved.{not_below}
use Rattle.wasm2js_laws_preservation.proofs.ControlTerms.{given_then}
use Rattle.wasm2js_laws_preservation.proofs.ControlWritten.{seen_then}

-- a place where of the words that wait at p all are written but that of the operand above so many
pub record IsBeside (f : Function) (most : ℕ) (w : List EventPlain) (ds : List Delayed) (depth : ℕ) (p q : Place) : Type 0 where
  pub inside : Inside f most w q
  pub below : Stays depth (seen_at ds p) (word_at q)
  pub known : (ks : List Known) → AreKnown ks (word_at p) → AreKnown (into_block ks) (word_at q)

-- a place where of the words that wait at p those are written that operands of these types are to have, and all others stand where they are read
pub record IsUnder (f : Function) (most : ℕ) (w : List EventPlain) (ds : List Delayed) (b : ℕ) (us : List ValType) (p q : Place) : Type 0 where
  pub inside : Inside f most w q
  pub below : Stays b (seen_at ds p) (word_at q)
  pub same : operands b us (word_at q) ≡ operands b us (seen_at ds p)
  pub above : (n : Name) → stands b us n ≡ false → value (at_hand ds n) (word_at q) q.heap ≡ seen_at ds p n

-- at p these words wait
module _ (f : Function) (fair : IsFair f) (most : ℕ) (ds : List Delayed) (may : MayWait f ds) (b : ℕ) (p : Place) (w : List EventPlain) (i : Inside f most w p) where
  -- ---- where some are written, by the words that they count as

  module _ (es : List Delayed) (es_may : MayWait f es) (q : Place) (on : IsOn f.setting.bytes (seen_at es p) p.heap 0 p q) where
    state_there : (values : List Word) (n : ℕ) → state_at f values p w n ≡ state_at f values q w n
    state_there values n = sym (state_seen f es (word_at p) p.heap p.replies w es_may.waiting values n) ∙ state_on f (seen_at es p) p.heap 0 p q values w n on

    inside_there : Inside f most w q
    inside_there = inside_on f most w (seen_at es p) p.heap 0 p q on refl i

    -- what follows from there follows from p
    from_there : (around : List Surrounding) (go : State → Outcome) (before after : List Word) (run : Run (Unit {0})) → before ≡ after
        → IsFollowed f q (sight f around go after q w) run → IsFollowed f p (sight f around go before p w) run
    from_there around go before after run same h =
        let left = on.left in
        counts_alike f p q (sight f around go before p w) run (omega (arith, left)) on.events
        (no_step f fair q (sight f around go before p w) (sight f around go after q w) run
        (λ n. ap (λ values. f.watch (closed f.home around (go (state_at f values p w n)))) same ∙ ap (λ t. f.watch (closed f.home around (go t))) (state_there after n)) h)

  -- ---- all are written

  pub all_then : (ts : List ValType) (around : List Surrounding) (go : State → Outcome) (next : Completion → Part (Unit {0}))
      → ((q : Place) → Inside f most w q → IsFollowed f q (sight f around go (operands b ts (word_at q)) q w) (next normal q))
      → IsFollowed f p (sight f around go (operands b ts (seen_at ds p)) p w) (exec_all_to f.calls f.scope f.bound (stmts_in (simple_statements (written ds))) next p)
  all_then ts around go next h =
      seen_then f (sight f around go (operands b ts (seen_at ds p)) p w) p ds p next may i.apart i.world.is_heap
      (λ q on. from_there ds may q on around go (operands b ts (seen_at ds p)) (operands b ts (word_at q)) (next normal q)
      (sym (ap (λ (words : Words). operands b ts words) (fun_ext on.has_words))) (h q (inside_there ds may q on)))

  -- ---- those are written that operands of these types are to have

  module _ (us : List ValType) where
    abbrev beneath : List Delayed
    beneath = standing b us ds

    beneath_wait : MayWait f beneath
    beneath_wait = record { waiting = (standing_is_seen b us ds (word_at p) p.heap may.waiting).0; sound = those_sound f.scope (λ d. stands b us d.name) ds may.sound }

    is_under : (q : Place) → IsOn f.setting.bytes (seen_at beneath p) p.heap 0 p q → IsUnder f most w ds b us p q
    is_under q on =
        let standing_seen = standing_is_seen b us ds (word_at p) p.heap may.waiting in
        let there : word_at q ≡ seen_at beneath p = fun_ext on.has_words in
        record {
          inside = inside_there beneath beneath_wait q on;
          below = subst (λ (words : Words). Stays b (seen_at ds p) words) (sym there) standing_seen.2;
          same = ap (λ (words : Words). operands b us words) there ∙ standing_seen.1;
          above = λ n apart.
              ap (λ (words : Words). value (at_hand ds n) words q.heap) there ∙ ap (λ heap. value (at_hand ds n) (seen_at beneath p) heap) on.has_heap
              ∙ (some_are_seen (stands b us) ds (word_at p) p.heap may.waiting).2 n apart;
        }

    -- before these statements
    pub under_before : (ts : List ValType) (around : List Surrounding) (go : State → Outcome) (ss : List Stmt) (next : Completion → Part (Unit {0}))
        → ((q : Place) → IsUnder f most w ds b us p q → IsFollowed f q (sight f around go (operands b ts (seen_at ds p)) q w) (exec_all_to f.calls f.scope f.bound (stmts_in ss) next q))
        → IsFollowed f p (sight f around go (operands b ts (seen_at ds p)) p w) (exec_all_to f.calls f.scope f.bound (stmts_in (simple_statements (written beneath) ++ ss)) next p)
    under_before ts around go ss next h =
        let after : Completion → Part (Unit {0}) = λ c. unless_left_to c (exec_all_to f.calls f.scope f.bound (stmts_in ss)) next in
        subst (λ (part : Part (Unit {0})). IsFollowed f p (sight f around go (operands b ts (seen_at ds p)) p w) (part p))
        (sym (appended f.calls f.scope f.bound (simple_statements (written beneath)) ss next))
        (seen_then f (sight f around go (operands b ts (seen_at ds p)) p w) p beneath p after beneath_wait i.apart i.world.is_heap
        (λ q on. from_there beneath beneath_wait q on around go (operands b ts (seen_at ds p)) (operands b ts (seen_at ds p)) (after normal q) refl (h q (is_under q on))))

  -- ---- all but the topmost operand's word, under which those of these types stand

  module _ (us : List ValType) where
    abbrev depth : ℕ
    depth = b + length us

    abbrev others : List Delayed
    others = without (low depth) ds

    abbrev word : Term
    word = at_hand ds (low depth)

    others_wait : MayWait f others
    others_wait = record {
      waiting = still_beside (low depth) ds may.waiting;
      sound = those_sound f.scope (λ d. not (same_name d.name (low depth))) ds may.sound;
    }

    pub word_sound : IsInt f.scope (low depth) → IsSound f.scope word
    word_sound is = at_hand_sound f.scope ds (low depth) may.sound is

    module _ (q : Place) (on : IsOn f.setting.bytes (seen_at others p) p.heap 0 p q) where
      same : word_at q ≡ seen_at others p
      same = fun_ext on.has_words

      word_there : value word (word_at q) q.heap ≡ seen_at ds p (low depth)
      word_there =
          ap (λ (words : Words). value word words q.heap) same ∙ ap (λ heap. value word (seen_at others p) heap) on.has_heap
          ∙ seen_beside (low depth) ds (word_at p) p.heap may.waiting

      below_stay : Stays depth (seen_at ds p) (word_at q)
      below_stay =
          let others_same = elsewhere (low depth) ds (word_at p) p.heap may.waiting in
          record {
            low = λ d h. on.has_words (numbered operand_low d) ∙ others_same (numbered operand_low d) (not_below depth d h);
            high = λ d h. on.has_words (numbered operand_high d) ∙ others_same (numbered operand_high d) refl;
          }

      known_there : (ks : List Known) → AreKnown ks (word_at p) → AreKnown (into_block ks) (word_at q)
      known_there ks known = subst (λ (words : Words). AreKnown (into_block ks) words) (sym same) (known_inside ks others (word_at p) p.heap others_wait.waiting known)

      is_beside : IsBeside f most w ds depth p q
      is_beside = record { inside = inside_there others others_wait q on; below = below_stay; known = known_there }

      operands_there : operands b (I32 ∷ us) (seen_at ds p) ≡ W32 (value word (word_at q) q.heap) ∷ operands b us (word_at q)
      operands_there =
          ap (λ x. W32 x ∷ operands b us (seen_at ds p)) (sym word_there)
          ∙ ap (λ values. W32 (value word (word_at q) q.heap) ∷ values) (sym (operands_stay b depth us (seen_at ds p) (word_at q) (omega arith) below_stay))

    pub asked_then : (around : List Surrounding) (go : State → Outcome) (next : Completion → Part (Unit {0}))
        → ((q : Place) → IsBeside f most w ds depth p q → IsFollowed f q (sight f around go (W32 (value word (word_at q) q.heap) ∷ operands b us (word_at q)) q w) (next normal q))
        → IsFollowed f p (sight f around go (operands b (I32 ∷ us) (seen_at ds p)) p w) (exec_all_to f.calls f.scope f.bound (stmts_in (written_but (low depth) ds)) next p)
    asked_then around go next h =
        seen_then f (sight f around go (operands b (I32 ∷ us) (seen_at ds p)) p w) p others p next others_wait i.apart i.world.is_heap
        (λ q on. from_there others others_wait q on around go (operands b (I32 ∷ us) (seen_at ds p)) (W32 (value word (word_at q) q.heap) ∷ operands b us (word_at q)) (next normal q)
        (operands_there q on) (h q (is_beside q on)))

    -- before these statements
    pub asked_before : (around : List Surrounding) (go : State → Outcome) (ss : List Stmt) (next : Completion → Part (Unit {0}))
        → ((q : Place) → IsBeside f most w ds depth p q
        → IsFollowed f q (sight f around go (W32 (value word (word_at q) q.heap) ∷ operands b us (word_at q)) q w) (exec_all_to f.calls f.scope f.bound (stmts_in ss) next q))
        → IsFollowed f p (sight f around go (operands b (I32 ∷ us) (seen_at ds p)) p w) (exec_all_to f.calls f.scope f.bound (stmts_in (written_but (low depth) ds ++ ss)) next p)
    asked_before around go ss next h =
        subst (λ (part : Part (Unit {0})). IsFollowed f p (sight f around go (operands b (I32 ∷ us) (seen_at ds p)) p w) (part p))
        (sym (appended f.calls f.scope f.bound (written_but (low depth) ds) ss next))
        (asked_then around go (λ c. unless_left_to c (exec_all_to f.calls f.scope f.bound (stmts_in ss)) next) h)

    -- it is given to the caller
    pub late_given : IsInt f.scope (low depth) → (around : List Surrounding) (go : State → Outcome) (next : Completion → Part (Unit {0}))
        → ((q : Place) (v : JsValue) → Inside f most w q → IsFollowed f q (sight f around go (W32 (to_uint32_of v) ∷ operands b us (word_at q)) q w) (next (returned v) q))
        → IsFollowed f p (sight f around go (operands b (I32 ∷ us) (seen_at ds p)) p w) (exec_all_to f.calls f.scope f.bound (stmts_in (leave_late (Some I32) depth ds)) next p)
    late_given is around go next h =
        asked_before around go (returns (Some (signed_number (expr word))) ∷ []) next
        (λ q beside. given_then f (sight f around go (W32 (value word (word_at q) q.heap) ∷ operands b us (word_at q)) q w) q word q (λ v. next (returned v)) (word_sound is) beside.inside.apart
        (λ v e. subst (λ x. IsFollowed f q (sight f around go (W32 x ∷ operands b us (word_at q)) q w) (next (returned v) q)) e (h q v beside.inside)))
