-- Branches, returns and traps in their code.
use Rattle.std.proofs.Common.{◌≡◌, ℕ, zero, suc, ◌+◌, Bool, true, false, not, List, [], ◌∷◌, ◌++◌, length, Option, Some, None, Ok, pos, refl, sym, ap, ◌∙◌, subst, arith}
use Rattle.std.proofs.lemmas.List.{append_assoc}
use Rattle.std.specs.Prelude.{slice_get, map, option_map, ◌==◌, if◌then◌else◌}
use Rattle.std.proofs.lemmas.Option.{slice_get-map}
use Rattle.std.proofs.lemmas.Bool.Decides.{nat_tests}
use Rattle.sem_words.specs.declared.word.Word.{Word}
use Rattle.sem_words.specs.declared.word.TrapKind.TheVariants as kinds
use Rattle.sem_words.specs.declared.js_value.JsValue.{JsValue}
use Rattle.sem_words.specs.declared.js_value.JsValue.TheVariants.{Whole}
use Rattle.sem_words.specs.declared.word.Word.TheVariants.{W32}
use Rattle.sem_words.specs.JsValues.{to_uint32_of}
use Rattle.session_lang.specs.Observation.{EventPlain, trapped, stopped, trap_name, ended}
use Rattle.session_lang.specs.Simulation.{IsSameAs}
use Rattle.wasm_lang.specs.declared.types.ValType.{ValType}
use Rattle.wasm_lang.specs.declared.types.ValType.TheVariants.{I32, I64}
use Rattle.wasm_lang_valid.specs.declared.rule.Rule.TheVariants.{NoLabel}
use Rattle.wasm_lang_valid.specs.Typing.{listed, Shape, Fixed, Leaves, Acts, fixed as fixed_acts, leaves as leaves_acts, found}
use Rattle.wasm_lang_exec.specs.Code.{unreachable, br, br_if, return, Trees, ◌▹◌}
use Rattle.wasm_lang_exec.specs.Reductions.{choose}
use Rattle.wasm_laws_sound.specs.Trees.{IsTyped}
use Rattle.wasm_laws_drive.specs.Drive.{Branch, Leave, Ended, onward}
use Rattle.wasm_laws_drive.specs.Equations.{take_number}
use Rattle.wasm_laws_drive.specs.Contexts.{Surrounding, closed}
use Rattle.wasm_laws_drive.specs.Steps.{goes_with}
use Rattle.wasm_laws_drive.proofs.Stepping.{unreachable_step, br_step, br_if_step, return_step}
use Rattle.asm_lang.specs.Modules.{Stmt, if_only}
use Rattle.asm_lang_exec.specs.Runs.{Place, Part}
use Rattle.asm_lang_exec.specs.Meaning.{Completion, normal, returned}
use Rattle.asm_laws_continuation.specs.Following.{call_named_to, exec_all_to, unless_left_to}
use Rattle.wasm2js_translation.specs.Words.{Term, test_of, simple_statements, stmts_in, part_of}
use Rattle.wasm2js_translation.specs.Delays.{Delayed, at_hand, written}
use Rattle.wasm2js_translation.specs.Actions.{under, low}
use Rattle.wasm2js_translation.specs.Bodies as bodies
use Rattle.wasm2js_translation.specs.Bodies.{Aim, label_of, leave_with, leave_late, comes_to_end, stmts_of}
use Rattle.wasm2js_translation.specs.Rooms.{here}
use Rattle.wasm2js_laws_terms.specs.Sound.{HasTrap, IsSound}
use Rattle.wasm2js_laws_scopes.specs.Provided.{HasRoom}
use Rattle.wasm2js_laws_places.specs.Following.{Rest}
use Rattle.wasm2js_laws_places.specs.Straight.{Words, value}
use Rattle.wasm2js_laws_places.specs.Places.{word_at, operands, store_of, Stays}
use Rattle.wasm2js_laws_preservation.specs.ControlControl.{Function, IsFair, Inside, MayWait, seen_at, state_at, sight, code_sight, late_sight, IsFollowed, statements_to, MayStand, carried_by, under_aims, AreNested, Gives, Exits, IsKept, IsKeptLate}
use Rattle.wasm2js_laws_preservation.specs.ControlLaws.{IsKeptFirst}
use Rattle.wasm2js_laws_preservation.proofs.ControlStanding.{top_int, after_condition}
use Rattle.wasm2js_laws_preservation.proofs.ControlStepping.{appended, stays_on, free_step}
use Rattle.wasm2js_laws_actions.proofs.Parts.{test_followed}
use Rattle.wasm2js_laws_preservation.proofs.ControlTerms.{tested_then}
use Rattle.wasm2js_laws_preservation.proofs.ControlWritten.{kept_bare}
use Rattle.wasm2js_laws_preservation.proofs.ControlAsked.{all_then, word_sound, asked_before, late_given}
use Rattle.wasm2js_laws_preservation.proofs.InstructionsEnding.{trap_same}
use Rattle.wasm2js_laws_preservation.specs.BranchesLaws.{BranchesAreKept}
use Rattle.wasm2js_laws_preservation.proofs.BranchesJumps.{leave_followed, jump_followed}

-- ---- what types say

record Aimed (o : Option Aim) (g : Option ValType → Shape) (form : Shape) : Type 0 where
  aim : Aim
  there : o ≡ Some aim
  shaped : form ≡ g (carried_by aim)

aimed_in : (o : Option Aim) (g : Option ValType → Shape) (form : Shape) → found NoLabel (option_map carried_by o) g ≡ Ok form → Aimed o g form
aimed_in None g form h = absurd (cc h)
aimed_in (Some aim) g form h = let e : g (carried_by aim) ≡ form = cc h in record { aim = aim; there = refl; shaped = sym e }

aimed : (ls : List Aim) (k : ℕ) (g : Option ValType → Shape) (form : Shape) → found NoLabel (slice_get (map carried_by ls) k) g ≡ Ok form → Aimed (slice_get ls k) g form
aimed ls k g form h = aimed_in (slice_get ls k) g form (subst (λ o. found NoLabel o g ≡ Ok form) (slice_get-map carried_by ls k) h)

leaves_take : (ts takes gives : List ValType) → Acts (Leaves ts) takes gives → (more : List ValType) × (takes ≡ ts ++ more)
leaves_take ts takes gives (leaves_acts below after) = (below, refl)

fixed_take : (xs ys takes gives : List ValType) → Acts (Fixed xs ys) takes gives → (takes ≡ xs) × (gives ≡ ys)
fixed_take xs ys takes gives fixed_acts = (refl, refl)

-- ---- code after a branch, whose end isn't reached

module _ (f : Function) (most : ℕ) (ls : List Aim) (b : ℕ) (after : List ValType) (around : List Surrounding) (before : Words) (next : Completion → Part (Unit {0})) where
  not_here : false ≡ true → ⊥
  not_here h = cc h

  dead_exits : (reached : Bool) → Exits f most ls b after reached around before next
      → (more : (Completion → Part (Unit {0})) → Part (Unit {0})) → Exits f most ls b after false around before (λ d. unless_left_to d more next)
  dead_exits reached ex more = record {
    on = λ h. absurd (not_here h);
    breaks = ex.breaks;
    turns = ex.turns;
    outs = ex.outs;
    leaves = ex.leaves;
    ends = λ e. record { types = (ex.ends e).types; gives = (ex.ends e).gives };
  }

module _ (f : Function) (fair : IsFair f) where
  br_kept : (k : ℕ) → IsKeptFirst f (br k)
  br_kept k most code ls b ts after around before next small typed standing nested ex rest =
      let found = aimed ls k (λ label. Leaves (listed label)) typed.form typed.has_form in
      let acts : Acts (Leaves (listed (carried_by found.aim))) typed.takes typed.gives = subst (λ s. Acts s typed.takes typed.gives) found.shaped typed.acts in
      let takes = leaves_take (listed (carried_by found.aim)) typed.takes typed.gives acts in
      let us : List ValType = takes.0 ++ typed.below in
      let is : ts ≡ listed (carried_by found.aim) ++ us = typed.operands ∙ ap (λ x. x ++ typed.below) takes.1 ∙ append_assoc (listed (carried_by found.aim)) takes.0 typed.below in
      subst (λ ts. IsKept f most (br k ▹ code) ls b ts around before next) (sym is) (λ p w i stays. at_aim found.aim us found.there p w i stays)
    where
      at_aim : (aim : Aim) (us : List ValType) → slice_get ls k ≡ Some aim → IsKept f most (br k ▹ code) ls b (listed (carried_by aim) ++ us) around before next
      at_aim aim us there p w i stays =
          let ts : List ValType = listed (carried_by aim) ++ us in
          subst (λ o. IsFollowed f p (code_sight f around (br k ▹ code) b ts p w) (exec_all_to f.calls f.scope f.bound (stmts_in (bodies.branch o (label_of ls k) (under 1 b ts))) next p)) (sym there)
          (free_step f fair most w p (operands b ts (word_at p)) (λ t. closed f.home around (Branch k t)) (code_sight f around (br k ▹ code) b ts p w)
          (sight f around (Branch k) (operands b ts (word_at p)) p w) (exec_all_to f.calls f.scope f.bound (stmts_in (bodies.branch (Some aim) (label_of ls k) (under 1 b ts))) next p) i
          (λ n. ap f.watch (br_step f.home around k code (state_at f (operands b ts (word_at p)) p w n))) (λ n. refl)
          (jump_followed f fair most around next ls b after (comes_to_end (br k ▹ code)) before nested ex p w i stays aim k us there))

  -- a return of the topmost operand, of this type, while these words wait
  module _ (ds : List Delayed) (may : MayWait f ds) (most b : ℕ) (us : List ValType) (around : List Surrounding) (next : Completion → Part (Unit {0})) (p : Place) (w : List EventPlain) (i : Inside f most w p) where
    abbrev IsLeft : Option ValType → Type 0
    IsLeft t = (q : Place) (w : List EventPlain) (v : JsValue) (values : List Word) → Inside f most w q → Gives t v q values → IsFollowed f q (sight f around Leave values q w) (next (returned v) q)

    abbrev from_here : Option ValType → Rest
    from_here t = sight f around Leave (operands b (listed t ++ us) (seen_at ds p)) p w

    -- all is written before
    written_left : (t : Option ValType) → IsLeft t
        → IsFollowed f p (from_here t) (exec_all_to f.calls f.scope f.bound (stmts_in (simple_statements (written ds) ++ leave_with t (under 1 b (listed t ++ us)))) next p)
    written_left t exit =
        subst (λ (part : Part (Unit {0})). IsFollowed f p (from_here t) (part p))
        (sym (appended f.calls f.scope f.bound (simple_statements (written ds)) (leave_with t (under 1 b (listed t ++ us))) next))
        (all_then f fair most ds may b p w i (listed t ++ us) around Leave (λ c. unless_left_to c (exec_all_to f.calls f.scope f.bound (stmts_in (leave_with t (under 1 b (listed t ++ us))))) next)
        (λ q j. leave_followed f fair most around next t Leave b us q w j exit))

    late_left : (t : Option ValType) → HasRoom f.scope f.context (here b (listed t ++ us) []) → IsLeft t
        → IsFollowed f p (from_here t) (exec_all_to f.calls f.scope f.bound (stmts_in (leave_late t (under 1 b (listed t ++ us)) ds)) next p)
    late_left None room exit = written_left None exit
    late_left (Some I32) room exit =
        late_given f fair most ds may b p w i us (room.operands (b + length us) (omega arith)) around Leave next (λ q v j. exit q w v (W32 (to_uint32_of v) ∷ operands b us (word_at q)) j refl)
    late_left (Some I64) room exit = written_left (Some I64) exit

  return_kept : IsKeptFirst f return
  return_kept most code ls b ts after around before next small typed standing nested ex rest =
      let shaped : Leaves (listed f.context.returns) ≡ typed.form = cc typed.has_form in
      let acts : Acts (Leaves (listed f.context.returns)) typed.takes typed.gives = subst (λ s. Acts s typed.takes typed.gives) (sym shaped) typed.acts in
      let takes = leaves_take (listed f.context.returns) typed.takes typed.gives acts in
      let us : List ValType = takes.0 ++ typed.below in
      let is : ts ≡ listed f.context.returns ++ us = typed.operands ∙ ap (λ x. x ++ typed.below) takes.1 ∙ append_assoc (listed f.context.returns) takes.0 typed.below in
      subst (λ ts. IsKeptLate f most (return ▹ code) ls b ts around before next) (sym is) (at_types us (subst (λ ts. MayStand f (return ▹ code) b ts) is standing))
    where
      at_types : (us : List ValType) → MayStand f (return ▹ code) b (listed f.context.returns ++ us) → IsKeptLate f most (return ▹ code) ls b (listed f.context.returns ++ us) around before next
      at_types us stands ds ks may p w i known stays =
          let ts : List ValType = listed f.context.returns ++ us in
          free_step f fair most w p (operands b ts (seen_at ds p)) (λ t. closed f.home around (Leave t)) (late_sight f around (return ▹ code) b ts ds p w)
          (sight f around Leave (operands b ts (seen_at ds p)) p w) (statements_to f (return ▹ code) ls b ts ds ks next p) i
          (λ n. ap f.watch (return_step f.home around code (state_at f (operands b ts (seen_at ds p)) p w n))) (λ n. refl)
          (late_left ds may most b us around next p w i f.context.returns stands.room ex.leaves)

  unreachable_kept : HasTrap f.scope → IsKeptFirst f unreachable
  unreachable_kept has most code ls b ts after around before next small typed standing nested ex rest p w i stays =
      subst (λ m. IsFollowed f p r (call_named_to f.calls m (Whole (pos 1) ∷ []) (λ v. nothing normal) p)) (sym has)
      (record {
        cost = 1;
        same = subst (λ o. IsSameAs f.by o (ended p.events (stopped trap_name (W32 1 ∷ [])) p.heap)) (sym (starts ∙ fair.ended (trapped kinds.Unreachable) (store_of f.setting p w)))
            (trap_same f fair most w p i kinds.Unreachable 1 _ p refl (record { end = refl; has_heap = refl; events = refl }));
      })
    where
      r : Rest
      r = code_sight f around (unreachable ▹ code) b ts p w

      nothing : Completion → Part (Unit {0})
      nothing d = unless_left_to d (exec_all_to f.calls f.scope f.bound (stmts_in [])) next

      starts : code_sight f around (unreachable ▹ code) b ts p w 1 ≡ f.watch (Ended (trapped kinds.Unreachable) (store_of f.setting p w))
      starts = ap f.watch (unreachable_step f.home around code (state_at f (operands b ts (word_at p)) p w 1))

  -- a branch on a condition, which is this term
  module _ (k most : ℕ) (code : Trees) (ls : List Aim) (b : ℕ) (us below after : List ValType) (aim : Aim) (around : List Surrounding) (before : Words) (next : Completion → Part (Unit {0}))
      (nested : AreNested ls b) (ex : Exits f most ls b after (comes_to_end code) around before next) (there : slice_get ls k ≡ Some aim) (is : us ≡ listed (carried_by aim) ++ below)
      (rest : IsKept f most code ls b us around before next) (t : Term) (sound : IsSound f.scope t) (p : Place) (w : List EventPlain) (i : Inside f most w p) (stays : Stays b before (word_at p)) where
    abbrev then_rest : Completion → Part (Unit {0})
    then_rest d = unless_left_to d (statements_to f code ls b us [] []) next

    abbrev jumps : Part (Unit {0})
    jumps = exec_all_to f.calls f.scope f.bound (stmts_in (bodies.jump ls k b us)) then_rest

    abbrev goes_further : Part (Unit {0})
    goes_further = statements_to f code ls b us [] [] next

    abbrev values : List Word
    values = operands b us (word_at p)

    jump_is : IsFollowed f p (sight f around (Branch k) values p w) (jumps p)
    jump_is =
        subst (λ o. IsFollowed f p (sight f around (Branch k) values p w) (exec_all_to f.calls f.scope f.bound (stmts_in (bodies.branch o (label_of ls k) (under 1 b us))) then_rest p)) (sym there)
        (subst (λ us'. IsFollowed f p (sight f around (Branch k) (operands b us' (word_at p)) p w) (exec_all_to f.calls f.scope f.bound (stmts_in (bodies.branch (Some aim) (label_of ls k) (under 1 b us'))) then_rest p)) (sym is)
        (jump_followed f fair most around then_rest ls b after false before nested (dead_exits f most ls b after around before next (comes_to_end code) ex (statements_to f code ls b us [] [])) p w i stays aim k below there))

    abbrev either_way : ℕ → Rest
    either_way x n = f.watch (choose x (closed f.home around (Branch k (state_at f values p w n))) (goes_with f.home around code (state_at f values p w n)))

    chosen : (x : ℕ) → IsFollowed f p (either_way x) ((if not (x == 0) then jumps else goes_further) p)
    chosen zero = rest p w i stays
    chosen (suc x) = let e : (suc x == 0) ≡ false = grind (arith, nat_tests) in subst (λ c. IsFollowed f p (sight f around (Branch k) values p w) ((if not c then jumps else goes_further) p)) (sym e) jump_is

    abbrev test : ℕ
    test = value t (word_at p) p.heap

    abbrev start : Rest
    start = sight f around (onward f.home (br_if k ▹ code)) (W32 test ∷ values) p w

    by_word : (x : ℕ) → x ≡ test → IsFollowed f p start ((if not (x == 0) then jumps else goes_further) p)
    by_word x e =
        free_step f fair most w p (W32 test ∷ values) (λ t. take_number t.values t (λ c t. choose c (closed f.home around (Branch k t)) (goes_with f.home around code t))) start
        (either_way test) ((if not (x == 0) then jumps else goes_further) p) i
        (λ n. ap f.watch (br_if_step f.home around k code (state_at f (W32 test ∷ values) p w n))) (λ n. refl)
        (subst (λ m. IsFollowed f p (either_way m) ((if not (x == 0) then jumps else goes_further) p)) e (chosen x))

    abbrev tests : List Stmt
    tests = if_only (test_of t) (part_of (bodies.jump ls k b us)) ∷ stmts_of f.setting.bytes f.cells f.context code ls b us [] []

    condition_kept : IsFollowed f p start (exec_all_to f.calls f.scope f.bound (stmts_in tests) next p)
    condition_kept =
        subst (λ (run : Part (Unit {0})). IsFollowed f p start (run p)) (sym (test_followed f.calls f.scope f.bound then_rest [] (test_of t) (bodies.jump ls k b us)))
        (tested_then f start p t p jumps goes_further sound i.apart by_word)

  br_if_kept : (k : ℕ) → IsKeptFirst f (br_if k)
  br_if_kept k most code ls b ts after around before next small typed standing nested ex rest =
      let found = aimed ls k (λ label. Fixed (I32 ∷ listed label) (listed label)) typed.form typed.has_form in
      let label : List ValType = listed (carried_by found.aim) in
      let acts : Acts (Fixed (I32 ∷ label) label) typed.takes typed.gives = subst (λ s. Acts s typed.takes typed.gives) found.shaped typed.acts in
      let parts = fixed_take (I32 ∷ label) label typed.takes typed.gives acts in
      let us : List ValType = label ++ typed.below in
      let is : ts ≡ I32 ∷ us = typed.operands ∙ ap (λ x. x ++ typed.below) parts.0 in
      let further : IsTyped (under_aims f.context ls) code us after = subst (λ x. IsTyped (under_aims f.context ls) code (x ++ typed.below) after) parts.1 typed.goes_on in
      let stands = subst (λ ts. MayStand f (br_if k ▹ code) b ts) is standing in
      let kept = kept_bare f most code ls b us around before next (rest us further (after_condition f b k code (I32 ∷ us) stands) ex) in
      subst (λ ts. IsKeptLate f most (br_if k ▹ code) ls b ts around before next) (sym is)
      (λ ds ks may p w i known stays.
      let word = at_hand ds (low (b + length us)) in
      asked_before f fair most ds may b p w i us around (onward f.home (br_if k ▹ code))
      (if_only (test_of word) (part_of (bodies.jump ls k b us)) ∷ stmts_of f.setting.bytes f.cells f.context code ls b us [] []) next
      (λ q beside. condition_kept k most code ls b us typed.below after found.aim around before next nested ex found.there refl kept word
      (word_sound f fair most ds may b p w i us (top_int f b (br_if k ▹ code) us stands)) q w beside.inside
      (stays_on b b (b + length us) before (seen_at ds p) (word_at q) (omega arith) (omega arith) stays beside.below)))

pub branches_are_kept : BranchesAreKept
branches_are_kept f fair has unreachable h = unreachable_kept f fair has
branches_are_kept f fair has (br k) h = br_kept f fair k
branches_are_kept f fair has (br_if k) h = br_if_kept f fair k
branches_are_kept f fair has return h = return_kept f fair
branches_are_kept f fair has t h = absurd h
