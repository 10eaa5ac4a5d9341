-- All code is kept, by induction on its tree.
use Rattle.std.proofs.Common.{◌≡◌, ℕ, zero, suc, ◌+◌, ◌≤◌, true, false, not, List, [], ◌∷◌, ◌++◌, length, Option, Some, None, refl, sym, ap, ◌∙◌, subst, append_assoc, append-nil, drop, arith}
use Rattle.std.specs.Prelude.{slice_get, if◌then◌else◌, ◌==◌}
use Rattle.std.proofs.lemmas.Bool.Decides.{nat_tests}
use Rattle.sem_words.specs.declared.word.Word.{Word}
use Rattle.sem_words.specs.declared.word.Word.TheVariants.{W32}
use Rattle.session_lang.specs.Observation.{EventPlain}
use Rattle.wasm_lang.specs.declared.types.ValType.{ValType}
use Rattle.wasm_lang.specs.declared.types.ValType.TheVariants.{I32, I64}
use Rattle.wasm_lang_valid.specs.Typing.{listed, type_of}
use Rattle.wasm_lang_exec.specs.Code.{Tree, unreachable, block, loop, if_block, br, br_if, br_table, return, call, call_indirect, plain, Trees, ε, ◌▹◌}
use Rattle.wasm_lang_exec.specs.Reductions.{arity_of, choose}
use Rattle.wasm_laws_sound.specs.Trees.{IsTyped}
use Rattle.wasm_laws_drive.specs.Drive.{State, Outcome, onward}
use Rattle.wasm_laws_drive.specs.Equations.{take_number}
use Rattle.wasm_laws_drive.specs.Contexts.{Surrounding, in_label}
use Rattle.wasm_laws_drive.specs.Steps.{in_block}
use Rattle.wasm_laws_drive.proofs.Stepping.{block_step, if_step}
use Rattle.asm_lang.specs.Modules.{Stmt}
use Rattle.asm_lang_exec.specs.Runs.{Place, Part}
use Rattle.asm_lang_exec.specs.Meaning.{Completion, normal}
use Rattle.asm_laws_continuation.specs.Following.{exec_all_to}
use Rattle.wasm2js_translation.specs.Words.{Term, test_of, simple_statements, stmts_in}
use Rattle.wasm2js_translation.specs.Actions.{low}
use Rattle.wasm2js_translation.specs.Delays.{Delayed, at_hand, written}
use Rattle.wasm2js_translation.specs.Known.{Known, into_block}
use Rattle.wasm2js_translation.specs.Bodies as bodies
use Rattle.wasm2js_translation.specs.Bodies.{Aim, past, again, out, labels_round, label_name, ended, comes_to_end, types_after_call, indirect_stmts, stmts_of}
use Rattle.wasm2js_laws_terms.specs.Sound.{IsSound}
use Rattle.wasm2js_laws_places.specs.Following.{Rest}
use Rattle.wasm2js_laws_actions.proofs.Parts.{chosen_followed}
use Rattle.wasm2js_laws_places.specs.Straight.{Words, value}
use Rattle.wasm2js_laws_places.specs.Places.{word_at, operands, Stays}
use Rattle.wasm2js_laws_places.specs.Knowing.{AreKnown}
use Rattle.wasm2js_laws_preservation.specs.ControlControl.{Function, IsFair, Inside, seen_at, state_at, sight, code_sight, IsFollowed, statements_to, MayStand, under_aims, AreNested, Exits, IsKept, IsKeptLate}
use Rattle.wasm2js_laws_preservation.specs.ControlLaws.{OpensNone, IsKeptBefore, IsKeptFirst, CodeIsKept}
use Rattle.wasm2js_laws_preservation.proofs.ControlStanding.{top_int, block_body, after_block, loop_body, after_loop, first_arm, second_arm, after_arms}
use Rattle.wasm2js_laws_preservation.proofs.ControlStepping.{stays_itself, stays_on, free_step}
use Rattle.wasm2js_laws_preservation.proofs.ControlLabels.{nested_past, nested_again}
use Rattle.wasm2js_laws_preservation.proofs.ControlWritten.{kept_knowing, kept_bare, IsKeptOpening, kept_late}
use Rattle.wasm2js_laws_preservation.proofs.ControlTerms.{tested_then}
use Rattle.wasm2js_laws_preservation.proofs.ControlAsked.{word_sound, asked_before, late_given}
use Rattle.wasm2js_laws_preservation.proofs.ControlBlocks.{next_inside, block_exits}
use Rattle.wasm2js_laws_preservation.proofs.ControlLoops.{turns_are_kept}

not_zero : (n : ℕ) → (suc n == 0) ≡ false
not_zero n = grind (arith, nat_tests)

module _ (f : Function) (fair : IsFair f) where
  -- while nothing waits and nothing is known
  abbrev KeptBare : Trees → Type 0
  KeptBare code =
      (most : ℕ) (ls : List Aim) (b : ℕ) (ts after : List ValType) (around : List Surrounding) (before : Words) (next : Completion → Part (Unit {0})) → most ≤ f.bound
      → IsTyped (under_aims f.context ls) code ts after → MayStand f code b ts → AreNested ls b → Exits f most ls b after (comes_to_end code) around before next → IsKept f most code ls b ts around before next

  -- while nothing waits, and that is known which goes into a block
  abbrev KeptOpening : Trees → Type 0
  KeptOpening code =
      (most : ℕ) (ls : List Aim) (b : ℕ) (ts after : List ValType) (around : List Surrounding) (before : Words) (next : Completion → Part (Unit {0})) → most ≤ f.bound
      → IsTyped (under_aims f.context ls) code ts after → MayStand f code b ts → AreNested ls b → Exits f most ls b after (comes_to_end code) around before next → IsKeptOpening f most code ls b ts around before next

  -- whatever waits and is known
  abbrev pub Kept : Trees → Type 0
  Kept code =
      (most : ℕ) (ls : List Aim) (b : ℕ) (ts after : List ValType) (around : List Surrounding) (before : Words) (next : Completion → Part (Unit {0})) → most ≤ f.bound
      → IsTyped (under_aims f.context ls) code ts after → MayStand f code b ts → AreNested ls b → Exits f most ls b after (comes_to_end code) around before next → IsKeptLate f most code ls b ts around before next

  -- all that waits is written before the code
  abbrev WritesOnly : Trees → Type 0
  WritesOnly code =
      (ls : List Aim) (b : ℕ) (ts : List ValType) (ds : List Delayed) (ks : List Known)
      → stmts_of f.setting.bytes f.cells f.context code ls b ts ds ks ≡ simple_statements (written ds) ++ stmts_of f.setting.bytes f.cells f.context code ls b ts [] ks

  -- and nothing is known there
  abbrev pub WritesFirst : Trees → Type 0
  WritesFirst code =
      (ls : List Aim) (b : ℕ) (ts : List ValType) (ds : List Delayed) (ks : List Known)
      → stmts_of f.setting.bytes f.cells f.context code ls b ts ds ks ≡ simple_statements (written ds) ++ stmts_of f.setting.bytes f.cells f.context code ls b ts [] []

  opens_written : (code : Trees) → WritesOnly code → KeptOpening code → Kept code
  opens_written code is bare most ls b ts after around before next le typed stands nested ex =
      kept_late f fair most code ls b ts around before next (bare most ls b ts after around before next le typed stands nested ex) (is ls b ts)

  after_written : (code : Trees) → WritesFirst code → KeptBare code → Kept code
  after_written code is bare = opens_written code only opening
    where
      only : WritesOnly code
      only ls b ts ds ks = is ls b ts ds ks ∙ ap (λ ss. simple_statements (written ds) ++ ss) (sym (is ls b ts [] ks))

      opening : KeptOpening code
      opening most ls b ts after around before next le typed stands nested ex ks p w i known stays =
          subst (λ ss. IsFollowed f p (code_sight f around code b ts p w) (exec_all_to f.calls f.scope f.bound (stmts_in ss) next p)) (sym (is ls b ts [] ks))
          (bare most ls b ts after around before next le typed stands nested ex p w i stays)

  -- ---- the end

  module _ (most b : ℕ) (ts after : List ValType) (around : List Surrounding) (before : Words) (next : Completion → Part (Unit {0})) (typed : ts ≡ after) where
    abbrev Ends : List Aim → Type 0
    Ends ls = MayStand f ε b ts → Exits f most ls b after true around before next → IsKeptLate f most ε ls b ts around before next

    -- all that waits is written
    ends_written : (ls : List Aim) → ((ds : List Delayed) → ended ls b ts ds ≡ simple_statements (written ds)) → Ends ls
    ends_written ls is stands ex =
        kept_late f fair most ε ls b ts around before next opening
        (λ ds ks. is ds ∙ sym (append-nil (simple_statements (written ds))) ∙ ap (λ ss. simple_statements (written ds) ++ ss) (sym (is [])))
      where
        opening : IsKeptOpening f most ε ls b ts around before next
        opening ks p w i known stays =
            subst (λ ss. IsFollowed f p (code_sight f around ε b ts p w) (exec_all_to f.calls f.scope f.bound (stmts_in ss) next p)) (sym (is []))
            (subst (λ us. IsFollowed f p (code_sight f around ε b us p w) (next normal p)) (sym typed) (ex.on refl p w i stays))

    -- the function gives its operand
    ends_giving : Ends (out (Some I32) ∷ [])
    ends_giving stands ex =
        let one : ts ≡ I32 ∷ [] = typed ∙ (ex.ends refl).types in
        let is = top_int f b ε [] (subst (λ ts. MayStand f ε b ts) one stands) in
        subst (λ ts. IsKeptLate f most ε (out (Some I32) ∷ []) b ts around before next) (sym one)
        (λ ds ks may p w i known stays. late_given f fair most ds may b p w i [] is around (onward f.home ε) next (λ q v j. (ex.ends refl).gives q w v j))

    ends_kept : (ls : List Aim) → Ends ls
    ends_kept [] = ends_written [] (λ ds. refl)
    ends_kept (past base r ∷ ls) = ends_written (past base r ∷ ls) (λ ds. refl)
    ends_kept (again base ∷ ls) = ends_written (again base ∷ ls) (λ ds. refl)
    ends_kept (out None ∷ ls) = ends_written (out None ∷ ls) (λ ds. refl)
    ends_kept (out (Some I64) ∷ ls) = ends_written (out (Some I64) ∷ ls) (λ ds. refl)
    ends_kept (out (Some I32) ∷ []) = ends_giving
    ends_kept (out (Some I32) ∷ l ∷ ls) = ends_written (out (Some I32) ∷ l ∷ ls) (λ ds. refl)

  pub none_kept : Kept ε
  none_kept most ls b ts after around before next le typed stands nested ex = ends_kept most b ts after around before next typed ls stands ex

  -- ---- what opens a block

  block_bare : (r : Option ValType) (body code : Trees) → Kept body → Kept code → KeptOpening (block r body ▹ code)
  block_bare r body code inner rest most ls b ts after around before next le typed stands nested ex ks p w i known stays =
      let base : ℕ = b + length ts in
      let kept = kept_bare f most code ls b (listed r ++ ts) around before next (rest most ls b (listed r ++ ts) after around before next le typed.1 (after_block f b r body code ts stands) nested ex) in
      let round : List Surrounding = in_label (operands b ts (word_at p)) (arity_of r) ε code ∷ around in
      let inside = next_inside f fair most ls b base ts r code around before next p refl stays nested kept in
      let run = statements_to f body (past base r ∷ ls) base [] [] (into_block ks) inside p in
      free_step f fair most w p (operands b ts (word_at p)) (in_block f.home around (arity_of r) ε body code) (code_sight f around (block r body ▹ code) b ts p w) (code_sight f round body base [] p w) run i
      (λ n. ap f.watch (block_step f.home around r body code (state_at f (operands b ts (word_at p)) p w n))) (λ n. refl)
      (kept_knowing f most body (past base r ∷ ls) base [] round (word_at p) inside
      (inner most (past base r ∷ ls) base [] (listed r) round (word_at p) inside le typed.0 (block_body f b r body code ts stands) (nested_past ls b base (omega arith) nested r)
      (block_exits f fair most ls b base ts r code around before next p refl stays nested kept after (comes_to_end code) ex (comes_to_end body))) (into_block ks) p w i known (stays_itself base (word_at p)))

  pub block_kept : (r : Option ValType) (body code : Trees) → Kept body → Kept code → Kept (block r body ▹ code)
  block_kept r body code inner rest = opens_written (block r body ▹ code) (λ ls b ts ds ks. refl) (block_bare r body code inner rest)

  loop_bare : (r : Option ValType) (body code : Trees) → Kept body → Kept code → KeptBare (loop r body ▹ code)
  loop_bare r body code inner rest most ls b ts after around before next le typed stands nested ex p w i stays =
      let base : ℕ = b + length ts in
      let kept = kept_bare f most code ls b (listed r ++ ts) around before next (rest most ls b (listed r ++ ts) after around before next le typed.1 (after_loop f b r body code ts stands) nested ex) in
      let few = i.units in
      turns_are_kept f fair most ls b ts after r body code around before next (comes_to_end code) nested ex kept
      (λ k round words further small exits.
      kept_bare f k body (again base ∷ ls) base [] round words further
      (inner k (again base ∷ ls) base [] (listed r) round words further small typed.0 (loop_body f b r body code ts stands) (nested_again ls b base (omega arith) nested) exits))
      f.bound (omega arith) p w i stays (omega (arith, few, le))

  pub loop_kept : (r : Option ValType) (body code : Trees) → Kept body → Kept code → Kept (loop r body ▹ code)
  loop_kept r body code inner rest = after_written (loop r body ▹ code) (λ ls b ts ds ks. refl) (loop_bare r body code inner rest)

  -- two arms by a condition, and what comes after them
  abbrev decided : (r : Option ValType) (x y code : Trees) (ls : List Aim) (b : ℕ) → List ValType → List Known → Term → List Stmt
  decided r x y code ls b us ks t =
      let base = b + length us in
      bodies.under_label (labels_round ls)
      (bodies.chosen (test_of t) (stmts_of f.setting.bytes f.cells f.context x (past base r ∷ ls) base [] [] (into_block ks)) (stmts_of f.setting.bytes f.cells f.context y (past base r ∷ ls) base [] [] []))
      ∷ stmts_of f.setting.bytes f.cells f.context code ls b (listed r ++ us) [] []

  module _ (r : Option ValType) (x y code : Trees) (x_kept : Kept x) (y_kept : Kept y) (rest : Kept code) (most : ℕ) (ls : List Aim) (b : ℕ) (us after : List ValType)
      (around : List Surrounding) (before : Words) (next : Completion → Part (Unit {0})) (le : most ≤ f.bound)
      (x_typed : IsTyped (under_aims f.context (past (b + length us) r ∷ ls)) x [] (listed r)) (y_typed : IsTyped (under_aims f.context (past (b + length us) r ∷ ls)) y [] (listed r))
      (typed : IsTyped (under_aims f.context ls) code (listed r ++ us) after) (stands : MayStand f (if_block r x y ▹ code) b (I32 ∷ us)) (nested : AreNested ls b) (ex : Exits f most ls b after (comes_to_end code) around before next)
      (ks : List Known) (t : Term) (sound : IsSound f.scope t) (p : Place) (w : List EventPlain) (i : Inside f most w p) (known : AreKnown (into_block ks) (word_at p)) (stays : Stays b before (word_at p)) where
    abbrev base : ℕ
    base = b + length us

    kept : IsKept f most code ls b (listed r ++ us) around before next
    kept = kept_bare f most code ls b (listed r ++ us) around before next (rest most ls b (listed r ++ us) after around before next le typed (after_arms f b r x y code us stands) nested ex)

    abbrev round : List Surrounding
    round = in_label (operands b us (word_at p)) (arity_of r) ε code ∷ around

    abbrev inside : Completion → Part (Unit {0})
    inside = next_inside f fair most ls b base us r code around before next p refl stays nested kept

    -- an arm in which this is known
    abbrev arm_run : (z : Trees) → List Known → Part (Unit {0})
    arm_run z js = statements_to f z (past base r ∷ ls) base [] [] js inside

    -- one of the two arms
    arm : (z : Trees) (js : List Known) → AreKnown js (word_at p) → Kept z → IsTyped (under_aims f.context (past base r ∷ ls)) z [] (listed r) → MayStand f z base []
        → IsFollowed f p (code_sight f round z base [] p w) (arm_run z js p)
    arm z js held z_kept z_typed z_stands =
        kept_knowing f most z (past base r ∷ ls) base [] round (word_at p) inside
        (z_kept most (past base r ∷ ls) base [] (listed r) round (word_at p) inside le z_typed z_stands (nested_past ls b base (omega arith) nested r)
        (block_exits f fair most ls b base us r code around before next p refl stays nested kept after (comes_to_end code) ex (comes_to_end z))) js p w i held (stays_itself base (word_at p))

    abbrev arms : ℕ → Part (Unit {0})
    arms n = if not (n == 0) then arm_run x (into_block ks) else arm_run y []

    chosen : (n : ℕ) → IsFollowed f p (code_sight f round (choose n x y) base [] p w) (arms n p)
    chosen zero = arm y [] tt y_kept y_typed (second_arm f b r x y code us stands)
    chosen (suc n) =
        subst (λ c. IsFollowed f p (code_sight f round x base [] p w) ((if not c then arm_run x (into_block ks) else arm_run y []) p))
        (sym (not_zero n)) (arm x (into_block ks) known x_kept x_typed (first_arm f b r x y code us stands))

    -- the condition
    abbrev test : ℕ
    test = value t (word_at p) p.heap

    abbrev values : List Word
    values = W32 test ∷ operands b us (word_at p)

    abbrev start : Rest
    start = sight f around (onward f.home (if_block r x y ▹ code)) values p w

    abbrev enters : State → Outcome
    enters s = take_number s.values s (λ c. in_block f.home around (arity_of r) ε (choose c x y) code)

    both_arms : (n : ℕ) → n ≡ test → IsFollowed f p start (arms n p)
    both_arms n e =
        free_step f fair most w p values enters start (code_sight f round (choose test x y) base [] p w) (arms n p) i
        (λ j. ap f.watch (if_step f.home around r x y code (state_at f values p w j))) (λ j. refl)
        (subst (λ m. IsFollowed f p (code_sight f round (choose m x y) base [] p w) (arms n p)) e (chosen n))

    arms_kept : IsFollowed f p start (exec_all_to f.calls f.scope f.bound (stmts_in (decided r x y code ls b us ks t)) next p)
    arms_kept =
        subst (λ (run : Part (Unit {0})). IsFollowed f p start (run p))
        (sym (chosen_followed f.calls f.scope f.bound inside (label_name (labels_round ls) ∷ []) (test_of t)
        (stmts_of f.setting.bytes f.cells f.context x (past base r ∷ ls) base [] [] (into_block ks)) (stmts_of f.setting.bytes f.cells f.context y (past base r ∷ ls) base [] [] [])))
        (tested_then f start p t p (arm_run x (into_block ks)) (arm_run y []) sound i.apart both_arms)

  pub if_kept : (r : Option ValType) (x y code : Trees) → Kept x → Kept y → Kept code → Kept (if_block r x y ▹ code)
  if_kept r x y code x_kept y_kept rest most ls b ts after around before next le typed stands nested ex =
      let us : List ValType = typed.0 in
      let stands' = subst (λ ts. MayStand f (if_block r x y ▹ code) b ts) typed.1 stands in
      let is = top_int f b (if_block r x y ▹ code) us stands' in
      subst (λ ts. IsKeptLate f most (if_block r x y ▹ code) ls b ts around before next) (sym typed.1)
      (λ ds ks may p w i known stays.
      let word = at_hand ds (low (b + length us)) in
      asked_before f fair most ds may b p w i us around (onward f.home (if_block r x y ▹ code)) (decided r x y code ls b us ks word) next
      (λ q beside. arms_kept r x y code x_kept y_kept rest most ls b us after around before next le typed.2 typed.3 typed.4 stands' nested ex ks word
      (word_sound f fair most ds may b p w i us is) q w beside.inside (beside.known ks known)
      (stays_on b b (b + length us) before (seen_at ds p) (word_at q) (omega arith) (omega arith) stays beside.below)))

  -- an instruction that opens no block: one before which words may wait, and another

  pub late_kept : (t : Tree) (code : Trees) → IsKeptBefore IsKeptLate f t → Kept code → Kept (t ▹ code)
  late_kept t code first rest most ls b ts after around before next le typed stands nested ex =
      first most code ls b ts after around before next le typed stands nested ex (λ us typed' stands' ex'. rest most ls b us after around before next le typed' stands' nested ex')

  other_bare : (t : Tree) (code : Trees) → IsKeptBefore IsKept f t → Kept code → KeptBare (t ▹ code)
  other_bare t code first rest most ls b ts after around before next le typed stands nested ex =
      first most code ls b ts after around before next le typed stands nested ex
      (λ us typed' stands' ex'. kept_bare f most code ls b us around before next (rest most ls b us after around before next le typed' stands' nested ex'))

  pub other_kept : (t : Tree) (code : Trees) → WritesFirst (t ▹ code) → IsKeptBefore IsKept f t → Kept code → Kept (t ▹ code)
  other_kept t code is first rest = after_written (t ▹ code) is (other_bare t code first rest)

  -- a call of an entry, whose statements may be several
  pub entry_kept : (t : ℕ) (code : Trees) → IsKeptFirst f (call_indirect t) → Kept code → Kept (call_indirect t ▹ code)
  entry_kept t code first rest =
      other_kept (call_indirect t) code
      (λ ls b ts ds ks. append_assoc (simple_statements (written ds)) (indirect_stmts f.cells f.context.types b ts (slice_get f.context.types t))
      (stmts_of f.setting.bytes f.cells f.context code ls b (types_after_call (slice_get f.context.types t) (drop 1 ts)) [] [])) first rest

module _ (f : Function) (fair : IsFair f) (first_kept : (t : Tree) → OpensNone t → IsKeptFirst f t) where
  all_kept : (code : Trees) → Kept f fair code
  all_kept ε = none_kept f fair
  all_kept (block r body ▹ code) = block_kept f fair r body code (all_kept body) (all_kept code)
  all_kept (loop r body ▹ code) = loop_kept f fair r body code (all_kept body) (all_kept code)
  all_kept (if_block r x y ▹ code) = if_kept f fair r x y code (all_kept x) (all_kept y) (all_kept code)
  all_kept (unreachable ▹ code) = other_kept f fair unreachable code (λ ls b ts ds ks. refl) (first_kept unreachable tt) (all_kept code)
  all_kept (br k ▹ code) = other_kept f fair (br k) code (λ ls b ts ds ks. refl) (first_kept (br k) tt) (all_kept code)
  all_kept (br_if k ▹ code) = late_kept f fair (br_if k) code (first_kept (br_if k) tt) (all_kept code)
  all_kept (br_table ks d ▹ code) = other_kept f fair (br_table ks d) code (λ ls b ts ds ks. refl) (first_kept (br_table ks d) tt) (all_kept code)
  all_kept (return ▹ code) = late_kept f fair return code (first_kept return tt) (all_kept code)
  all_kept (call g ▹ code) = late_kept f fair (call g) code (first_kept (call g) tt) (all_kept code)
  all_kept (call_indirect t ▹ code) = entry_kept f fair t code (first_kept (call_indirect t) tt) (all_kept code)
  all_kept (plain p ▹ code) = late_kept f fair (plain p) code (first_kept (plain p) tt) (all_kept code)

pub code_is_kept : CodeIsKept
code_is_kept f fair first_kept most code = all_kept f fair first_kept code most
