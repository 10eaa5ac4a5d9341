-- A loop is kept where its body and what comes after it are.
use Rattle.std.proofs.Common.{◌≡◌, ℕ, zero, suc, ◌+◌, ◌≤◌, Bool, true, false, List, [], ◌∷◌, ◌++◌, length, Option, Some, refl, sym, ap, ◌∙◌, subst, arith}
use Rattle.std.proofs.Math.Path.{fun_ext}
use Rattle.std.specs.Prelude.{slice_get, if◌then◌else◌}
use Rattle.sem_words.specs.declared.word.Word.{Word}
use Rattle.sem_words.specs.declared.js_value.JsValue.{JsValue}
use Rattle.session_lang.specs.Observation.{EventPlain}
use Rattle.wasm_lang.specs.declared.types.ValType.{ValType}
use Rattle.wasm_lang_valid.specs.Typing.{listed}
use Rattle.wasm_lang_exec.specs.Code.{loop, Trees, ε, ◌▹◌}
use Rattle.wasm_lang_exec.specs.Reductions.{top_of, arity_of}
use Rattle.wasm_laws_drive.specs.Drive.{State, Outcome, Branch, at, onward}
use Rattle.wasm_laws_drive.specs.Contexts.{Surrounding, in_label, closed}
use Rattle.wasm_laws_drive.specs.Steps.{in_block}
use Rattle.wasm_laws_drive.proofs.Stepping.{loop_step, branch_to_label}
use Rattle.asm_lang_exec.specs.Runs.{Place, Part, spent, paid, after as run_after, value_in}
use Rattle.wasm_laws_drive.specs.Equations.{pay}
use Rattle.sem_words.specs.JsValues.{truthy_of}
use Rattle.asm_lang_exec.specs.Meaning.{Completion, normal, broken, continued, returned, loop_end, label_end}
use Rattle.asm_laws_continuation.specs.Following.{Before, unless_left_to, unless_ended_to, turns_to, eval_to, exec_to, exec_all_to}
use Rattle.wasm2js_translation.specs.Names.{Name, spelled}
use Rattle.wasm2js_translation.specs.Words.{natural, stmts_in}
use Rattle.wasm2js_translation.specs.Helpers.{block_of}
use Rattle.wasm2js_translation.specs.Bodies.{Aim, past, again, out, labels_round, label_name, label_of, comes_to_end, leaves, stmts_of}
use Rattle.wasm2js_laws_places.specs.Following.{Rest}
use Rattle.wasm2js_laws_places.proofs.Paced.{stands_still}
use Rattle.wasm2js_laws_places.specs.Straight.{Words}
use Rattle.wasm2js_laws_places.specs.Places.{is_own, variables, word_bound, word_at, locals_of, store_with, operands, Stays}
use Rattle.wasm2js_laws_preservation.specs.ControlControl.{Function, IsFair, Inside, state_at, sight, code_sight, IsFollowed, statements_to, AreNested, Gives, Exits, IsKept}
use Rattle.wasm2js_laws_preservation.proofs.ControlStepping.{appended, stays_itself, stays_on, stands, step, no_step}
use Rattle.wasm2js_laws_preservation.proofs.ControlLabels.{continue_here, outer_label, continue_passes, operands_stay}
use Rattle.wasm2js_laws_preservation.proofs.ControlBlocks.{ends_inside, breaks_out, turns_out, outs_out, leaves_out}

-- a unit less changes no word
units_apart : (k : ℕ) (p : Place) → word_at (record p { units = k }) ≡ word_at p
units_apart k p = fun_ext each
  where
    by : (m : Name) (b : Bool) → word_bound (value_in (variables b (record p { units = k })) (spelled m)) ≡ word_bound (value_in (variables b p) (spelled m))
    by m true = refl
    by m false = refl

    each : (m : Name) → word_at (record p { units = k }) m ≡ word_at p m
    each m = by m (is_own m)

module _ (f : Function) (fair : IsFair f) where
  state_apart : (k : ℕ) (values : List Word) (p : Place) (w : List EventPlain) (n : ℕ) → state_at f values (record p { units = k }) w n ≡ state_at f values p w n
  state_apart k values p w n = ap (λ (words : Words). at values (locals_of f.context.locals words) (store_with f.setting words p.heap p.replies w) n) (units_apart k p)

  inside_still : (most k : ℕ) (w : List EventPlain) (p : Place) → Inside f most w p → Inside f k w (record p { units = k })
  inside_still most k w p i = record {
    world = record { match = i.world.match; names = i.world.names; is_heap = i.world.is_heap; past = i.world.past; replies = i.world.replies };
    names = i.names;
    apart = i.apart;
    units = omega arith;
  }

  inside_more : (few most : ℕ) (w : List EventPlain) (p : Place) → few ≤ most → Inside f few w p → Inside f most w p
  inside_more few most w p le i = record { world = i.world; names = i.names; apart = i.apart; units = let h = i.units in omega (arith, le, h) }

  module _ (most : ℕ) (ls : List Aim) (b : ℕ) (ts after_types : List ValType) (r : Option ValType) (body code : Trees) (around : List Surrounding) (before : Words)
      (next : Completion → Part (Unit {0})) (reached : Bool) (nested : AreNested ls b) (ex : Exits f most ls b after_types reached around before next)
      (rest : IsKept f most code ls b (listed r ++ ts) around before next) where
    abbrev base : ℕ
    base = b + length ts

    abbrev own : List ℕ
    own = label_name (labels_round ls)

    abbrev inner : List Aim
    inner = again base ∷ ls

    -- what comes after the loop
    abbrev then_rest : Completion → Part (Unit {0})
    then_rest d = unless_left_to d (statements_to f code ls b (listed r ++ ts) [] []) next

    abbrev after_loop : Completion → Part (Unit {0})
    after_loop d = then_rest (label_end (own ∷ []) d)

    abbrev the_test : Before (Unit {0}) JsValue
    the_test = eval_to f.calls f.scope (natural 1)

    abbrev the_body : Before (Unit {0}) Completion
    the_body = exec_to f.calls f.scope f.bound [] (block_of (stmts_of f.setting.bytes f.cells f.context body inner base [] [] [] ++ leaves body))

    abbrev more_turns : ℕ → Part (Unit {0})
    more_turns n = turns_to (own ∷ []) n the_test the_body (λ next. next tt) after_loop

    -- what comes after the body's statements, with so many turns left
    abbrev after_body : ℕ → Completion → Part (Unit {0})
    after_body n d = unless_ended_to (loop_end (own ∷ []) d) (λ next. turns_to (own ∷ []) n the_test the_body (λ next. next tt) next) after_loop

    abbrev after_code : ℕ → Completion → Part (Unit {0})
    after_code n d = unless_left_to d (exec_all_to f.calls f.scope f.bound (stmts_in (leaves body))) (after_body n)

    abbrev TurnsAreKept : ℕ → Type 0
    TurnsAreKept n = (q : Place) (w : List EventPlain) → Inside f most w q → Stays b before (word_at q) → q.units ≤ n
        → IsFollowed f q (code_sight f around (loop r body ▹ code) b ts q w) (more_turns n q)

    -- a turn from p, after which k units are left at most, and n turns
    module _ (n k : ℕ) (p : Place) (stays : Stays b before (word_at p)) (turns_kept : TurnsAreKept n) (fewer : k ≤ n) (less : k ≤ most) where
      abbrev below : List Word
      below = operands b ts (word_at p)

      abbrev round : List Surrounding
      round = in_label below 0 (loop r body ▹ ε) code ∷ around

      still : (q : Place) → Stays base (word_at p) (word_at q) → Stays b before (word_at q)
      still q s = stays_on b b base before (word_at p) (word_at q) (omega arith) (omega arith) stays s

      at_end : comes_to_end body ≡ true → after_code n normal ≡ after_loop normal
      at_end h = rw h refl

      next_turn : (q : Place) (w : List EventPlain) (values : List Word) → Inside f k w q → Stays base (word_at p) (word_at q)
          → IsFollowed f q (sight f round (Branch 0) values q w) (after_code n (continued (Some own)) q)
      next_turn q w values i s =
          let e : after_code n (continued (Some own)) ≡ more_turns n = ap (λ o. unless_ended_to o (λ next. turns_to (own ∷ []) n the_test the_body (λ next. next tt) next) after_loop) (continue_here own) in
          let few = i.units in
          subst (λ (part : Part (Unit {0})). IsFollowed f q (sight f round (Branch 0) values q w) (part q)) (sym e)
          (no_step f fair q (sight f round (Branch 0) values q w) (code_sight f around (loop r body ▹ code) b ts q w) (more_turns n q)
          (λ j.
          ap f.watch (branch_to_label f.home around below 0 (loop r body ▹ ε) code (state_at f values q w j))
          ∙ ap (λ vs. f.watch (closed f.home around (onward f.home (loop r body ▹ code) (state_at f vs q w j)))) (sym (operands_stay b base ts (word_at p) (word_at q) (omega arith) s)))
          (turns_kept q w (inside_more k most w q less i) (still q s) (omega (arith, fewer, few))))

      ends : comes_to_end body ≡ true → (q : Place) (w : List EventPlain) → Inside f k w q → Stays base (word_at p) (word_at q)
          → IsFollowed f q (code_sight f round ε base (listed r) q w) (after_code n normal q)
      ends h q w i s =
          subst (λ (part : Part (Unit {0})). IsFollowed f q (code_sight f round ε base (listed r) q w) (part q)) (sym (at_end h))
          (ends_inside f fair most ls b base ts r code around before next p refl stays nested rest (loop r body ▹ ε) 0 q w (inside_more k most w q less i) s)

      turns : (j to : ℕ) → slice_get inner j ≡ Some (again to) → (q : Place) (w : List EventPlain) (values : List Word) → Inside f k w q → Stays to (word_at p) (word_at q)
          → IsFollowed f q (sight f round (Branch j) values q w) (after_code n (continued (Some (label_of inner j))) q)
      turns zero to found q w values i s =
          let a : base ≡ to = cc found in
          next_turn q w values i (subst (λ x. Stays x (word_at p) (word_at q)) (sym a) s)
      turns (suc j) to found q w values i s =
          let passed = continue_passes own (label_of ls j) (outer_label ls j (nested.again_within j to found)) in
          let e : after_code n (continued (Some (label_of ls j))) ≡ next (continued (Some (label_of ls j))) =
          ap (λ o. unless_ended_to o (λ next. turns_to (own ∷ []) n the_test the_body (λ next. next tt) next) after_loop) passed in
          subst (λ (part : Part (Unit {0})). IsFollowed f q (sight f round (Branch (suc j)) values q w) (part q)) (sym e)
          (turns_out f fair most ls b base ts r code around before next p refl stays nested rest after_types reached ex (loop r body ▹ ε) 0 j to found q w values (inside_more k most w q less i) s)

      breaks : (j to : ℕ) (t : Option ValType) → slice_get inner j ≡ Some (past to t) → (q : Place) (w : List EventPlain) (values : List Word) → Inside f k w q → Stays to (word_at p) (word_at q)
          → top_of (arity_of t) values ≡ Some (operands to (listed t) (word_at q))
          → IsFollowed f q (sight f round (Branch j) values q w) (after_code n (broken (Some (label_of inner j))) q)
      breaks zero to t found q w values i s tops = absurd (cc found)
      breaks (suc j) to t found q w values i s tops =
          breaks_out f fair most ls b base ts r code around before next p refl stays nested rest after_types reached ex (loop r body ▹ ε) 0 j to t found q w values (inside_more k most w q less i) s tops

      outs : (j : ℕ) (t : Option ValType) → slice_get inner j ≡ Some (out t) → (q : Place) (w : List EventPlain) (v : JsValue) (values : List Word) → Inside f k w q → Gives t v q values
          → IsFollowed f q (sight f round (Branch j) values q w) (after_code n (returned v) q)
      outs zero t found q w v values i g = absurd (cc found)
      outs (suc j) t found q w v values i g =
          outs_out f fair most ls b base ts r code around before next p refl stays nested rest after_types reached ex (loop r body ▹ ε) 0 j t found q w v values (inside_more k most w q less i) g

      loop_exits : Exits f k inner base (listed r) (comes_to_end body) round (word_at p) (after_code n)
      loop_exits = record {
        on = ends;
        breaks = breaks;
        turns = turns;
        outs = outs;
        leaves = λ q w v values i g. leaves_out f fair most ls b base ts r code around before next p refl stays nested rest after_types reached ex (loop r body ▹ ε) 0 q w v values (inside_more k most w q less i) g;
        ends = λ e. absurd (cc e);
      }

    abbrev BodyIsKept : Type 0
    BodyIsKept =
        (k : ℕ) (round : List Surrounding) (words : Words) (next : Completion → Part (Unit {0})) → k ≤ f.bound → Exits f k inner base (listed r) (comes_to_end body) round words next
        → IsKept f k body inner base [] round words next

    -- ---- turns

    abbrev start : Place → List EventPlain → Rest
    start q w = code_sight f around (loop r body ▹ code) b ts q w

    abbrev enters : State → Outcome
    enters = in_block f.home around 0 (loop r body ▹ ε) body code

    starts : (q : Place) (w : List EventPlain) (n : ℕ) → start q w n ≡ f.watch (pay (state_at f (operands b ts (word_at q)) q w n) enters)
    starts q w n = ap f.watch (loop_step f.home around r body code (state_at f (operands b ts (word_at q)) q w n))

    out_of_turns : (q : Place) (w : List EventPlain) → Inside f most w q → q.units ≡ 0 → IsFollowed f q (start q w) (spent q)
    out_of_turns q w i none =
        stands_still f.by f.pace f.unpaid 1 q q (start q w) fair.some (omega (arith, none)) refl
        (stands f fair most w q (operands b ts (word_at q)) enters (start q w) i (starts q w))

    -- after the unit of a turn
    abbrev turn : ℕ → Unit {0} → Part (Unit {0})
    turn n u = the_test (λ v. if truthy_of v then the_body (after_body n) else after_loop normal)

    module _ (kept : BodyIsKept) (n : ℕ) (turns_kept : TurnsAreKept n) (q : Place) (w : List EventPlain) (i : Inside f most w q) (stays : Stays b before (word_at q)) where
      body_turn : (k : ℕ) → q.units ≡ suc k → k ≤ n → k ≤ f.bound → IsFollowed f q (start q w) (the_body (after_body n) (record q { units = k }))
      body_turn k e le le' =
          let p : Place = record q { units = k } in
          let m = i.units in
          let less : k ≤ most = omega (arith, e, m) in
          let round : List Surrounding = in_label (operands b ts (word_at q)) 0 (loop r body ▹ ε) code ∷ around in
          let same : word_at p ≡ word_at q = units_apart k q in
          let s : Stays base (word_at q) (word_at p) = subst (λ (words : Words). Stays base (word_at q) words) (sym same) (stays_itself base (word_at q)) in
          let run = appended f.calls f.scope f.bound (stmts_of f.setting.bytes f.cells f.context body inner base [] [] []) (leaves body) (after_body n) in
          let h = kept k round (word_at q) (after_code n) le' (loop_exits n k q stays turns_kept le less) p w (inside_still most k w q i) s in
          step f fair most w q p (operands b ts (word_at q)) enters (start q w) (code_sight f round body base [] p w) (the_body (after_body n) p) i (starts q w) 1 fair.some (omega (arith, e)) refl
          (λ j. ap (λ t. f.watch (closed f.home round (onward f.home body t))) (sym (state_apart k [] q w j)))
          (subst (λ (part : Part (Unit {0})). IsFollowed f p (code_sight f round body base [] p w) (part p)) (sym run) h)

      paid_turn : (u : ℕ) → q.units ≡ u → u ≤ suc n → u ≤ suc f.bound → IsFollowed f q (start q w) (run_after (paid u q) (turn n))
      paid_turn zero e le le' = out_of_turns q w i e
      paid_turn (suc k) e le le' = body_turn k e (omega (arith, le)) (omega (arith, le'))

    pub turns_are_kept : BodyIsKept → (n : ℕ) → n ≤ f.bound → TurnsAreKept n
    turns_are_kept kept zero le q w i stays few = out_of_turns q w i (omega (arith, few))
    turns_are_kept kept (suc n) le q w i stays few =
        paid_turn kept n (turns_are_kept kept n (omega (arith, le))) q w i stays q.units refl few (omega (arith, few, le))
