-- The body of a function in its frame: its last return leaves its value without an instruction.
use Rattle.std.proofs.Common.{◌≡◌, ℕ, suc, ◌+◌, ◌≤◌, Bool, true, false, List, [], ◌++◌, Some, refl, sym, ap, subst, arith}
use Rattle.std.proofs.lemmas.Bool.{and_parts}
use Rattle.sem_words.specs.declared.word.Word.{Word}
use Rattle.sem_words.specs.declared.js_value.JsValue.{JsValue}
use Rattle.sem_words.specs.declared.js_value.JsValue.TheVariants.{Undef}
use Rattle.wasm_lang_exec.specs.Code.{Trees, ε, ◌⊕◌}
use Rattle.wasm_lang_exec.specs.Store.{Store}
use Rattle.wasm_laws_drive.specs.Drive.{Outcome, Next, Leave, at, onward}
use Rattle.wasm_laws_drive.specs.Equations.{then_on, at_frame}
use Rattle.wasm_laws_drive.proofs.Sequences.{sequence}
use Rattle.wasm_laws_trees.specs.Spelled.{size}
use Rattle.asm_types.specs.declared.value_type.ValueType.TheVariants.{Signed}
use Rattle.asm_lang.specs.Modules.{Stmt, returns, Stmts, no_stmts, stmts}
use Rattle.asm_lang_valid.specs.Scope.{gives_value, last_gives_value}
use Rattle.asm_lang_valid.specs.Rows.{stmt_count}
use Rattle.asm_lang_valid.specs.LimitRows.{stmt_marks, stmts_marks, foreign_calls}
use Rattle.asm_lang_valid.specs.Typing.{Scope, Around, result_of, typed, all_typed}
use Rattle.asm_lang_exec.specs.Runs.{Run, goes, stops, spent, wrong, Part, after, and_then, gives, goes_wrong}
use Rattle.asm_lang_exec.specs.Values.{Calls}
use Rattle.asm_lang_exec.specs.Meaning.{eval, Completion, normal, broken, continued, returned, unless_left, exec, exec_all, function_end}
use Rattle.asm2wasm_translation.specs.Values.{value_code}
use Rattle.asm2wasm_translation.specs.Bodies.{stmt_code, last_code, body_code}
use Rattle.asm2wasm_laws_run.specs.Sim as sims
use Rattle.asm2wasm_laws_preservation.specs.Kept.{Fits, a_value, result, Surroundings}
use Rattle.asm2wasm_laws_preservation.specs.Made.{AllListed, Within, CallsKept}
use Rattle.asm2wasm_laws_preservation.specs.Laws.{AreAccepted, scope}
use Rattle.asm2wasm_laws_preservation.proofs.Rooms.{first_within, second_within, listed_parts}
use Rattle.asm2wasm_laws_preservation.proofs.Sizes.{sizes_add}
use Rattle.asm2wasm_laws_simulation.specs.Bodies.Followed.{Course, on_code, Follows, Any, ends_as}
use Rattle.asm2wasm_laws_simulation.specs.Bodies.Laws.{results}
use Rattle.asm2wasm_laws_simulation.proofs.Bodies.Joined.{follows_bind, follows_more, follows_now, follows_part, follows_same, follows_soon, follows_kept}
use Rattle.asm2wasm_laws_simulation.proofs.Bodies.Left.{no_more}
use Rattle.asm2wasm_laws_simulation.proofs.Bodies.Executed.{below_kept, stmt_kept}
use Rattle.asm2wasm_laws_simulation.proofs.Bodies.Switched.{switches_kept}

module _ (s : Surroundings) (limit bound : ℕ) (calls : Calls) (is : AreAccepted s) (kept : CallsKept s limit calls) (le : limit ≤ bound) (below : List Word) (code : Trees) (outer : List Word) where
  abbrev pub framed : Bool → Outcome → Outcome
  framed b r = at_frame s.target below (results b) code outer r

  -- back in the caller's code, with the result on its stack
  abbrev pub back_with : Bool → JsValue → Course
  back_with b v l st k = onward s.target code (at (result b v ++ below) outer st k)

  abbrev Back : Bool → (more : ℕ) → Course → Part JsValue → Type 0
  Back b more course part = Follows s limit more course Any (back_with b) part

  frame_keeps : (b : Bool) → sims.Keeps (framed b)
  frame_keeps b = record { ended = λ e st. refl; spent = λ st. refl }

  goes_back : (z : ℕ) (b : Bool) (v : JsValue) (course : Course) → ((l : List Word) (st : Store) (k : ℕ) → course l st k ≡ back_with b v l st k) → Back b z course (gives v)
  goes_back z b v course e = follows_more s limit Any (back_with b) 0 z course (gives v) (omega arith) (follows_now s limit Any (back_with b) course v tt e)

  wrong_ends : (z : ℕ) (b : Bool) (course : Course) → Back b z course goes_wrong
  wrong_ends z b course = record { by = λ p scratch h many few. tt }

  values_back : (b : Bool) (v : JsValue) (l : List Word) (st : Store) (k : ℕ) → framed b (Next (at (result b v) l st (1 + k))) ≡ back_with b v l st k
  values_back b v l st k = let one : 1 + k ≡ suc k = omega arith in ap (λ n. framed b (Next (at (result b v) l st n))) one

  return_back : (b : Bool) (v : JsValue) (l : List Word) (st : Store) (k : ℕ) → framed b (Leave (at (result b v) l st k)) ≡ back_with b v l st k
  return_back true v l st k = refl
  return_back false v l st k = refl

  ends_body : (b : Bool) (z : ℕ) (d : Completion) → 1 ≤ z → (d ≡ normal → b ≡ false) → Back b z (λ l st k. framed b (ends_as [] b d l st k)) (function_end d)
  ends_body true z normal le e = absurd (cc (e refl))
  ends_body false z normal le e = follows_soon s limit Any (back_with false) 1 z (λ l st k. framed false (Next (at [] l st k))) Undef le tt (values_back false Undef)
  ends_body b z (broken n) le e = wrong_ends z b (λ l st k. framed b (ends_as [] b (broken n) l st k))
  ends_body b z (continued n) le e = wrong_ends z b (λ l st k. framed b (ends_as [] b (continued n) l st k))
  ends_body b z (returned v) le e = goes_back z b v (λ l st k. framed b (ends_as [] b (returned v) l st k)) (return_back b v)

  abbrev c : Scope
  c = scope s

  abbrev does : Stmts → Part JsValue
  does ss = and_then (exec_all true calls c bound ss) (λ d. function_end d)

  only_one : (o : Run Completion) → after o (λ d. function_end d) ≡ after (after o (λ d. unless_left d (gives normal))) (λ d. function_end d)
  only_one (goes normal p) = refl
  only_one (goes (broken n) p) = refl
  only_one (goes (continued n) p) = refl
  only_one (goes (returned v) p) = refl
  only_one (stops e p) = refl
  only_one (spent p) = refl
  only_one wrong = refl

  returns_it : (o : Run JsValue) → after o gives ≡ after (after (after o (λ v. gives (returned v))) (λ d. unless_left d (gives normal))) (λ d. function_end d)
  returns_it (goes v p) = refl
  returns_it (stops e p) = refl
  returns_it (spent p) = refl
  returns_it wrong = refl

  abbrev wanted : Bool
  wanted = result_of (scope s)

  other_kept : (x : Stmt) (a : Around) (place : ℕ) → last_code s.heap c x ≡ stmt_code s.heap c [] [] x → wanted ≡ false → typed c a x ≡ true → Within s (last_code s.heap c x) → AllListed (foreign_calls s.home) (stmt_marks c place x)
      → size (last_code s.heap c x) ≤ s.worth → Back wanted (1 + size (last_code s.heap c x)) (λ l st k. framed wanted (on_code s.target [] (last_code s.heap c x) l st k)) (does (stmts x no_stmts))
  other_kept x a place e none h room l few =
      let last = stmt_code s.heap c [] [] x in
      subst (λ t. Back wanted (1 + size t) (λ l st k. framed wanted (on_code s.target [] t l st k)) (does (stmts x no_stmts))) (sym e)
      (follows_more s limit Any (back_with wanted) (size last + 1) (1 + size last) (λ l st k. framed wanted (on_code s.target [] last l st k)) (does (stmts x no_stmts)) (omega arith)
      (follows_part s limit Any (back_with wanted) (size last + 1) (λ l st k. framed wanted (on_code s.target [] last l st k)) (and_then (exec true calls c bound [] x) (λ d. function_end d)) (does (stmts x no_stmts)) (λ p. only_one (exec true calls c bound [] x p))
      (follows_bind s limit (framed wanted) (size last) 1 (on_code s.target [] last) Any (ends_as [] wanted) Any (back_with wanted) (exec true calls c bound [] x) (λ d. function_end d) (frame_keeps wanted)
      (stmt_kept s limit bound calls is kept le (switches_kept s limit bound calls) x [] [] a place h (subst (λ t. Within s t) e room) l (subst (λ t. size t ≤ s.worth) e few))
      (λ d u. ends_body wanted 1 d (omega arith) (λ n. none)))))

  value_back : (b : Bool) (v : JsValue) → b ≡ true → (l : List Word) (st : Store) (k : ℕ) → framed b (Next (at (a_value v ++ []) l st (1 + k))) ≡ back_with b v l st k
  value_back true v e = values_back true v
  value_back false v e = absurd (cc e)

  last_kept : (x : Stmt) (a : Around) (place : ℕ) → typed c a x ≡ true → Within s (last_code s.heap c x) → AllListed (foreign_calls s.home) (stmt_marks c place x)
      → size (last_code s.heap c x) ≤ s.worth → gives_value x ≡ wanted → Back wanted (1 + size (last_code s.heap c x)) (λ l st k. framed wanted (on_code s.target [] (last_code s.heap c x) l st k)) (does (stmts x no_stmts))
  last_kept (returns (Some e)) a place h room l few g =
      let p = and_parts _ _ h in
      let value = value_code s.heap c 0 e in
      let run = eval true calls c e in
      follows_more s limit Any (back_with wanted) (size value + 1) (1 + size value) (λ l st k. framed wanted (on_code s.target [] value l st k)) (does (stmts (returns (Some e)) no_stmts)) (omega arith)
      (follows_part s limit Any (back_with wanted) (size value + 1) (λ l st k. framed wanted (on_code s.target [] value l st k)) (and_then run gives) (does (stmts (returns (Some e)) no_stmts)) (λ p. returns_it (run p))
      (follows_bind s limit (framed wanted) (size value) 1 (on_code s.target [] value) (Fits Signed) (λ v l st k. Next (at (a_value v ++ []) l st k)) Any (back_with wanted) run gives (frame_keeps wanted)
      (follows_kept s limit (Fits Signed) a_value value run (below_kept s limit bound calls is kept le Signed e (place + 1) p.1 room l))
      (λ v f. follows_soon s limit Any (back_with wanted) 1 1 (λ l st k. framed wanted (Next (at (a_value v ++ []) l st k))) v (omega arith) tt (value_back wanted v (sym g)))))
  last_kept x a place h room l few g = other_kept x a place refl (sym g) h room l few

  -- after a statement that isn't the last
  ends_or_goes_on : (z : ℕ) (more : Trees) (rest : Part Completion) (d : Completion) → Back wanted (1 + z) (λ l st k. framed wanted (onward s.target more (at [] l st k))) (and_then rest (λ d. function_end d))
      → Back wanted (1 + z) (λ l st k. framed wanted (then_on (ends_as [] wanted d l st k) (onward s.target more))) (and_then (unless_left d rest) (λ d. function_end d))
  ends_or_goes_on z more rest normal f = f
  ends_or_goes_on z more rest (broken n) f = wrong_ends (1 + z) wanted (λ l st k. framed wanted (ends_as [] wanted (broken n) l st k))
  ends_or_goes_on z more rest (continued n) f = wrong_ends (1 + z) wanted (λ l st k. framed wanted (ends_as [] wanted (continued n) l st k))
  ends_or_goes_on z more rest (returned v) f = goes_back (1 + z) wanted v (λ l st k. framed wanted (ends_as [] wanted (returned v) l st k)) (return_back wanted v)

  regrouped : (rest : Part Completion) (o : Run Completion) → after o (λ d. and_then (unless_left d rest) (λ d. function_end d)) ≡ after (after o (λ d. unless_left d rest)) (λ d. function_end d)
  regrouped rest (goes d p) = refl
  regrouped rest (stops e p) = refl
  regrouped rest (spent p) = refl
  regrouped rest wrong = refl

  around_keeps : (more : Trees) → sims.Keeps (λ r. framed wanted (then_on r (onward s.target more)))
  around_keeps more = record { ended = λ e st. refl; spent = λ st. refl }

  pub body_kept : (ss : Stmts) (a : Around) (place : ℕ) → all_typed c a ss ≡ true → Within s (body_code s.heap c ss) → AllListed (foreign_calls s.home) (stmts_marks c place ss)
      → size (body_code s.heap c ss) ≤ s.worth → last_gives_value ss ≡ wanted → Back wanted (1 + size (body_code s.heap c ss)) (λ l st k. framed wanted (on_code s.target [] (body_code s.heap c ss) l st k)) (does ss)
  body_kept no_stmts a place h room l few g =
      follows_same s limit Any (back_with wanted) (1 + 0) (λ l st k. framed wanted (on_code s.target [] ε l st k)) (λ l st k. framed wanted (ends_as [] wanted normal l st k)) (does no_stmts)
      (λ l st k. ap (framed wanted) (no_more s l st k)) (ends_body wanted (1 + 0) normal (omega arith) (λ n. sym g))
  body_kept (stmts x no_stmts) a place h room l few g =
      let p = and_parts _ _ h in
      let both = listed_parts (foreign_calls s.home) (stmt_marks c place x) [] l in
      last_kept x a place p.0 room both.0 few g
  body_kept (stmts x (stmts y ys)) a place h room l few g =
      let p = and_parts _ _ h in
      let first = stmt_code s.heap c [] [] x in
      let more = body_code s.heap c (stmts y ys) in
      let rest = exec_all true calls c bound (stmts y ys) in
      let both = listed_parts (foreign_calls s.home) (stmt_marks c place x) (stmts_marks c (place + stmt_count x) (stmts y ys)) l in
      let all = sizes_add first more in
      follows_more s limit Any (back_with wanted) (size first + (1 + size more)) (1 + size (first ⊕ more)) (λ l st k. framed wanted (on_code s.target [] (first ⊕ more) l st k)) (does (stmts x (stmts y ys))) (omega (arith, all))
      (follows_same s limit Any (back_with wanted) (size first + (1 + size more)) (λ l st k. framed wanted (on_code s.target [] (first ⊕ more) l st k)) (λ l st k. framed wanted (then_on (on_code s.target [] first l st k) (onward s.target more))) (does (stmts x (stmts y ys)))
      (λ l st k. ap (framed wanted) (sequence s.target first more (at [] l st k)))
      (follows_part s limit Any (back_with wanted) (size first + (1 + size more)) (λ l st k. framed wanted (then_on (on_code s.target [] first l st k) (onward s.target more)))
      (and_then (exec true calls c bound [] x) (λ d. and_then (unless_left d rest) (λ d. function_end d))) (does (stmts x (stmts y ys))) (λ p. regrouped rest (exec true calls c bound [] x p))
      (follows_bind s limit (λ r. framed wanted (then_on r (onward s.target more))) (size first) (1 + size more) (on_code s.target [] first) Any (ends_as [] wanted) Any (back_with wanted)
      (exec true calls c bound [] x) (λ d. and_then (unless_left d rest) (λ d. function_end d)) (around_keeps more)
      (stmt_kept s limit bound calls is kept le (switches_kept s limit bound calls) x [] [] a place p.0 (first_within s first more room) both.0 (omega (arith, few, all)))
      (λ d u. ends_or_goes_on (size more) more rest d (body_kept (stmts y ys) a (place + stmt_count x) p.1 (second_within s first more room) both.1 (omega (arith, few, all)) g)))))
