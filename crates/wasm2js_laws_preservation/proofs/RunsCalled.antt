-- Tests of runs, traps, and calls of functions that work on the heap.
use Rattle.std.proofs.Common.{◌≡◌, ℕ, zero, suc, ◌+◌, ◌≤◌, Bool, true, false, List, [], ◌∷◌, Option, Some, None, refl, sym, ap, subst, arith}
use Rattle.std.specs.Prelude.{if◌then◌else◌, nat_lt}
use Rattle.sem_words.specs.declared.word.Word.TheVariants.{W32}
use Rattle.sem_words.specs.declared.js_value.JsValue.{JsValue}
use Rattle.sem_words.specs.declared.js_value.JsValue.TheVariants.{Bool as Boolean}
use Rattle.sem_words.specs.declared.js_value.JsOp.TheVariants.{Gt}
use Rattle.sem_words.specs.JsValues.{truthy_of}
use Rattle.sem_words.specs.JsOperators.{js_binary_of, unsigned_value}
use Rattle.sem_words.specs.Words.{rel_of}
use Rattle.session_lang.specs.Observation.{stopped, trap_name}
use Rattle.asm_lang.specs.Modules.{Stmt, Function, Module, if_only, if_else}
use Rattle.asm_lang_valid.specs.Scope.{a_foreign}
use Rattle.asm_lang_valid.specs.Typing.{Scope, named}
use Rattle.asm_lang_valid.specs.Typed.{scope_of}
use Rattle.asm_lang_exec.specs.Runs as runs
use Rattle.asm_lang_exec.specs.Runs.{Binding, Place, Run, goes, stops, spent, wrong, after, and_then, defined, paid, with_locals, back_to}
use Rattle.asm_lang_exec.specs.Values.{Calls}
use Rattle.asm_lang_exec.specs.Meaning.{eval, exec, exec_all, Completion, normal, broken, continued, returned, unless_left, first_locals, function_end, call_at}
use Rattle.wasm2js_translation.specs.Names.{trap}
use Rattle.wasm2js_translation.specs.Words.{Term, Relation, compare, guard, name_of, natural, int_of, simple_statement, trap_call}
use Rattle.wasm2js_laws_places.specs.Straight.{Words, value, relation_of}
use Rattle.wasm2js_laws_places.specs.Straight as straight
use Rattle.wasm2js_laws_places.specs.Places.{names_in, IsHeap}
use Rattle.wasm2js_laws_places.specs.Helped.{Helps}
use Rattle.wasm2js_laws_actions.proofs.Numbers.{bound_found}
use Rattle.wasm2js_laws_actions.proofs.Reading.{found_then}
use Rattle.wasm2js_laws_actions.proofs.Evaluated.{number_then}
use Rattle.wasm2js_laws_helpers.proofs.Called.{placed, words_after}
use Rattle.wasm2js_laws_helpers.proofs.Bodies.{run}
use Rattle.wasm2js_laws_preservation.proofs.StoresFound.{Found, found_named, expr_read, compare_then}
use Rattle.wasm2js_laws_preservation.proofs.RunsLoops.{Works}

-- the trap of the memory was called, and the heap is as before
abbrev pub Traps : Place → Run Completion → Type 0
Traps p (stops e q) = (e ≡ stopped trap_name (W32 2 ∷ [])) × (q.heap ≡ p.heap) × (q.events ≡ p.events)
Traps p (goes d q) = ⊥
Traps p (spent q) = ⊥
Traps p wrong = Unit {0}

module _ (calls : Calls) (c : Scope) (turns : ℕ) (words : Words) where
  abbrev ex : Stmt → runs.Part Completion
  ex s = exec false calls c turns [] s

  abbrev pub After : (rest : List Stmt) (P : Run Completion → Type 0) → Run Completion → Type 0
  After rest P r = P (after r (λ d. unless_left d (run calls c turns rest)))

  pub trapped : (p : Place) → named c (name_of trap) ≡ a_foreign trap_name → ex (trap_call 2) p ≡ stops (stopped trap_name (W32 2 ∷ [])) p
  trapped p has = rw has refl

  trap_then : (rest : List Stmt) (p : Place) (P : Run Completion → Type 0) → named c (name_of trap) ≡ a_foreign trap_name → P (stops (stopped trap_name (W32 2 ∷ [])) p) → After rest P (ex (trap_call 2) p)
  trap_then rest p P has f = subst (After rest P) (sym (trapped p has)) f

  -- the trap where a word is above a bound
  pub guard_then : (t : Term) (most : ℕ) (rest : List Stmt) (p : Place) (P : Run Completion → Type 0) → P wrong → named c (name_of trap) ≡ a_foreign trap_name → Found calls c words p t
      → (nat_lt most (value t words p.heap) ≡ true → P (stops (stopped trap_name (W32 2 ∷ [])) p)) → (nat_lt most (value t words p.heap) ≡ false → P (run calls c turns rest p))
      → P (run calls c turns (simple_statement (guard t most 2) ∷ rest) p)
  guard_then t most rest p P w has k f g =
      number_then calls c false t x p (λ r. After rest P (after r next)) (λ v. and_then (eval false calls c (natural most)) (λ w. defined (js_binary_of Gt v w))) w
      (found_named calls c words p t k) (expr_read calls c words p t k)
      (λ small. found_then (After rest P) (Boolean (nat_lt most x)) p (defined (js_binary_of Gt (unsigned_value x) (unsigned_value most)) p) next w (bound_found x most p) (by (nat_lt most x) refl))
    where
      x : ℕ
      x = value t words p.heap

      next : JsValue → runs.Part Completion
      next v = if truthy_of v then ex (trap_call 2) else runs.gives normal

      by : (t : Bool) → nat_lt most x ≡ t → After rest P ((if t then ex (trap_call 2) else runs.gives normal) p)
      by true e = trap_then rest p P has (f e)
      by false e = g e

  -- the trap where two words compare
  pub test_then : (signed : Bool) (r : Relation) (a b : Term) (rest : List Stmt) (p : Place) (P : Run Completion → Type 0) → P wrong → named c (name_of trap) ≡ a_foreign trap_name
      → Found calls c words p a → Found calls c words p b
      → (rel_of 32 (relation_of signed r) (value a words p.heap) (value b words p.heap) ≡ true → P (stops (stopped trap_name (W32 2 ∷ [])) p))
      → (rel_of 32 (relation_of signed r) (value a words p.heap) (value b words p.heap) ≡ false → P (run calls c turns rest p))
      → P (run calls c turns (if_only (int_of (compare signed r a b)) (trap_call 2) ∷ rest) p)
  test_then signed r a b rest p P w has ka kb f g =
      compare_then calls c signed r a b (value a words p.heap) (value b words p.heap) p (After rest P) (λ v. if truthy_of v then ex (trap_call 2) else runs.gives normal) w
      (found_named calls c words p a ka) (found_named calls c words p b kb) (expr_read calls c words p a ka) (expr_read calls c words p b kb) (by (rel_of 32 (relation_of signed r) (value a words p.heap) (value b words p.heap)) refl)
    where
      by : (t : Bool) → rel_of 32 (relation_of signed r) (value a words p.heap) (value b words p.heap) ≡ t → After rest P ((if t then ex (trap_call 2) else runs.gives normal) p)
      by true e = trap_then rest p P has (f e)
      by false e = g e

  -- one of two statements, where two words compare
  pub either_then : (signed : Bool) (r : Relation) (a b : Term) (x y : Stmt) (rest : List Stmt) (p : Place) (P : Run Completion → Type 0) → P wrong
      → Found calls c words p a → Found calls c words p b
      → (rel_of 32 (relation_of signed r) (value a words p.heap) (value b words p.heap) ≡ true → After rest P (ex x p))
      → (rel_of 32 (relation_of signed r) (value a words p.heap) (value b words p.heap) ≡ false → After rest P (ex y p))
      → P (run calls c turns (if_else (int_of (compare signed r a b)) x y ∷ rest) p)
  either_then signed r a b x y rest p P w ka kb f g =
      compare_then calls c signed r a b (value a words p.heap) (value b words p.heap) p (After rest P) (λ v. if truthy_of v then ex x else ex y) w
      (found_named calls c words p a ka) (found_named calls c words p b kb) (expr_read calls c words p a ka) (expr_read calls c words p b kb) (by (rel_of 32 (relation_of signed r) (value a words p.heap) (value b words p.heap)) refl)
    where
      by : (t : Bool) → rel_of 32 (relation_of signed r) (value a words p.heap) (value b words p.heap) ≡ t → After rest P ((if t then ex x else ex y) p)
      by true e = f e
      by false e = g e

  -- a statement, where two words compare
  pub only_then : (signed : Bool) (r : Relation) (a b : Term) (x : Stmt) (rest : List Stmt) (p : Place) (P : Run Completion → Type 0) → P wrong
      → Found calls c words p a → Found calls c words p b
      → (rel_of 32 (relation_of signed r) (value a words p.heap) (value b words p.heap) ≡ true → After rest P (ex x p))
      → (rel_of 32 (relation_of signed r) (value a words p.heap) (value b words p.heap) ≡ false → P (run calls c turns rest p))
      → P (run calls c turns (if_only (int_of (compare signed r a b)) x ∷ rest) p)
  only_then signed r a b x rest p P w ka kb f g =
      compare_then calls c signed r a b (value a words p.heap) (value b words p.heap) p (After rest P) (λ v. if truthy_of v then ex x else runs.gives normal) w
      (found_named calls c words p a ka) (found_named calls c words p b kb) (expr_read calls c words p a ka) (expr_read calls c words p b kb) (by (rel_of 32 (relation_of signed r) (value a words p.heap) (value b words p.heap)) refl)
    where
      by : (t : Bool) → rel_of 32 (relation_of signed r) (value a words p.heap) (value b words p.heap) ≡ t → After rest P ((if t then ex x else runs.gives normal) p)
      by true e = f e
      by false e = g e

-- ---- a call

-- a body's work after so many units, or its trap
abbrev pub Comes : Bool → (target : List ℕ) (cost : ℕ) → Place → (n : ℕ) → Run Completion → Type 0
Comes true target cost p n r = Works p target cost n r
Comes false target cost p n r = Traps p r

module _ (m : Module) (g : Function) (bytes : ℕ) (vs : List JsValue) (inside : Bool) (target : List ℕ) (cost : ℕ) where
  abbrev answer : straight.Answer
  answer = if inside then straight.gives 0 None target else straight.traps 2

  abbrev units : ℕ
  units = if inside then 1 + cost else 1

  worked : (p : Place) (n : ℕ) → IsHeap bytes target → p.units ≡ suc n → (r : Run Completion) → Works p target cost n r
      → Helps bytes (straight.gives 0 None target) (1 + cost) p (after (after r (λ d. function_end d)) (back_to p.locals))
  worked p n h e (goes normal q) k = (
    refl,
    record {
      has_words = words_after None p (record q { locals = p.locals }) refl k.2;
      has_heap = k.1;
      is_heap = h;
      left = let u = k.0 in omega (arith, u, e);
      locals = refl;
      globals = ap names_in k.2;
      events = k.3;
      replies = k.4;
    },
  )
  worked p n h e (goes (returned v) q) k = absurd k
  worked p n h e (goes (broken x) q) k = absurd k
  worked p n h e (goes (continued x) q) k = absurd k
  worked p n h e (stops x q) k = absurd k
  worked p n h e (spent q) k = let u = k.0 in record { few = omega (arith, u, e); events = k.1 }
  worked p n h e wrong k = tt

  refused : (p : Place) (r : Run Completion) → Traps p r → Helps bytes (straight.traps 2) 1 p (after (after r (λ d. function_end d)) (back_to p.locals))
  refused p (stops e q) k = record { end = k.0; has_heap = k.1; events = k.2 }
  refused p (goes d q) k = absurd k
  refused p (spent q) k = absurd k
  refused p wrong k = tt

  ended : (t : Bool) (p : Place) (n : ℕ) → (t ≡ true → IsHeap bytes target) → p.units ≡ suc n → (r : Run Completion) → Comes t target cost p n r
      → Helps bytes (if t then straight.gives 0 None target else straight.traps 2) (if t then 1 + cost else 1) p (after (after r (λ d. function_end d)) (back_to p.locals))
  ended true p n h e r k = worked p n (h refl) e r k
  ended false p n h e r k = refused p r k

  short : (t : Bool) (p q : Place) → p.units ≡ 0 → q.events ≡ p.events → Helps bytes (if t then straight.gives 0 None target else straight.traps 2) (if t then 1 + cost else 1) p (spent q)
  short true p q e same = record { few = omega (arith, e); events = same }
  short false p q e same = record { few = omega (arith, e); events = same }

  -- a call of a function with these variables
  pub called_job : (locals : List Binding) → first_locals g vs ≡ Some locals → (bound : ℕ) (p : Place) → (inside ≡ true → IsHeap bytes target) → p.units ≤ bound
      → ((d n : ℕ) → n ≤ d → Comes inside target cost p n (exec_all false (call_at false m d) (scope_of m g) d g.body (placed p n locals)))
      → Helps bytes answer units p (call_at false m bound g vs p)
  called_job locals is zero p h le body = short inside p p (omega (arith, le)) refl
  called_job locals is (suc d) p h le body = by p.units refl
    where
      with_them : (n : ℕ) → p.units ≡ suc n → (o : Option (List Binding)) → o ≡ Some locals
          → Helps bytes answer units p (after (defined o (record p { units = n })) (λ locals. with_locals locals (and_then (exec_all false (call_at false m d) (scope_of m g) d g.body) (λ d. function_end d))))
      with_them n e None same = absurd (cc same)
      with_them n e (Some others) same =
          let alike : locals ≡ others = cc same in
          subst (λ ls. Helps bytes answer units p (with_locals ls (and_then (exec_all false (call_at false m d) (scope_of m g) d g.body) (λ d. function_end d)) (record p { units = n }))) alike
          (ended inside p n h e (exec_all false (call_at false m d) (scope_of m g) d g.body (placed p n locals)) (body d n (omega (arith, le, e))))

      by : (u : ℕ) → p.units ≡ u
          → Helps bytes answer units p
          (after (paid u p) (λ _. and_then (defined (first_locals g vs)) (λ locals. with_locals locals (and_then (exec_all false (call_at false m d) (scope_of m g) d g.body) (λ d. function_end d)))))
      by zero e = short inside p p e refl
      by (suc n) e = with_them n e (first_locals g vs) is
