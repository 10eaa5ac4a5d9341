-- A loop that changes one variable and the heap, by the turns that are done.
use Rattle.std.proofs.Common.{◌≡◌, ℕ, zero, suc, ◌+◌, ◌<◌, ◌≤◌, true, false, if◌then◌else◌, List, [], ◌∷◌, refl, sym, ap, ◌∙◌, subst, arith}
use Rattle.sem_words.specs.declared.js_value.JsValue.{JsValue}
use Rattle.sem_words.specs.declared.js_value.JsValue.TheVariants.{Bool as Boolean}
use Rattle.sem_words.specs.JsValues.{to_uint32_of, truthy_of}
use Rattle.asm_lang_exec.specs.Runs as runs
use Rattle.asm_lang_exec.specs.Runs.{Binding, Place, Run, goes, stops, spent, wrong, Part, after, and_then}
use Rattle.asm_lang.specs.Modules.{Stmt}
use Rattle.asm_lang_exec.specs.Meaning.{eval, exec, Completion, normal, broken, continued, returned, unless_left, loop_end, unless_ended, turns}
use Rattle.asm_lang_valid.specs.Typing.{Scope}
use Rattle.asm_lang_exec.specs.Values.{Calls}
use Rattle.wasm2js_translation.specs.Words.{Term, int_of}
use Rattle.wasm2js_translation.specs.Helpers.{block_of, repeat}
use Rattle.wasm2js_laws_actions.specs.Reads.{Finds}
use Rattle.wasm2js_laws_helpers.proofs.Bodies.{run}
use Rattle.wasm2js_laws_actions.proofs.Reading.{found_then}

module _ (base : Place) (target : List ℕ) where
  -- from so many units, the heap is the target after so many of them, and nothing else has changed but locals
  abbrev pub Works : (cost n : ℕ) → Run Completion → Type 0
  Works cost n (goes normal q) = (q.units + cost ≡ n) × (q.heap ≡ target) × (q.globals ≡ base.globals) × (q.events ≡ base.events) × (q.replies ≡ base.replies)
  Works cost n (goes (broken x) q) = ⊥
  Works cost n (goes (continued x) q) = ⊥
  Works cost n (goes (returned v) q) = ⊥
  Works cost n (stops e q) = ⊥
  Works cost n (spent q) = (n < cost) × (q.events ≡ base.events)
  Works cost n wrong = Unit {0}

  one_more : (cost more n : ℕ) (r : Run Completion) → more ≡ cost + 1 → Works cost n r → Works more (suc n) r
  one_more cost more n (goes normal q) e k = let u = k.0 in (omega (arith, u, e), k.1, k.2, k.3, k.4)
  one_more cost more n (goes (broken x) q) e k = absurd k
  one_more cost more n (goes (continued x) q) e k = absurd k
  one_more cost more n (goes (returned v) q) e k = absurd k
  one_more cost more n (stops x q) e k = absurd k
  one_more cost more n (spent q) e k = let u = k.0 in (omega (arith, u, e), k.1)
  one_more cost more n wrong e k = tt

  pub at_cost : (cost other n : ℕ) (r : Run Completion) → cost ≡ other → Works cost n r → Works other n r
  at_cost cost other n r e k = subst (λ c. Works c n r) e k

  -- at the end of a block
  pub settled : (calls : Calls) (c : Scope) (d cost n : ℕ) (r : Run Completion) → Works cost n r → Works cost n (after r (λ e. unless_left e (run calls c d [])))
  settled calls c d cost n (goes normal q) k = k
  settled calls c d cost n (goes (broken x) q) k = absurd k
  settled calls c d cost n (goes (continued x) q) k = absurd k
  settled calls c d cost n (goes (returned v) q) k = absurd k
  settled calls c d cost n (stops e q) k = absurd k
  settled calls c d cost n (spent q) k = k
  settled calls c d cost n wrong k = tt

module _ (base : Place) (locals : JsValue → List Binding) (word : ℕ → ℕ) (heap : ℕ → List ℕ) where
  abbrev pub state : (j : ℕ) (s : JsValue) (n : ℕ) → Place
  state j s n = record base { units = n; locals = locals s; heap = heap j }

  -- the place after so many turns
  pub record Stepped (j n : ℕ) (q : Place) : Type 0 where
    pub value : JsValue
    pub has_word : to_uint32_of value ≡ word j
    pub is : q ≡ state j value n

  abbrev pub StepIs : (j n : ℕ) → Run Completion → Type 0
  StepIs j n (goes normal q) = Stepped j n q
  StepIs j n (goes (broken x) q) = ⊥
  StepIs j n (goes (continued x) q) = ⊥
  StepIs j n (goes (returned v) q) = ⊥
  StepIs j n (stops e q) = ⊥
  StepIs j n (spent q) = ⊥
  StepIs j n wrong = Unit {0}

  pub record IsLoop (total : ℕ) (test : Part JsValue) (body : Part Completion) : Type 0 where
    pub ends : (s : JsValue) (n : ℕ) → to_uint32_of s ≡ word total → Finds (Boolean false) (state total s n) (test (state total s n))
    pub goes_on : (j : ℕ) (s : JsValue) (n : ℕ) → j < total → to_uint32_of s ≡ word j → Finds (Boolean true) (state j s n) (test (state j s n))
    pub step : (j : ℕ) (s : JsValue) (n : ℕ) → j < total → to_uint32_of s ≡ word j → StepIs (suc j) n (body (state j s n))

  module _ (target : List ℕ) (total : ℕ) (test : Part JsValue) (body : Part Completion) (l : IsLoop total test body)
      (outer : Run Completion → Run Completion) (outer_wrong : outer wrong ≡ wrong) (outer_spent : (q : Place) → outer (spent q) ≡ spent q) where
    abbrev loop : ℕ → Part Completion
    loop d = turns [] d test body (runs.gives tt)

    -- what a turn comes to once its test is done
    abbrev turn : ℕ → JsValue → Part Completion
    turn d v = if truthy_of v then and_then body (λ e. unless_ended (loop_end [] e) (and_then (runs.gives {A = Unit {0}} tt) (λ _. loop d))) else runs.gives normal

    wrong_works : (cost n : ℕ) → Works base target cost n (outer wrong)
    wrong_works cost n = subst (λ r. Works base target cost n r) (sym outer_wrong) tt

    spent_works : (cost n : ℕ) (q : Place) → n < cost → q.events ≡ base.events → Works base target cost n (outer (spent q))
    spent_works cost n q few same = subst (λ r. Works base target cost n r) (sym (outer_spent q)) (few, same)

    stepped_works : (d j cost n : ℕ) (r : Run Completion) → StepIs (suc j) n r
        → ((s : JsValue) → to_uint32_of s ≡ word (suc j) → Works base target cost n (outer (loop d (state (suc j) s n))))
        → Works base target cost n (outer (after r (λ e. unless_ended (loop_end [] e) (and_then (runs.gives {A = Unit {0}} tt) (λ _. loop d)))))
    stepped_works d j cost n (goes normal q) h f = subst (λ q. Works base target cost n (outer (loop d q))) (sym h.is) (f h.value h.has_word)
    stepped_works d j cost n (goes (broken x) q) h f = absurd h
    stepped_works d j cost n (goes (continued x) q) h f = absurd h
    stepped_works d j cost n (goes (returned v) q) h f = absurd h
    stepped_works d j cost n (stops e q) h f = absurd h
    stepped_works d j cost n (spent q) h f = absurd h
    stepped_works d j cost n wrong h f = wrong_works cost n

    -- k turns are left
    pub looped : (d k j : ℕ) (s : JsValue) (n cost : ℕ) → n ≤ d → j + k ≡ total → to_uint32_of s ≡ word j
        → ((s : JsValue) (n : ℕ) → n ≤ d → to_uint32_of s ≡ word total → Works base target cost n (outer (goes normal (state total s n))))
        → Works base target (1 + k + cost) n (outer (loop d (state j s n)))
    looped zero k j s n cost le e is f = spent_works (1 + k + cost) n (state j s n) (omega (arith, le)) refl
    looped (suc d) k j s zero cost le e is f = spent_works (1 + k + cost) zero (state j s zero) (omega arith) refl
    looped (suc d) zero j s (suc n) cost le e is f =
        let there : j ≡ total = omega (arith, e) in
        found_then (λ r. Works base target (1 + zero + cost) (suc n) (outer r)) (Boolean false) (state j s n) (test (state j s n)) (turn d) (wrong_works (1 + zero + cost) (suc n))
        (subst (λ j. Finds (Boolean false) (state j s n) (test (state j s n))) (sym there) (l.ends s n (is ∙ ap word there)))
        (one_more base target cost (1 + zero + cost) n (outer (goes normal (state j s n))) (omega arith)
        (subst (λ j. Works base target cost n (outer (goes normal (state j s n)))) (sym there) (f s n (omega (arith, le)) (is ∙ ap word there))))
    looped (suc d) (suc k) j s (suc n) cost le e is f =
        let less : j < total = omega (arith, e) in
        found_then (λ r. Works base target (1 + suc k + cost) (suc n) (outer r)) (Boolean true) (state j s n) (test (state j s n)) (turn d) (wrong_works (1 + suc k + cost) (suc n))
        (l.goes_on j s n less is)
        (one_more base target (1 + k + cost) (1 + suc k + cost) n (outer (turn d (Boolean true) (state j s n))) (omega arith)
        (stepped_works d j (1 + k + cost) n (body (state j s n)) (l.step j s n less is)
        (λ t has. looped d k (suc j) t n cost (omega (arith, le)) (omega (arith, e)) has (λ s n le. f s n (omega (arith, le))))))

  -- a loop before other statements, with what comes after them all
  pub repeated : (target : List ℕ) (calls : Calls) (c : Scope) (d total : ℕ) (test : Term) (ss rest : List Stmt)
      → IsLoop total (eval false calls c (int_of test)) (exec false calls c d [] (block_of ss))
      → (K : Run Completion → Run Completion) → K wrong ≡ wrong → ((q : Place) → K (spent q) ≡ spent q) → (cost : ℕ) (s : JsValue) (n : ℕ) → n ≤ d → to_uint32_of s ≡ word 0
      → ((s : JsValue) (n : ℕ) → n ≤ d → to_uint32_of s ≡ word total → Works base target cost n (K (run calls c d rest (state total s n))))
      → Works base target (1 + total + cost) n (K (run calls c d (repeat test ss ∷ rest) (state 0 s n)))
  repeated target calls c d total test ss rest is_loop K is_wrong is_spent cost s n le is f =
      looped target total (eval false calls c (int_of test)) (exec false calls c d [] (block_of ss)) is_loop (λ r. K (after r (λ e. unless_left e (run calls c d rest)))) is_wrong is_spent d total 0 s n cost le (omega arith) is f
