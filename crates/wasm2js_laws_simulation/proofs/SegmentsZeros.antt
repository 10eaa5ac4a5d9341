-- A call of the helper that writes zeros of a segment.
use Rattle.std.proofs.Common.{◌≡◌, ℕ, zero, suc, ◌+◌, ◌*◌, ◌/◌, ◌%◌, ◌^◌, ◌<◌, ◌≤◌, true, false, List, [], ◌∷◌, pos, Option, Some, refl, ap, ◌∙◌, arith}
use Rattle.std.specs.Prelude.{nat_lt, if◌then◌else◌}
use Rattle.std.specs.Int.Bits.{bit_or, or_zero_r}
use Rattle.std.proofs.lemmas.Bool.Decides.{nat_tests}
use Rattle.sem_words.specs.declared.js_value.JsValue.{JsValue}
use Rattle.sem_words.specs.declared.js_value.JsValue.TheVariants.{Whole, Undef, Bool as Boolean}
use Rattle.sem_words.specs.declared.js_value.JsOp.TheVariants.{Or, Shr, Lt}
use Rattle.sem_words.specs.JsValues.{to_uint32_of, truthy_of}
use Rattle.sem_words.specs.JsOperators.{signed_value, js_binary_of}
use Rattle.sem_words.specs.Words.{signed_of}
use Rattle.heap_lang.specs.declared.kind.ViewKind.TheVariants.{I32}
use Rattle.heap_lang.specs.Heap as heaps
use Rattle.asm_lang.specs.Modules.{Stmts, Module}
use Rattle.asm_lang_valid.specs.declared.meaning.Element.TheVariants.{Int32}
use Rattle.asm_lang_valid.specs.Scope.{a_view}
use Rattle.asm_lang_valid.specs.Typing.{Scope, named}
use Rattle.asm_lang_valid.specs.Typed.{scope_of}
use Rattle.asm_lang_exec.specs.Runs.{Binding, binding, Place, Part, Run, spent, after, and_then, defined, paid, read, write}
use Rattle.asm_lang_exec.specs.Values.{write_element}
use Rattle.asm_lang_exec.specs.Meaning.{Completion, normal, loop_end, first_locals, function_end}
use Rattle.asm_laws_continuation.specs.Following.{Before, CallsBefore, eval_to, exec_all_to, unless_ended_to, unless_left_to, turns_to, with_locals_to, call_at_to}
use Rattle.wasm2js_translation.specs.Names.{view_of_words, spelled}
use Rattle.wasm2js_translation.specs.Words.{less, compare, name_of, write_whole, simple_statement, int_of, stmts_in}
use Rattle.wasm2js_translation.specs.Pairs.{literal, plus}
use Rattle.wasm2js_translation.specs.Helpers.{argument, first, second, sets, zero_function}
use Rattle.wasm2js_laws_simulation.specs.SegmentsLaws.{Takes, through, short}
use Rattle.wasm2js_laws_simulation.proofs.SegmentsPut.{added, shifted}

-- ---- numbers

plain_is : (n : ℕ) → n ≤ 2 ^ 28 → js_binary_of Shr (Whole (pos n)) (Whole (pos 0)) ≡ Some (Whole (pos n))
plain_is n h = ap (λ k. Some (Whole (pos k))) (omega (arith, h))

whole_is : (n : ℕ) → n ≤ 2 ^ 28 → js_binary_of Or (Whole (pos n)) (Whole (pos 0)) ≡ Some (Whole (pos n))
whole_is n h =
    let e : n % 2 ^ 32 ≡ n = omega (arith, h) in
    let g : signed_of 32 n ≡ pos n = grind (arith, h) in
    ap (λ k. Some (Whole (signed_of 32 (bit_or k 0)))) e ∙ ap (λ k. Some (Whole (signed_of 32 k))) (or_zero_r n) ∙ ap (λ z. Some (Whole z)) g

-- small numbers are compared
less_is : (a b : ℕ) → a ≤ 2 ^ 28 → b ≤ 2 ^ 28 → js_binary_of Lt (Whole (pos a)) (Whole (pos b)) ≡ Some (Boolean (nat_lt a b))
less_is a b h k =
    let e : nat_lt a (2 ^ 31) ≡ true = grind (arith, nat_tests, h) in
    let f : nat_lt b (2 ^ 31) ≡ true = grind (arith, nat_tests, k) in
    rw (e, f) refl

-- ---- the loop

-- zeros in so many words
abbrev pub zero_words : (count at : ℕ) → List ℕ → List ℕ
zero_words zero at heap = heap
zero_words (suc n) at heap = zero_words n (at + 4) (heaps.store I32 (pos (at / 4)) 0 heap)

-- a unit for each turn, and one for the test that ends it
abbrev pub turn_units : ℕ → ℕ
turn_units zero = 1
turn_units (suc n) = suc (turn_units n)

pub turns_long : (n : ℕ) → turn_units n ≡ n + 1
turns_long zero = refl
turns_long (suc n) = let e = turns_long n in omega (arith, e)

module _ (calls : CallsBefore (Unit {0})) (c : Scope) (views : named c (name_of view_of_words) ≡ a_view Int32) (bound : ℕ) (next : Completion → Part (Unit {0})) (to : ℕ) (small : to ≤ 2 ^ 28) (p : Place) where
  abbrev pub locals_at : ℕ → List Binding
  locals_at at = binding (spelled (argument 0)) (Whole (pos at)) ∷ binding (spelled (argument 1)) (Whole (pos to)) ∷ []

  abbrev here : (at units : ℕ) (heap : List ℕ) → Place
  here at u heap = record p { locals = locals_at at; units = u; heap = heap }

  abbrev inner : Stmts
  inner = stmts_in (simple_statement (write_whole first (literal 0)) ∷ sets (argument 0) (plus first (literal 4)) ∷ [])

  -- the turns, the next of which are so many at most
  abbrev turns : ℕ → Before (Unit {0}) Completion
  turns n = turns_to [] n (eval_to calls c (int_of (compare false less first second))) (exec_all_to calls c bound inner) (λ go. go tt)

  -- what comes after the body, after its store, and after the test
  abbrev again : ℕ → Completion → Part (Unit {0})
  again n d = unless_ended_to (loop_end [] d) (turns n) next

  abbrev stepping : ℕ → Part (Unit {0})
  stepping n = exec_all_to calls c bound (stmts_in (sets (argument 0) (plus first (literal 4)) ∷ [])) (again n)

  abbrev tested : ℕ → JsValue → Part (Unit {0})
  tested n v = if truthy_of v then exec_all_to calls c bound inner (again n) else next normal

  abbrev zero_value : JsValue
  zero_value = Whole (pos 0)

  abbrev name_0 : List ℕ
  name_0 = spelled (argument 0)

  abbrev name_1 : List ℕ
  name_1 = spelled (argument 1)

  test_done : (n at u : ℕ) (heap : List ℕ) → at ≤ 2 ^ 28 → turns (suc n) next (here at (suc u) heap) ≡ tested n (Boolean (nat_lt at to)) (here at u heap)
  test_done n at u heap h =
      let q = here at u heap in
      ap (λ o. and_then (defined o) (λ v. and_then (read name_1) (λ b. and_then (defined (js_binary_of Shr b zero_value)) (λ w. and_then (defined (js_binary_of Lt v w)) (tested n)))) q) (plain_is at h)
      ∙ ap (λ o. and_then (defined o) (λ w. and_then (defined (js_binary_of Lt (Whole (pos at)) w)) (tested n)) q) (plain_is to small)
      ∙ ap (λ o. and_then (defined o) (tested n) q) (less_is at to h small)

  body_done : (n at u : ℕ) (heap : List ℕ) → at + 4 ≤ 2 ^ 28
      → exec_all_to calls c bound inner (again n) (here at u heap) ≡ turns n next (here (at + 4) u (heaps.store I32 (pos (at / 4)) 0 heap))
  body_done n at u heap h =
      let q = here at u heap in
      let stored = here at u (heaps.store I32 (pos (at / 4)) 0 heap) in
      ap (λ o. and_then (defined o) (λ x. and_then (write_element (named c (name_of view_of_words)) x zero_value) (λ v. stepping n)) q) (shifted at (omega (arith, h)))
      ∙ ap (λ m. and_then (write_element m (Whole (pos (at / 4))) zero_value) (λ v. stepping n) q) views
      ∙ ap (λ o. and_then (defined o) (λ x. and_then (defined (js_binary_of Or x zero_value)) (λ v. and_then (write name_0 v) (λ v. again n normal))) stored) (added at 4 h)
      ∙ ap (λ o. and_then (defined o) (λ v. and_then (write name_0 v) (λ v. again n normal)) stored) (whole_is (at + 4) h)

  one_turn : (n at u : ℕ) (heap : List ℕ) → at + 4 ≤ to → turns (suc n) next (here at (suc u) heap) ≡ turns n next (here (at + 4) u (heaps.store I32 (pos (at / 4)) 0 heap))
  one_turn n at u heap h =
      let below : at < to = omega (arith, h) in
      let e : nat_lt at to ≡ true = grind (arith, nat_tests, below) in
      test_done n at u heap (omega (arith, h, small))
      ∙ ap (λ b. tested n (Boolean b) (here at u heap)) e
      ∙ body_done n at u heap (omega (arith, h, small))

  last_turn : (n u : ℕ) (heap : List ℕ) → turns (suc n) next (here to (suc u) heap) ≡ next normal (here to u heap)
  last_turn n u heap =
      let e : nat_lt to to ≡ false = grind (arith, nat_tests) in
      test_done n to u heap small ∙ ap (λ b. tested n (Boolean b) (here to u heap)) e

  -- ---- all turns

  -- what so many turns come to
  data Turned (k at u : ℕ) (heap : List ℕ) (run : Run (Unit {0})) : Type 0 where
    ended : (left : ℕ) → u ≡ left + turn_units k → run ≡ next normal (here to left (zero_words k at heap)) → Turned k at u heap run
    stuck : (q : Place) → u < turn_units k → q.events ≡ p.events → run ≡ spent q → Turned k at u heap run

  turned : (k n at u : ℕ) (heap : List ℕ) → at + 4 * k ≡ to → u ≤ n → Turned k at u heap (turns n next (here at u heap))
  turned k zero at u heap e le = let l = turns_long k in stuck (here at u heap) (omega (arith, le, l)) refl refl
  turned k (suc n) at zero heap e le = let l = turns_long k in stuck (here at zero heap) (omega (arith, l)) refl refl
  turned zero (suc n) at (suc u) heap e le =
      let same : at ≡ to = omega (arith, e) in
      ended u (omega arith) (ap (λ a. turns (suc n) next (here a (suc u) heap)) same ∙ last_turn n u heap)
  turned (suc k) (suc n) at (suc u) heap e le = by (turned k n (at + 4) u stored (omega (arith, e)) (omega (arith, le)))
    where
      stored : List ℕ
      stored = heaps.store I32 (pos (at / 4)) 0 heap

      by : Turned k (at + 4) u stored (turns n next (here (at + 4) u stored)) → Turned (suc k) at (suc u) heap (turns (suc n) next (here at (suc u) heap))
      by (ended left many r) = ended left (omega (arith, many)) (one_turn n at u heap (omega (arith, e)) ∙ r)
      by (stuck q few shown r) = stuck q (omega (arith, few)) shown (one_turn n at u heap (omega (arith, e)) ∙ r)

-- ---- the call

marked_is : (n : ℕ) → n ≤ 2 ^ 28 → signed_value (to_uint32_of (Whole (pos n))) ≡ Whole (pos n)
marked_is n h =
    let e : n % 2 ^ 32 ≡ n = omega (arith, h) in
    let g : signed_of 32 n ≡ pos n = grind (arith, h) in
    ap (λ k. Whole (signed_of 32 k)) e ∙ ap Whole g

module _ (m : Module) (k at to : ℕ) (e : at + 4 * k ≡ to) (small : to ≤ 2 ^ 28) (views : named (scope_of m zero_function) (name_of view_of_words) ≡ a_view Int32) (next : JsValue → Part (Unit {0})) where
  abbrev given : List JsValue
  given = Whole (pos at) ∷ Whole (pos to) ∷ []

  abbrev bound_to : List Binding
  bound_to = binding (spelled (argument 0)) (Whole (pos at)) ∷ binding (spelled (argument 1)) (Whole (pos to)) ∷ []

  locals_are : first_locals zero_function given ≡ Some bound_to
  locals_are =
      ap (λ v. Some (binding (spelled (argument 0)) v ∷ binding (spelled (argument 1)) (signed_value (to_uint32_of (Whole (pos to)))) ∷ [])) (marked_is at (omega (arith, e, small)))
      ∙ ap (λ v. Some (binding (spelled (argument 0)) (Whole (pos at)) ∷ binding (spelled (argument 1)) v ∷ [])) (marked_is to small)

  module _ (d n : ℕ) (p : Place) (le : n ≤ d) (units : p.units ≡ suc n) where
    abbrev ends : Completion → Part (Unit {0})
    ends d = and_then (function_end d) (λ a q. next a (record q { locals = p.locals }))

    abbrev behind : Completion → Part (Unit {0})
    behind x = unless_left_to x (exec_all_to (call_at_to m d) (scope_of m zero_function) d (stmts_in [])) ends

    abbrev called : Option (List Binding) → Run (Unit {0})
    called o =
        after (defined o (record p { units = n }))
        (λ locals. with_locals_to locals (λ next. exec_all_to (call_at_to m d) (scope_of m zero_function) d zero_function.body (λ d. and_then (function_end d) next)) next)

    run_is : (run : Run (Unit {0})) → run ≡ called (Some bound_to) → Takes (suc (turn_units k)) (zero_words k at p.heap) p (next Undef) run
    run_is run same = by (turned (call_at_to m d) (scope_of m zero_function) views d behind to small p k d at n p.heap e le)
      where
        by : Turned (call_at_to m d) (scope_of m zero_function) views d behind to small p k at n p.heap (called (Some bound_to)) → Takes (suc (turn_units k)) (zero_words k at p.heap) p (next Undef) run
        by (ended left many r) = through left (omega (arith, units, many)) (same ∙ r)
        by (stuck q few shown r) = short q (omega (arith, units, few)) shown (same ∙ r)

  pub zeros_are_put : (bound : ℕ) (p : Place) → p.units ≤ bound → Takes (suc (turn_units k)) (zero_words k at p.heap) p (next Undef) (call_at_to m bound zero_function given next p)
  zeros_are_put zero p le = short p (omega (arith, le)) refl refl
  zeros_are_put (suc d) p le = by p.units refl
    where
      paid_run : ℕ → Run (Unit {0})
      paid_run u = after (paid u p) (λ t. and_then (defined (first_locals zero_function given)) (λ locals. with_locals_to locals (λ next. exec_all_to (call_at_to m d) (scope_of m zero_function) d zero_function.body (λ d. and_then (function_end d) next)) next))

      by : (u : ℕ) → p.units ≡ u → Takes (suc (turn_units k)) (zero_words k at p.heap) p (next Undef) (paid_run p.units)
      by zero z = short p (omega (arith, z)) refl (ap paid_run z)
      by (suc n) z = run_is d n p (omega (arith, z, le)) z (paid_run p.units) (ap paid_run z ∙ ap (called d n p (omega (arith, z, le)) z) locals_are)
