-- Calls of the helpers that write words byte by byte.
use Rattle.std.proofs.Common.{◌≡◌, ℕ, zero, suc, ◌≤◌, Bool, true, false, List, [], ◌∷◌, Option, Some, None, refl, sym, ap, ◌∙◌, subst, arith}
use Rattle.sem_words.specs.declared.js_value.JsValue.{JsValue}
use Rattle.sem_words.specs.JsValues.{to_uint32_of}
use Rattle.sem_words.specs.JsOperators.{signed_value}
use Rattle.sem_words.specs.Words.{add_of, shr_u_of}
use Rattle.heap_lang.specs.declared.kind.ViewKind.TheVariants.{U8}
use Rattle.asm_lang.specs.Modules.{Function, Module}
use Rattle.asm_lang_valid.specs.Typing.{Scope}
use Rattle.asm_lang_valid.specs.Typed.{scope_of}
use Rattle.asm_lang_exec.specs.Runs.{Binding, Place, Run, goes, stops, spent, wrong, after, and_then, defined, paid, value_in, with_locals, back_to}
use Rattle.asm_lang_exec.specs.Meaning.{Completion, normal, broken, continued, returned, exec_all, first_locals, function_end, call_at}
use Rattle.wasm2js_translation.specs.Names.{Name, spelled}
use Rattle.wasm2js_translation.specs.Words.{Term, shift_right, both}
use Rattle.wasm2js_translation.specs.Pairs.{literal}
use Rattle.wasm2js_translation.specs.Actions.{place}
use Rattle.wasm2js_translation.specs.Helpers.{argument, second, third, write_at, write_word}
use Rattle.wasm2js_laws_places.specs.Straight.{index_at, gives}
use Rattle.wasm2js_laws_places.specs.Places.{is_own, variables, word_bound, word_at, IsHeap}
use Rattle.wasm2js_laws_places.specs.Helped.{IsOn, Helps}
use Rattle.wasm2js_laws_actions.proofs.Doing.{heap_stored}
use Rattle.wasm2js_laws_helpers.proofs.Called.{placed, called}
use Rattle.wasm2js_laws_helpers.proofs.Turned.{marked_word, the_locals, three_locals}
use Rattle.wasm2js_laws_helpers.proofs.Zeros.{two_locals}
use Rattle.wasm2js_laws_helpers.proofs.Bodies.{run}
use Rattle.wasm2js_laws_helpers.specs.Access.Laws.{HasBytes}
use Rattle.wasm2js_laws_preservation.specs.StoresAnswers.{with_byte, with_bytes, with_low_word, with_high_word, stored_word, stored_words}
use Rattle.wasm2js_laws_preservation.specs.StoresLaws.{store_32_function, store_64_function, StoreWordHelps, StoreWordsHelp}
use Rattle.wasm2js_laws_preservation.proofs.StoresSteps.{byte_then}

-- a body ends with this heap, and nothing else has changed
abbrev pub Writes : List ℕ → Place → Run Completion → Type 0
Writes heap p (goes normal q) = q ≡ record p { heap = heap }
Writes heap p (goes (returned v) q) = ⊥
Writes heap p (goes (broken n) q) = ⊥
Writes heap p (goes (continued n) q) = ⊥
Writes heap p (stops e q) = ⊥
Writes heap p (spent q) = ⊥
Writes heap p wrong = Unit {0}

pub heap_on : (bytes n : ℕ) (heap : List ℕ) (p : Place) → IsHeap bytes heap → p.units ≡ suc n → IsOn bytes (word_at p) heap 1 p (record p { units = n; heap = heap })
heap_on bytes n heap p h e = record {
  has_words = λ m. by m (is_own m);
  has_heap = refl;
  is_heap = h;
  left = omega (arith, e);
  locals = refl;
  globals = refl;
  events = refl;
  replies = refl;
}
  where
    by : (m : Name) (b : Bool) → word_bound (value_in (variables b (record p { units = n; heap = heap })) (spelled m)) ≡ word_bound (value_in (variables b p) (spelled m))
    by m true = refl
    by m false = refl

module _ (m : Module) (g : Function) (bytes : ℕ) (vs : List JsValue) (heap : List ℕ) where
  ended : (p : Place) (n : ℕ) (locals : List Binding) → IsHeap bytes heap → p.units ≡ suc n → (r : Run Completion) → Writes heap (placed p n locals) r
      → Helps bytes (gives 0 None heap) 1 p (after (after r (λ d. function_end d)) (back_to p.locals))
  ended p n locals h e (goes normal q) k = (refl, subst (λ (q : Place). IsOn bytes (word_at p) heap 1 p (record q { locals = p.locals })) (sym k) (heap_on bytes n heap p h e))
  ended p n locals h e (goes (returned v) q) k = absurd k
  ended p n locals h e (goes (broken x) q) k = absurd k
  ended p n locals h e (goes (continued x) q) k = absurd k
  ended p n locals h e (stops x q) k = absurd k
  ended p n locals h e (spent q) k = absurd k
  ended p n locals h e wrong k = tt

  -- a call of a function that writes and gives nothing
  pub called_writing : (bound : ℕ) (p : Place) → IsHeap bytes heap → p.units ≤ bound
      → ((d n : ℕ) (locals : List Binding) → first_locals g vs ≡ Some locals → Writes heap (placed p n locals) (exec_all false (call_at false m d) (scope_of m g) d g.body (placed p n locals)))
      → Helps bytes (gives 0 None heap) 1 p (call_at false m bound g vs p)
  called_writing zero p h le body = record { few = omega arith; events = refl }
  called_writing (suc d) p h le body = by p.units refl
    where
      with_them : (n : ℕ) → p.units ≡ suc n → (o : Option (List Binding)) → first_locals g vs ≡ o
          → Helps bytes (gives 0 None heap) 1 p (after (defined o (record p { units = n })) (λ locals. with_locals locals (and_then (exec_all false (call_at false m d) (scope_of m g) d g.body) (λ d. function_end d))))
      with_them n e None is = tt
      with_them n e (Some locals) is = ended p n locals h e (exec_all false (call_at false m d) (scope_of m g) d g.body (placed p n locals)) (body d n locals is)

      by : (u : ℕ) → p.units ≡ u
          → Helps bytes (gives 0 None heap) 1 p
          (after (paid u p) (λ _. and_then (defined (first_locals g vs)) (λ locals. with_locals locals (and_then (exec_all false (call_at false m d) (scope_of m g) d g.body) (λ d. function_end d)))))
      by zero e = record { few = omega (arith, e); events = refl }
      by (suc n) e = with_them n e (first_locals g vs) refl

-- ---- four bytes

byte_kept : (bytes at word : ℕ) (heap : List ℕ) → IsHeap bytes heap → IsHeap bytes (with_byte at word heap)
byte_kept bytes at word heap h = heap_stored bytes U8 (index_at 0 at) word heap h

four_kept : (bytes a b c d word : ℕ) (heap : List ℕ) → IsHeap bytes heap → IsHeap bytes (with_bytes a b c d word heap)
four_kept bytes a b c d word heap h =
    byte_kept bytes d (shr_u_of 32 word 24) (with_byte c (shr_u_of 32 word 16) (with_byte b (shr_u_of 32 word 8) (with_byte a word heap)))
    (byte_kept bytes c (shr_u_of 32 word 16) (with_byte b (shr_u_of 32 word 8) (with_byte a word heap))
    (byte_kept bytes b (shr_u_of 32 word 8) (with_byte a word heap) (byte_kept bytes a word heap h)))

low_kept : (bytes at word : ℕ) (heap : List ℕ) → IsHeap bytes heap → IsHeap bytes (with_low_word at word heap)
low_kept bytes at word heap h = four_kept bytes at (add_of 32 at 1) (add_of 32 at 2) (add_of 32 at 3) word heap h

high_kept : (bytes at word : ℕ) (heap : List ℕ) → IsHeap bytes heap → IsHeap bytes (with_high_word at word heap)
high_kept bytes at word heap h = four_kept bytes (add_of 32 at 4) (add_of 32 at 5) (add_of 32 at 6) (add_of 32 at 7) word heap h

-- after one, two and three of them
abbrev one_byte : (at word : ℕ) (heap : List ℕ) → List ℕ
one_byte at word heap = with_byte at word heap

abbrev two_bytes : (at word : ℕ) (heap : List ℕ) → List ℕ
two_bytes at word heap = with_byte (add_of 32 at 1) (shr_u_of 32 word 8) (one_byte at word heap)

abbrev three_bytes : (at word : ℕ) (heap : List ℕ) → List ℕ
three_bytes at word heap = with_byte (add_of 32 at 2) (shr_u_of 32 word 16) (two_bytes at word heap)

-- the argument as the body finds it
abbrev marked : JsValue → JsValue
marked v = signed_value (to_uint32_of v)

module _ (m : Module) (has : HasBytes m) (v w : JsValue) (p : Place) (d n : ℕ) where
  abbrev here : Place
  here = placed p n (two_locals (marked v) (marked w))

  abbrev c : Scope
  c = scope_of m store_32_function

  abbrev at : ℕ
  at = to_uint32_of (marked v)

  abbrev x : ℕ
  x = to_uint32_of (marked w)

  abbrev Goal : Run Completion → Type 0
  Goal r = Writes (with_low_word at x p.heap) here r

  abbrev shifted : ℕ → Term
  shifted n = both shift_right second (literal n)

  word_body : Goal (exec_all false (call_at false m d) c d store_32_function.body here)
  word_body =
      byte_then (call_at false m d) c d (word_at here) (place (argument 0) 0) second (write_at 1 (shifted 8) ∷ write_at 2 (shifted 16) ∷ write_at 3 (shifted 24) ∷ []) here Goal tt has (refl, refl) (refl, refl)
      (byte_then (call_at false m d) c d (word_at here) (place (argument 0) 1) (shifted 8) (write_at 2 (shifted 16) ∷ write_at 3 (shifted 24) ∷ []) (record here { heap = one_byte at x p.heap }) Goal tt has ((refl, refl), (tt, tt)) ((refl, refl), tt)
      (byte_then (call_at false m d) c d (word_at here) (place (argument 0) 2) (shifted 16) (write_at 3 (shifted 24) ∷ []) (record here { heap = two_bytes at x p.heap }) Goal tt has ((refl, refl), (tt, tt)) ((refl, refl), tt)
      (byte_then (call_at false m d) c d (word_at here) (place (argument 0) 3) (shifted 24) [] (record here { heap = three_bytes at x p.heap }) Goal tt has ((refl, refl), (tt, tt)) ((refl, refl), tt) refl)))

module _ (m : Module) (has : HasBytes m) (v w z : JsValue) (p : Place) (d n : ℕ) where
  abbrev there : Place
  there = placed p n (three_locals (marked v) (marked w) (marked z))

  abbrev s : Scope
  s = scope_of m store_64_function

  abbrev GoalTwo : Run Completion → Type 0
  GoalTwo r = Writes (with_high_word (to_uint32_of (marked v)) (to_uint32_of (marked z)) (with_low_word (to_uint32_of (marked v)) (to_uint32_of (marked w)) p.heap)) there r

  abbrev low_shifted : ℕ → Term
  low_shifted n = both shift_right second (literal n)

  abbrev high_shifted : ℕ → Term
  high_shifted n = both shift_right third (literal n)

  upper_body : (heap : List ℕ) → heap ≡ with_low_word (to_uint32_of (marked v)) (to_uint32_of (marked w)) p.heap
      → GoalTwo (run (call_at false m d) s d (write_word 4 third) (record there { heap = heap }))
  upper_body heap e =
      byte_then (call_at false m d) s d (word_at there) (place (argument 0) 4) third (write_at 5 (high_shifted 8) ∷ write_at 6 (high_shifted 16) ∷ write_at 7 (high_shifted 24) ∷ []) (record there { heap = heap }) GoalTwo tt has ((refl, refl), (tt, tt)) (refl, refl)
      (byte_then (call_at false m d) s d (word_at there) (place (argument 0) 5) (high_shifted 8) (write_at 6 (high_shifted 16) ∷ write_at 7 (high_shifted 24) ∷ []) (record there { heap = with_byte (add_of 32 (to_uint32_of (marked v)) 4) (to_uint32_of (marked z)) heap }) GoalTwo tt has ((refl, refl), (tt, tt)) ((refl, refl), tt)
      (byte_then (call_at false m d) s d (word_at there) (place (argument 0) 6) (high_shifted 16) (write_at 7 (high_shifted 24) ∷ []) (record there { heap = with_byte (add_of 32 (to_uint32_of (marked v)) 5) (shr_u_of 32 (to_uint32_of (marked z)) 8) (with_byte (add_of 32 (to_uint32_of (marked v)) 4) (to_uint32_of (marked z)) heap) }) GoalTwo tt has ((refl, refl), (tt, tt)) ((refl, refl), tt)
      (byte_then (call_at false m d) s d (word_at there) (place (argument 0) 7) (high_shifted 24) [] (record there { heap = with_byte (add_of 32 (to_uint32_of (marked v)) 6) (shr_u_of 32 (to_uint32_of (marked z)) 16) (with_byte (add_of 32 (to_uint32_of (marked v)) 5) (shr_u_of 32 (to_uint32_of (marked z)) 8) (with_byte (add_of 32 (to_uint32_of (marked v)) 4) (to_uint32_of (marked z)) heap)) }) GoalTwo tt has ((refl, refl), (tt, tt)) ((refl, refl), tt)
      (ap (λ h. record there { heap = with_high_word (to_uint32_of (marked v)) (to_uint32_of (marked z)) h }) e))))

  words_body : GoalTwo (exec_all false (call_at false m d) s d store_64_function.body there)
  words_body =
      byte_then (call_at false m d) s d (word_at there) (place (argument 0) 0) second (write_at 1 (low_shifted 8) ∷ write_at 2 (low_shifted 16) ∷ write_at 3 (low_shifted 24) ∷ write_word 4 third) there GoalTwo tt has (refl, refl) (refl, refl)
      (byte_then (call_at false m d) s d (word_at there) (place (argument 0) 1) (low_shifted 8) (write_at 2 (low_shifted 16) ∷ write_at 3 (low_shifted 24) ∷ write_word 4 third) (record there { heap = one_byte (to_uint32_of (marked v)) (to_uint32_of (marked w)) p.heap }) GoalTwo tt has ((refl, refl), (tt, tt)) ((refl, refl), tt)
      (byte_then (call_at false m d) s d (word_at there) (place (argument 0) 2) (low_shifted 16) (write_at 3 (low_shifted 24) ∷ write_word 4 third) (record there { heap = two_bytes (to_uint32_of (marked v)) (to_uint32_of (marked w)) p.heap }) GoalTwo tt has ((refl, refl), (tt, tt)) ((refl, refl), tt)
      (byte_then (call_at false m d) s d (word_at there) (place (argument 0) 3) (low_shifted 24) (write_word 4 third) (record there { heap = three_bytes (to_uint32_of (marked v)) (to_uint32_of (marked w)) p.heap }) GoalTwo tt has ((refl, refl), (tt, tt)) ((refl, refl), tt)
      (upper_body (with_low_word (to_uint32_of (marked v)) (to_uint32_of (marked w)) p.heap) refl))))

-- ---- calls

abbrev two_of : List JsValue → Option (List Binding)
two_of (v ∷ w ∷ []) = Some (two_locals (marked v) (marked w))
two_of _ = None

first_two : (vs : List JsValue) → first_locals store_32_function vs ≡ two_of vs
first_two [] = refl
first_two (v ∷ []) = refl
first_two (v ∷ w ∷ []) = refl
first_two (v ∷ w ∷ z ∷ more) = refl

abbrev three_of : List JsValue → Option (List Binding)
three_of (v ∷ w ∷ z ∷ []) = Some (three_locals (marked v) (marked w) (marked z))
three_of _ = None

first_three : (vs : List JsValue) → first_locals store_64_function vs ≡ three_of vs
first_three [] = refl
first_three (v ∷ []) = refl
first_three (v ∷ w ∷ []) = refl
first_three (v ∷ w ∷ z ∷ []) = refl
first_three (v ∷ w ∷ z ∷ y ∷ more) = refl

module _ (m : Module) (has : HasBytes m) (bound bytes : ℕ) where
  no_word : (vs : List JsValue) (p : Place) → two_of vs ≡ None → IsHeap bytes p.heap → p.units ≤ bound
      → Helps bytes (gives 0 None p.heap) 1 p (call_at false m bound store_32_function vs p)
  no_word vs p none heap le = called m store_32_function bytes vs 0 None bound p heap le (λ d n locals is. let e = first_two vs in absurd (cc (is, e, none)))

  no_words : (vs : List JsValue) (p : Place) → three_of vs ≡ None → IsHeap bytes p.heap → p.units ≤ bound
      → Helps bytes (gives 0 None p.heap) 1 p (call_at false m bound store_64_function vs p)
  no_words vs p none heap le = called m store_64_function bytes vs 0 None bound p heap le (λ d n locals is. let e = first_three vs in absurd (cc (is, e, none)))

  one_word : (v w : JsValue) (p : Place) → IsHeap bytes p.heap → p.units ≤ bound
      → Helps bytes (stored_word (to_uint32_of v ∷ to_uint32_of w ∷ []) p.heap) 1 p (call_at false m bound store_32_function (v ∷ w ∷ []) p)
  one_word v w p heap le =
      let same = ap (λ a. with_low_word a (to_uint32_of (marked w)) p.heap) (marked_word v) ∙ ap (λ x. with_low_word (to_uint32_of v) x p.heap) (marked_word w) in
      called_writing m store_32_function bytes (v ∷ w ∷ []) (with_low_word (to_uint32_of v) (to_uint32_of w) p.heap) bound p (low_kept bytes (to_uint32_of v) (to_uint32_of w) p.heap heap) le
      (λ d n locals is. subst (λ locals. Writes (with_low_word (to_uint32_of v) (to_uint32_of w) p.heap) (placed p n locals) (exec_all false (call_at false m d) (scope_of m store_32_function) d store_32_function.body (placed p n locals)))
      (sym (the_locals locals (two_locals (marked v) (marked w)) (sym is ∙ first_two (v ∷ w ∷ []))))
      (subst (λ h. Writes h (here m has v w p d n) (exec_all false (call_at false m d) (scope_of m store_32_function) d store_32_function.body (here m has v w p d n))) same (word_body m has v w p d n)))

  both_words : (v w z : JsValue) (p : Place) → IsHeap bytes p.heap → p.units ≤ bound
      → Helps bytes (stored_words (to_uint32_of v ∷ to_uint32_of w ∷ to_uint32_of z ∷ []) p.heap) 1 p (call_at false m bound store_64_function (v ∷ w ∷ z ∷ []) p)
  both_words v w z p heap le =
      let all : ℕ → ℕ → ℕ → List ℕ = λ a x y. with_high_word a y (with_low_word a x p.heap) in
      let same = ap (λ a. all a (to_uint32_of (marked w)) (to_uint32_of (marked z))) (marked_word v) ∙ ap (λ x. all (to_uint32_of v) x (to_uint32_of (marked z))) (marked_word w) ∙ ap (λ y. all (to_uint32_of v) (to_uint32_of w) y) (marked_word z) in
      called_writing m store_64_function bytes (v ∷ w ∷ z ∷ []) (all (to_uint32_of v) (to_uint32_of w) (to_uint32_of z)) bound p (high_kept bytes (to_uint32_of v) (to_uint32_of z) (with_low_word (to_uint32_of v) (to_uint32_of w) p.heap) (low_kept bytes (to_uint32_of v) (to_uint32_of w) p.heap heap)) le
      (λ d n locals is. subst (λ locals. Writes (all (to_uint32_of v) (to_uint32_of w) (to_uint32_of z)) (placed p n locals) (exec_all false (call_at false m d) (scope_of m store_64_function) d store_64_function.body (placed p n locals)))
      (sym (the_locals locals (three_locals (marked v) (marked w) (marked z)) (sym is ∙ first_three (v ∷ w ∷ z ∷ []))))
      (subst (λ h. Writes h (there m has v w z p d n) (exec_all false (call_at false m d) (scope_of m store_64_function) d store_64_function.body (there m has v w z p d n))) same (words_body m has v w z p d n)))

pub store_word_helps : StoreWordHelps
store_word_helps m has bound bytes [] p heap le = no_word m has bound bytes [] p refl heap le
store_word_helps m has bound bytes (v ∷ []) p heap le = no_word m has bound bytes (v ∷ []) p refl heap le
store_word_helps m has bound bytes (v ∷ w ∷ []) p heap le = one_word m has bound bytes v w p heap le
store_word_helps m has bound bytes (v ∷ w ∷ z ∷ more) p heap le = no_word m has bound bytes (v ∷ w ∷ z ∷ more) p refl heap le

pub store_words_help : StoreWordsHelp
store_words_help m has bound bytes [] p heap le = no_words m has bound bytes [] p refl heap le
store_words_help m has bound bytes (v ∷ []) p heap le = no_words m has bound bytes (v ∷ []) p refl heap le
store_words_help m has bound bytes (v ∷ w ∷ []) p heap le = no_words m has bound bytes (v ∷ w ∷ []) p refl heap le
store_words_help m has bound bytes (v ∷ w ∷ z ∷ []) p heap le = both_words m has bound bytes v w z p heap le
store_words_help m has bound bytes (v ∷ w ∷ z ∷ y ∷ more) p heap le = no_words m has bound bytes (v ∷ w ∷ z ∷ y ∷ more) p refl heap le
