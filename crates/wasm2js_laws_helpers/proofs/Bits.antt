-- The set bits of a word, by a loop over its bits.
use Rattle.std.proofs.Common.{◌≡◌, ℕ, zero, suc, ◌+◌, ◌*◌, ◌/◌, ◌%◌, ◌^◌, ◌<◌, ◌≤◌, Bool, true, false, not, List, [], ◌∷◌, None, pos, refl, sym, ap, ◌∙◌, subst, arith}
use Rattle.std.specs.Prelude.{if◌then◌else◌, ◌==◌, bit_and}
use Rattle.std.proofs.lemmas.Bool.Decides.{nat_tests}
use Rattle.std.proofs.lemmas.Nat.{and_mask}
use Rattle.std.proofs.Math.Nat.{pow-suc}
use Rattle.sem_words.specs.declared.js_value.JsValue.{JsValue}
use Rattle.sem_words.specs.declared.js_value.JsValue.TheVariants.{Whole}
use Rattle.sem_words.specs.JsValues.{to_uint32_of, truthy_of}
use Rattle.sem_words.specs.JsOperators.{signed_value, unsigned_value}
use Rattle.sem_words.specs.Words.{add_of, shr_u_of, set_bits_of}
use Rattle.asm_types.proofs.Sound.{to_uint32_lt}
use Rattle.asm_lang.specs.Modules.{Stmt, Module}
use Rattle.asm_lang_valid.specs.Typing.{Scope}
use Rattle.asm_lang_valid.specs.Typed.{scope_of}
use Rattle.asm_lang_exec.specs.Runs as runs
use Rattle.asm_lang_exec.specs.Runs.{Binding, binding, Place, Run, goes, stops, spent, wrong, Part, after, and_then, defined, paid, with_locals, back_to, write}
use Rattle.asm_lang_exec.specs.Values.{Calls}
use Rattle.asm_lang_exec.specs.Meaning.{eval, Completion, normal, broken, continued, returned, unless_left, loop_end, unless_ended, turns, exec, exec_all, first_locals, function_end, call_at}
use Rattle.wasm2js_translation.specs.Names.{spelled}
use Rattle.wasm2js_translation.specs.Words.{Term, read, conjunction, shift_right, both, int_of}
use Rattle.wasm2js_translation.specs.Pairs.{literal, plus}
use Rattle.wasm2js_translation.specs.Helpers.{sets, gives, argument, own, block_of, first, set_bits_function}
use Rattle.wasm2js_laws_places.specs.Straight as straight
use Rattle.wasm2js_laws_places.specs.Places.{word_at, names_in, IsHeap}
use Rattle.wasm2js_laws_places.specs.Helped.{Helps}
use Rattle.wasm2js_laws_actions.proofs.Numbers.{is_true}
use Rattle.wasm2js_laws_actions.proofs.Reading.{read_then}
use Rattle.wasm2js_laws_numbers.proofs.Counted.{set_bits_step}
use Rattle.wasm2js_laws_helpers.specs.Answers.{length_of}
use Rattle.wasm2js_laws_helpers.specs.Laws.{SetBitsHelp, FewUnits}
use Rattle.wasm2js_laws_helpers.proofs.Called.{Returns, placed, CallGives, call_helps, called}
use Rattle.wasm2js_laws_helpers.proofs.Computed.{int_read, given}
use Rattle.wasm2js_laws_helpers.proofs.Turned.{marked_word}
use Rattle.wasm2js_laws_helpers.proofs.Bodies.{run}

-- ---- numbers

none_set : (k : ℕ) → set_bits_of k 0 ≡ 0
unfolding set_bits_of
none_set zero = refl
none_set (suc k) = let e = none_set k in omega arith

none_long : (k : ℕ) → length_of k 0 ≡ 0
unfolding length_of
none_long zero = refl
none_long (suc k) = refl

one_longer : (k a : ℕ) → (a == 0) ≡ false → length_of (suc k) a ≡ suc (length_of k (a / 2))
unfolding length_of
one_longer k a h = ap (λ t. if t then 0 else suc (length_of k (a / 2))) h

lowest : (a : ℕ) → bit_and a 1 ≡ a % 2
lowest a = and_mask a 1

is_zero : (a : ℕ) → (a == 0) ≡ true → a ≡ 0
is_zero a h = grind (arith, nat_tests)

not_zero : (a : ℕ) → (a == 0) ≡ false → 0 < a
not_zero a h = grind (arith, nat_tests)

word_is : (j y s a b : ℕ) → b ≡ a % 2 → y ≡ add_of 32 s b → s + suc j ≤ 32 → y ≡ s + a % 2
word_is j y s a b e f g = omega arith

-- ---- what the loop comes to

-- a value of this word is returned after so many units, and nothing else has changed but locals
abbrev pub Pops : ℕ → (cost : ℕ) → Place → Run Completion → Type 0
Pops w cost p (goes (returned v) q) = (to_uint32_of v ≡ w) × (q.units + cost ≡ p.units) × (q.heap ≡ p.heap) × (q.events ≡ p.events) × (q.replies ≡ p.replies) × (q.globals ≡ p.globals)
Pops w cost p (goes normal q) = ⊥
Pops w cost p (goes (broken n) q) = ⊥
Pops w cost p (goes (continued n) q) = ⊥
Pops w cost p (stops e q) = ⊥
Pops w cost p (spent q) = (p.units < cost) × (q.events ≡ p.events)
Pops w cost p wrong = Unit {0}

one_more : (w x cost n : ℕ) (p : Place) (before later : List Binding) (r : Run Completion) → w ≡ x → Pops w cost (placed p n later) r → Pops x (suc cost) (placed p (suc n) before) r
one_more w x cost n p before later (goes (returned v) q) e k = let u = k.1 in (k.0 ∙ e, omega (arith, u), k.2, k.3, k.4, k.5)
one_more w x cost n p before later (goes normal q) e k = absurd k
one_more w x cost n p before later (goes (broken y) q) e k = absurd k
one_more w x cost n p before later (goes (continued y) q) e k = absurd k
one_more w x cost n p before later (stops y q) e k = absurd k
one_more w x cost n p before later (spent q) e k = let u = k.0 in (omega (arith, u), k.1)
one_more w x cost n p before later wrong e k = tt

no_more : (w x n : ℕ) (p : Place) (before : List Binding) (r : Run Completion) → w ≡ x → Returns w None (placed p n before) r → Pops x 1 (placed p (suc n) before) r
no_more w x n p before (goes (returned v) q) e k = let u = k.1.units in (k.0 ∙ e, omega (arith, u), k.1.heap, k.1.events, k.1.replies, k.1.globals)
no_more w x n p before (goes normal q) e k = absurd k
no_more w x n p before (goes (broken y) q) e k = absurd k
no_more w x n p before (goes (continued y) q) e k = absurd k
no_more w x n p before (stops y q) e k = absurd k
no_more w x n p before (spent q) e k = absurd k
no_more w x n p before wrong e k = tt

abbrev pub pop_locals : (a s : JsValue) → List Binding
pop_locals a s = binding (spelled (argument 0)) a ∷ binding (spelled (own 0)) s ∷ []

abbrev count : Term
count = plus (read (own 0)) (both conjunction first (literal 1))

abbrev turn : List Stmt
turn = sets (own 0) count ∷ sets (argument 0) (both shift_right first (literal 1)) ∷ []

abbrev last : List Stmt
last = gives (read (own 0)) ∷ []

module _ (calls : Calls) (c : Scope) (bound : ℕ) (p : Place) where
  abbrev loop : ℕ → Part Completion
  loop d = turns [] d (eval false calls c (int_of first)) (exec false calls c bound [] (block_of turn)) (runs.gives tt)

  abbrev whole_loop : ℕ → Part Completion
  whole_loop d = and_then (loop d) (λ d. unless_left d (run calls c bound last))

  abbrev Loops : (d j n : ℕ) (a s : JsValue) → Type 0
  Loops d j n a s = Pops (to_uint32_of s + set_bits_of j (to_uint32_of a)) (suc (length_of j (to_uint32_of a))) (placed p n (pop_locals a s)) (whole_loop d (placed p n (pop_locals a s)))

  ends : (d j n : ℕ) (a s : JsValue) → truthy_of a ≡ not (to_uint32_of a == 0) → truthy_of a ≡ false → Loops (suc d) j (suc n) a s
  ends d j n a s e is =
      let zero_word : to_uint32_of a ≡ 0 = grind (arith, nat_tests) in
      let none = none_set j in
      let w : to_uint32_of s ≡ to_uint32_of s + set_bits_of j 0 = omega arith in
      rw is (rw zero_word (rw (none_long j)
      (no_more (to_uint32_of s) (to_uint32_of s + set_bits_of j 0) n p (pop_locals a s) (run calls c bound last (placed p n (pop_locals a s))) w
      (given calls c (word_at (placed p n (pop_locals a s))) (placed p n (pop_locals a s)) bound (read (own 0)) [] (refl, refl)))))

  shifted_truth : (a : ℕ) → a < 2 ^ 32 → truthy_of (unsigned_value (shr_u_of 32 a 1)) ≡ not (to_uint32_of (unsigned_value (shr_u_of 32 a 1)) == 0)
  shifted_truth a h = let e : a / 2 % 2 ^ 32 ≡ a / 2 = omega arith in ap (λ x. not (x == 0)) (sym e)

  half : (a : ℕ) → a < 2 ^ 32 → to_uint32_of (unsigned_value (shr_u_of 32 a 1)) ≡ a / 2
  half a h = omega arith

  -- one turn more, where the later ones are known
  goes_on : (d j n : ℕ) (a s : JsValue) → truthy_of a ≡ not (to_uint32_of a == 0) → truthy_of a ≡ true → to_uint32_of a < 2 ^ suc j → to_uint32_of s + suc j ≤ 32
      → ((b t : JsValue) → to_uint32_of b < 2 ^ j → to_uint32_of t + j ≤ 32 → truthy_of b ≡ not (to_uint32_of b == 0) → Loops d j n b t) → Loops (suc d) (suc j) (suc n) a s
  goes_on d j n a s e is few room later =
      rw is
      (read_then P x here (eval false calls c (int_of count) here) (λ v. write (spelled (own 0)) v) tt
      (int_read calls c (word_at here) here count ((refl, refl), (((refl, refl), tt), tt))) step)
    where
      here : Place
      here = placed p n (pop_locals a s)

      x : ℕ
      x = add_of 32 (to_uint32_of s) (bit_and (to_uint32_of a) 1)

      P : Run JsValue → Type 0
      P r =
          Pops (to_uint32_of s + set_bits_of (suc j) (to_uint32_of a)) (suc (length_of (suc j) (to_uint32_of a))) (placed p (suc n) (pop_locals a s))
          (after (after (after (after r (λ v. runs.gives normal)) (λ d. unless_left d (run calls c bound (sets (argument 0) (both shift_right first (literal 1)) ∷ []))))
          (λ e. unless_ended (loop_end [] e) (and_then (runs.gives {A = Unit {0}} tt) (λ _. loop d)))) (λ d. unless_left d (run calls c bound last)))

      b : JsValue
      b = unsigned_value (shr_u_of 32 (to_uint32_of a) 1)

      step : (v : JsValue) → to_uint32_of v ≡ x → P (write (spelled (own 0)) v here)
      step v has =
          let below = to_uint32_lt a in
          let low = lowest (to_uint32_of a) in
          let halved = half (to_uint32_of a) below in
          let bits = set_bits_step j (to_uint32_of a) in
          let power : 2 ^ suc j ≡ 2 ^ j * 2 = pow-suc 2 j in
          let nonzero : (to_uint32_of a == 0) ≡ false = grind (arith, nat_tests) in
          let long = one_longer j (to_uint32_of a) nonzero in
          let word : to_uint32_of v ≡ to_uint32_of s + to_uint32_of a % 2 = word_is j (to_uint32_of v) (to_uint32_of s) (to_uint32_of a) (bit_and (to_uint32_of a) 1) low has room in
          let k : Loops d j n b v = later b v (omega (arith, halved, few, power)) (omega (arith, word, room)) (shifted_truth (to_uint32_of a) below) in
          let moved : Pops (to_uint32_of v + set_bits_of j (to_uint32_of a / 2)) (suc (length_of j (to_uint32_of a / 2))) (placed p n (pop_locals b v)) (whole_loop d (placed p n (pop_locals b v))) =
          subst (λ y. Pops (to_uint32_of v + set_bits_of j y) (suc (length_of j y)) (placed p n (pop_locals b v)) (whole_loop d (placed p n (pop_locals b v)))) halved k in
          subst (λ y. Pops (to_uint32_of s + set_bits_of (suc j) (to_uint32_of a)) (suc y) (placed p (suc n) (pop_locals a s)) (whole_loop d (placed p n (pop_locals b v)))) (sym long)
          (one_more (to_uint32_of v + set_bits_of j (to_uint32_of a / 2)) (to_uint32_of s + set_bits_of (suc j) (to_uint32_of a)) (suc (length_of j (to_uint32_of a / 2))) n p (pop_locals a s) (pop_locals b v)
          (whole_loop d (placed p n (pop_locals b v))) (omega (arith, word, bits)) moved)

  looped : (d j n : ℕ) (a s : JsValue) → n ≤ d → to_uint32_of a < 2 ^ j → to_uint32_of s + j ≤ 32 → truthy_of a ≡ not (to_uint32_of a == 0) → Loops d j n a s
  looped zero j n a s le few room e = (omega arith, refl)
  looped (suc d) j zero a s le few room e = (omega arith, refl)
  looped (suc d) zero (suc n) a s le few room e = ends d zero n a s e (let z : to_uint32_of a ≡ 0 = omega arith in grind (arith, nat_tests))
  looped (suc d) (suc j) (suc n) a s le few room e = by (truthy_of a) refl (λ b t f r g. looped d j n b t (omega arith) f r g)
    where
      by : (t : Bool) → truthy_of a ≡ t → ((b t : JsValue) → to_uint32_of b < 2 ^ j → to_uint32_of t + j ≤ 32 → truthy_of b ≡ not (to_uint32_of b == 0) → Loops d j n b t) → Loops (suc d) (suc j) (suc n) a s
      by true is later = goes_on d j n a s e is few room later
      by false is later = ends d (suc j) n a s e is

-- ---- the call

module _ (m : Module) (v : JsValue) where
  abbrev pub result : ℕ
  result = set_bits_of 32 (to_uint32_of v)

  abbrev pub turns_made : ℕ
  turns_made = suc (length_of 32 (to_uint32_of v))

  ended : (p : Place) (n : ℕ) (locals : List Binding) → p.units ≡ suc n → (r : Run Completion) → Pops result turns_made (placed p n locals) r
      → CallGives result None (suc turns_made) p (after (after r (λ d. function_end d)) (back_to p.locals))
  ended p n locals e (goes (returned y) q) k = (k.0, record { left = let u = k.1 in omega (arith, u, e); heap = k.2; events = k.3; replies = k.4; locals = refl; globals = k.5 })
  ended p n locals e (goes normal q) k = absurd k
  ended p n locals e (goes (broken x) q) k = absurd k
  ended p n locals e (goes (continued x) q) k = absurd k
  ended p n locals e (stops x q) k = absurd k
  ended p n locals e (spent q) k = let u = k.0 in record { few = omega (arith, u, e); events = k.1 }
  ended p n locals e wrong k = tt

  pub body : (d n : ℕ) (p : Place) → n ≤ d → Pops result turns_made (placed p n (pop_locals (signed_value (to_uint32_of v)) (Whole (pos 0))))
      (exec_all false (call_at false m d) (scope_of m set_bits_function) d set_bits_function.body (placed p n (pop_locals (signed_value (to_uint32_of v)) (Whole (pos 0)))))
  body d n p le =
      let a = signed_value (to_uint32_of v) in
      let same = marked_word v in
      let low = to_uint32_lt v in
      let e : truthy_of a ≡ not (to_uint32_of a == 0) = is_true (to_uint32_of v) low ∙ ap (λ x. not (x == 0)) (sym same) in
      subst (λ x. Pops (set_bits_of 32 x) (suc (length_of 32 x)) (placed p n (pop_locals a (Whole (pos 0)))) (whole_loop (call_at false m d) (scope_of m set_bits_function) d p d (placed p n (pop_locals a (Whole (pos 0)))))) same
      (subst (λ x. Pops x (suc (length_of 32 (to_uint32_of a))) (placed p n (pop_locals a (Whole (pos 0)))) (whole_loop (call_at false m d) (scope_of m set_bits_function) d p d (placed p n (pop_locals a (Whole (pos 0))))))
      (zero_add (set_bits_of 32 (to_uint32_of a)))
      (looped (call_at false m d) (scope_of m set_bits_function) d p d 32 n a (Whole (pos 0)) le (to_uint32_lt a) (omega arith) e))
    where
      zero_add : (x : ℕ) → 0 + x ≡ x
      zero_add x = omega arith

  call_pops : (bound : ℕ) (p : Place) → p.units ≤ bound → CallGives result None (2 + length_of 32 (to_uint32_of v)) p (call_at false m bound set_bits_function (v ∷ []) p)
  call_pops bound p le = subst (λ cost. CallGives result None cost p (call_at false m bound set_bits_function (v ∷ []) p)) (two (length_of 32 (to_uint32_of v))) (at bound le)
    where
      two : (x : ℕ) → suc (suc x) ≡ 2 + x
      two x = omega arith

      by : (d u : ℕ) → p.units ≡ u → p.units ≤ suc d
          → CallGives result None (suc turns_made) p
          (after (paid u p) (λ _. and_then (defined (first_locals set_bits_function (v ∷ []))) (λ locals. with_locals locals (and_then (exec_all false (call_at false m d) (scope_of m set_bits_function) d set_bits_function.body) (λ d. function_end d)))))
      by d zero e le = record { few = omega arith; events = refl }
      by d (suc n) e le =
          ended p n (pop_locals (signed_value (to_uint32_of v)) (Whole (pos 0))) e
          (exec_all false (call_at false m d) (scope_of m set_bits_function) d set_bits_function.body (placed p n (pop_locals (signed_value (to_uint32_of v)) (Whole (pos 0))))) (body d n p (omega arith))

      at : (bound : ℕ) → p.units ≤ bound → CallGives result None (suc turns_made) p (call_at false m bound set_bits_function (v ∷ []) p)
      at zero le = record { few = omega arith; events = refl }
      at (suc d) le = by d p.units refl le

pub set_bits_give : (m : Module) (bound : ℕ) (v : JsValue) (p : Place) → p.units ≤ bound
    → CallGives (set_bits_of 32 (to_uint32_of v)) None (2 + length_of 32 (to_uint32_of v)) p (call_at false m bound set_bits_function (v ∷ []) p)
set_bits_give m bound v p le = call_pops m v bound p le

pub set_bits_help : SetBitsHelp
set_bits_help m bound bytes [] p heap le = called m set_bits_function bytes [] 0 None bound p heap le (λ d n locals is. absurd (cc is))
set_bits_help m bound bytes (v ∷ []) p heap le =
    call_helps bytes (set_bits_of 32 (to_uint32_of v)) None (2 + length_of 32 (to_uint32_of v)) p heap (call_at false m bound set_bits_function (v ∷ []) p) (set_bits_give m bound v p le)
set_bits_help m bound bytes (v ∷ w ∷ more) p heap le = called m set_bits_function bytes (v ∷ w ∷ more) 0 None bound p heap le (λ d n locals is. absurd (cc is))

long_at_most : (k a : ℕ) → length_of k a ≤ k
unfolding length_of
long_at_most zero a = omega arith
long_at_most (suc k) a = by (a == 0) (long_at_most k (a / 2))
  where
    by : (t : Bool) → length_of k (a / 2) ≤ k → (if t then 0 else suc (length_of k (a / 2))) ≤ suc k
    by true e = omega arith
    by false e = omega arith

pub few_units : FewUnits
few_units a = long_at_most 32 a
