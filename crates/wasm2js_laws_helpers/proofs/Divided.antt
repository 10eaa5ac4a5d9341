-- Division of words of 32 bits.
use Rattle.std.proofs.Common.{◌≡◌, ℕ, zero, suc, ◌/◌, ◌%◌, ◌^◌, ◌<◌, Bool, true, false, ◌&&◌, List, [], ◌∷◌, Some, None, Result, Ok, Err, ℤ, pos, negsuc, refl, sym, ap, ◌∙◌, subst, arith}
use Rattle.std.specs.Prelude.{if◌then◌else◌, ◌==◌, option_map, int_div, int_rem}
use Rattle.std.proofs.lemmas.Bool.Decides.{nat_tests}
use Rattle.std.proofs.lemmas.Int.{ints}
use Rattle.sem_words.specs.declared.word.TrapKind.{TrapKind}
use Rattle.sem_words.specs.declared.word.TrapKind.TheVariants.{ZeroDivisor, Overflow}
use Rattle.sem_words.specs.declared.js_value.JsValue.{JsValue}
use Rattle.sem_words.specs.declared.js_value.JsValue.TheVariants.{Whole, Bool as Boolean}
use Rattle.sem_words.specs.declared.js_value.JsOp.{JsOp}
use Rattle.sem_words.specs.declared.js_value.JsOp.TheVariants.{Div, Rem}
use Rattle.sem_words.specs.JsValues.{truthy_of}
use Rattle.sem_words.specs.JsOperators.{is_zero, are_alike, js_binary_of}
use Rattle.sem_words.specs.Words.{word_of, signed_of}
use Rattle.session_lang.specs.Observation.{trap_name}
use Rattle.asm_lang.specs.Modules.{Expr, Stmt, Function, Module, binary}
use Rattle.asm_lang_valid.specs.Scope.{a_foreign}
use Rattle.asm_lang_valid.specs.Typing.{Scope, named}
use Rattle.asm_lang_exec.specs.Runs as runs
use Rattle.asm_lang_exec.specs.Runs.{Binding, Place, Run, goes, stops, spent, wrong, after, and_then, defined, back_to}
use Rattle.asm_lang_exec.specs.Values.{Calls}
use Rattle.asm_lang_exec.specs.Meaning.{eval, Completion, normal, broken, continued, returned, unless_left, exec, function_end}
use Rattle.wasm2js_translation.specs.Names.{trap}
use Rattle.wasm2js_translation.specs.Words.{name_of, signed_number, trap_call}
use Rattle.wasm2js_laws_places.specs.Straight as straight
use Rattle.wasm2js_laws_places.specs.Places.{IsHeap}
use Rattle.wasm2js_laws_places.specs.Helped.{Helps}
use Rattle.wasm2js_laws_actions.specs.Reads.{Reads}
use Rattle.wasm2js_laws_actions.proofs.Numbers.{number_value}
use Rattle.wasm2js_laws_actions.proofs.Evaluated.{signed_read, converted, converted_then}
use Rattle.wasm2js_laws_helpers.specs.Answers.{checked}
use Rattle.wasm2js_laws_helpers.proofs.Called.{placed, words_after}
use Rattle.std.proofs.Math.Nat.{div-le_self, mod-le}
use Rattle.sem_words.specs.declared.js_value.JsOp.TheVariants.{And}
use Rattle.sem_words.specs.JsOperators.{quotient_of, remainder_of}
use Rattle.asm_lang.specs.Modules.{returns}
use Rattle.wasm2js_translation.specs.Words.{equal, number, compare, expr}
use Rattle.wasm2js_translation.specs.Helpers.{first, second, divisor_test, overflow_test}
use Rattle.wasm2js_laws_helpers.proofs.Quotients.{quotient_word, remainder_word, divides}
use Rattle.wasm2js_laws_helpers.proofs.Trapped.{Comes, nothing_wrong, equal_then, zero_divisor, overflows}
use Rattle.wasm2js_laws_helpers.proofs.Bodies.{run}

-- ---- results

pub signed_some : (y : ℕ) → y < 2 ^ 32 → (y == 0) ≡ false → is_zero (signed_of 32 y) ≡ false
signed_some y f h = grind (arith, ints, nat_tests)

pub plain_some : (y : ℕ) → (y == 0) ≡ false → is_zero (pos y) ≡ false
plain_some y h = h

small_word : (n : ℕ) → n < 2 ^ 32 → n ≡ n % 2 ^ 32
small_word n h = omega arith

abbrev Result_read : JsOp → Bool → (q x y : ℕ) → Type 0
Result_read op signed q x y = (p : Place) → x < 2 ^ 32 → y < 2 ^ 32 → (y == 0) ≡ false → Reads q p (defined (js_binary_of op (number_value signed x) (number_value signed y)) p)

pub quotient_found : (a b : ℤ) (q : ℕ) (p : Place) → is_zero b ≡ false → word_of 32 (int_div a b) ≡ q → Reads q p (defined (js_binary_of Div (Whole a) (Whole b)) p)
quotient_found a b q p some e = by (are_alike a b)
  where
    by : (alike : Bool) → Reads q p (defined (option_map (λ (p : ℤ × ℤ). quotient_of p.0 p.1) (if alike then Some (a, b) else None)) p)
    by true = (refl, sym (quotient_word a b (divides b some)) ∙ e)
    by false = tt

pub remainder_found : (a b : ℤ) (q : ℕ) (p : Place) → is_zero b ≡ false → word_of 32 (int_rem a b) ≡ q → Reads q p (defined (js_binary_of Rem (Whole a) (Whole b)) p)
remainder_found a b q p some e = by (are_alike a b)
  where
    by : (alike : Bool) → Reads q p (defined (option_map (λ (p : ℤ × ℤ). remainder_of p.0 p.1) (if alike then Some (a, b) else None)) p)
    by true = (refl, sym (remainder_word a b some) ∙ e)
    by false = tt

pub plain_quotient : (x y : ℕ) → x < 2 ^ 32 → (y == 0) ≡ false → word_of 32 (int_div (pos x) (pos y)) ≡ x / y
plain_quotient x zero f h = absurd (cc h)
plain_quotient x (suc y) f h = let e = div-le_self x (suc y) in sym (small_word (x / suc y) (omega (arith, e, f)))

pub plain_remainder : (x y : ℕ) → x < 2 ^ 32 → (y == 0) ≡ false → word_of 32 (int_rem (pos x) (pos y)) ≡ x % y
plain_remainder x zero f h = absurd (cc h)
plain_remainder x (suc y) f h = let e = mod-le x (suc y) in sym (small_word (x % suc y) (omega (arith, e, f)))

module _ (calls : Calls) (c : Scope) (turns : ℕ) (has : named c (name_of trap) ≡ a_foreign trap_name) where
  pub result_comes : (signed : Bool) (op : JsOp) (q x y : ℕ) (a b : Expr) (p : Place) → Result_read op signed q x y → (y == 0) ≡ false → Reads x p (eval false calls c a p) → Reads y p (eval false calls c b p)
      → Comes (Ok q) p (run calls c turns (returns (Some (signed_number (binary op (converted signed a) (converted signed b)))) ∷ []) p)
  result_comes signed op q x y a b p found some h k =
      returned_of (eval false calls c (signed_number (binary op (converted signed a) (converted signed b))) p)
      (signed_read calls c (binary op (converted signed a) (converted signed b)) q p
      (converted_then calls c signed a x p (Reads q p) (λ v. and_then (eval false calls c (converted signed b)) (λ w. defined (js_binary_of op v w))) tt h
      (λ f. converted_then calls c signed b y p (Reads q p) (λ w. defined (js_binary_of op (number_value signed x) w)) tt k (λ g. found p f g some))))
    where
      returned_of : (r : Run JsValue) → Reads q p r → Comes (Ok q) p (after (after r (λ v. runs.gives (returned v))) (λ d. unless_left d (run calls c turns [])))
      returned_of (goes v z) h = (h.1, h.0)
      returned_of (stops e z) h = absurd h
      returned_of (spent z) h = absurd h
      returned_of wrong h = tt

  -- after the test of the divisor
  pub tested : (y : ℕ) (r : Result ℕ TrapKind) (rest : List Stmt) (p : Place) → Reads y p (eval false calls c (expr second) p) → ((y == 0) ≡ false → Comes r p (run calls c turns rest p))
      → Comes (if y == 0 then Err ZeroDivisor else r) p (run calls c turns (divisor_test ∷ rest) p)
  tested y r rest p h f =
      equal_then calls c turns second y (pos 0) p (λ z. Comes (if y == 0 then Err ZeroDivisor else r) p (after z (λ d. unless_left d (run calls c turns rest))))
      (λ v. if truthy_of v then exec false calls c turns [] (trap_call 3) else runs.gives normal) (nothing_wrong (if y == 0 then Err ZeroDivisor else r) p) tt h (by (y == 0) refl)
    where
      by : (t : Bool) → (y == 0) ≡ t
          → Comes (if t then Err ZeroDivisor else r) p (after ((if t then exec false calls c turns [] (trap_call 3) else runs.gives normal) p) (λ d. unless_left d (run calls c turns rest)))
      by true e = zero_divisor calls c turns p rest has
      by false e = f e

  -- and after that of an overflow
  pub tested_overflow : (x y : ℕ) (r : Result ℕ TrapKind) (rest : List Stmt) (p : Place) → Reads x p (eval false calls c (expr first) p) → Reads y p (eval false calls c (expr second) p) → Comes r p (run calls c turns rest p)
      → Comes (if (x == 2147483648) && (y == 4294967295) then Err Overflow else r) p (run calls c turns (overflow_test ∷ rest) p)
  tested_overflow x y r rest p h k f =
      equal_then calls c turns first x (negsuc 2147483647) p P (λ v. and_then (eval false calls c (expr (compare true equal second (number (negsuc 0))))) (λ w. defined (js_binary_of And v w)))
      (nothing_wrong (if (x == 2147483648) && (y == 4294967295) then Err Overflow else r) p) tt h
      (equal_then calls c turns second y (negsuc 0) p P (λ w. defined (js_binary_of And (Boolean (x == 2147483648)) w))
      (nothing_wrong (if (x == 2147483648) && (y == 4294967295) then Err Overflow else r) p) tt k (by (x == 2147483648) (y == 4294967295)))
    where
      P : Run JsValue → Type 0
      P z =
          Comes (if (x == 2147483648) && (y == 4294967295) then Err Overflow else r) p
          (after (after z (λ v. if truthy_of v then exec false calls c turns [] (trap_call 4) else runs.gives normal)) (λ d. unless_left d (run calls c turns rest)))

      by : (s t : Bool)
          → Comes (if s && t then Err Overflow else r) p
          (after (after (defined (js_binary_of And (Boolean s) (Boolean t)) p) (λ v. if truthy_of v then exec false calls c turns [] (trap_call 4) else runs.gives normal)) (λ d. unless_left d (run calls c turns rest)))
      by true true = overflows calls c turns p rest has
      by true false = f
      by false true = f
      by false false = f

-- ---- calls

module _ (m : Module) (g : Function) (bytes : ℕ) where
  pub ended : (r : Result ℕ TrapKind) (p : Place) (n : ℕ) (locals : List Binding) → IsHeap bytes p.heap → p.units ≡ suc n → (o : Run Completion) → Comes r (placed p n locals) o
      → Helps bytes (checked r p.heap) 1 p (after (after o (λ d. function_end d)) (back_to p.locals))
  ended (Ok x) p n locals heap e (goes (returned v) q) k =
      subst (λ (q : Place). Helps bytes (straight.gives x None p.heap) 1 p (goes v (record q { locals = p.locals }))) (sym k.1) (
        k.0,
        record {
          has_words = words_after None p (record p { units = n }) refl refl;
          has_heap = refl;
          is_heap = heap;
          left = omega (arith, e);
          locals = refl;
          globals = refl;
          events = refl;
          replies = refl;
        },
      )
  ended (Ok x) p n locals heap e (goes normal q) k = absurd k
  ended (Ok x) p n locals heap e (goes (broken y) q) k = absurd k
  ended (Ok x) p n locals heap e (goes (continued y) q) k = absurd k
  ended (Ok x) p n locals heap e (stops y q) k = absurd k
  ended (Ok x) p n locals heap e (spent q) k = absurd k
  ended (Ok x) p n locals heap e wrong k = tt
  ended (Err t) p n locals heap e (stops y q) k = record { end = k.0; has_heap = ap (λ (q : Place). q.heap) k.1; events = ap (λ (q : Place). q.events) k.1 }
  ended (Err t) p n locals heap e (goes d q) k = absurd k
  ended (Err t) p n locals heap e (spent q) k = absurd k
  ended (Err t) p n locals heap e wrong k = tt
