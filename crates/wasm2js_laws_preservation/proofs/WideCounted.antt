-- Counts of bits.
use Rattle.std.proofs.Common.{◌≡◌, ℕ, ◌+◌, ◌<◌, ◌≤◌, true, List, [], ◌∷◌, ◌++◌, length, Ok, refl, sym, ap, ◌∙◌, subst, arith}
use Rattle.std.specs.Prelude.{◌*◌, ◌^◌, ◌%◌}
use Rattle.sem_words.specs.declared.word.Un.{Un}
use Rattle.sem_words.specs.declared.word.Un.TheVariants.{Clz, Ctz, Popcnt}
use Rattle.sem_words.specs.Words.{add_of, un_of, leading_zeros_of, trailing_zeros_of, set_bits_of}
use Rattle.sem_words.proofs.WordLaws.{un_of-le}
use Rattle.wasm_lang.specs.declared.types.ValType.{ValType}
use Rattle.wasm_lang.specs.declared.types.ValType.TheVariants.{I64}
use Rattle.wasm_lang.specs.Instructions.{un64}
use Rattle.wasm_lang_exec.specs.Plain.{answer64, with64}
use Rattle.wasm2js_translation.specs.Names as names
use Rattle.wasm2js_translation.specs.Names.{Fixed}
use Rattle.wasm2js_translation.specs.Words.{read, put, ask, Action, simply}
use Rattle.wasm2js_translation.specs.Pairs.{plus, literal}
use Rattle.wasm2js_laws_numbers.specs.Laws.{joined}
use Rattle.wasm2js_laws_numbers.proofs.Counted.{set_bits}
use Rattle.wasm2js_laws_places.specs.Straight.{Words, with_word, Helping, is_helper, asked, then_do, ActionsAsk, run_actions, actions_units}
use Rattle.wasm2js_laws_places.specs.Places.{operands, locals_of, store_with}
use Rattle.wasm2js_laws_helpers.specs.Answers.{counted}
use Rattle.wasm2js_laws_helpers.proofs.Bits.{few_units}
use Rattle.wasm2js_laws_preservation.specs.ControlControl.{Function}
use Rattle.wasm2js_laws_preservation.specs.InstructionsPlain.{IsAlike, IsPlain, code_of, AnswersAtOnce, Supports, Always}
use Rattle.wasm2js_laws_preservation.proofs.WideKept.{is_self, low, high, Keeps, kept_all, kept_low, kept_high, one_to_wide}
use Rattle.wasm2js_laws_typed.proofs.SoundPlain.{of_fixed}
use Rattle.wasm2js_laws_preservation.proofs.WideTurned.{most_after}

-- ---- zeros, which a helper counts in both words

module _ (d : ℕ) (words : Words) (n : ℕ) where
  abbrev number_at : Words
  number_at = with_word (high d) 0 (with_word (low d) n words)

  at_low : number_at (low d) ≡ n
  at_low = rw (is_self d) refl

  at_high : number_at (high d) ≡ 0
  at_high = rw (is_self d) refl

  number_same : n ≡ number_at (low d) + 2 ^ 32 * number_at (high d)
  number_same = let x = at_low in let y = at_high in omega (arith, x, y)

  number_keeps : Keeps d words number_at
  number_keeps = kept_high d 0 words (with_word (low d) n words) (kept_low d n words words (kept_all d words))

module _ (op : Un) (helper : Fixed) (o : ℕ → ℕ → ℕ) where
  abbrev counting : ℕ → List Action
  counting d = simply (ask (low d) helper (read (low d) ∷ read (high d) ∷ [])) ∷ simply (put (high d) (literal 0)) ∷ []

  module _ (helps : is_helper helper ≡ true) (f : Function) (helping : Helping) (supports : Supports f helping) (answers : AnswersAtOnce helping helper (counted o))
      (same : (n : ℕ) → un_of 64 op n ≡ o 64 n) (b : ℕ) (below : List ValType) (code : code_of f helping (un64 op) b (I64 ∷ below) ≡ counting (b + length below)) where
    abbrev d : ℕ
    d = b + length below

    abbrev args : Words → List ℕ
    args words = words (low d) ∷ words (high d) ∷ []

    cheap : (words : Words) (heap : List ℕ) → actions_units helping (counting d) words heap ≤ f.pace
    cheap words heap =
        let once = (answers (args words) heap).1 in
        let none = most_after 0 (asked (low d) (helping.answer helper (args words) heap) words heap) (actions_units helping (simply (put (high d) (literal 0)) ∷ [])) (λ words heap. omega arith) in
        let pace = supports.pace in
        omega (arith, once, none, pace)

    abbrev number : Words → ℕ
    number words = o 64 (joined (words (low d)) (words (high d)))

    pub counted_is : IsPlain f helping (un64 op) b (I64 ∷ below) (I64 ∷ below)
    counted_is = record {
      types = refl;
      asks = subst ActionsAsk (sym code) (helps, (tt, tt));
      paid = λ words heap. subst (λ c. actions_units helping c words heap ≤ f.pace) (sym code) (cheap words heap);
      free = λ e words heap. absurd (cc e);
      alike = λ words heap replies events are is_heap.
          let effect = with64 (λ a. Ok (un_of 64 op a)) answer64 (operands b (I64 ∷ below) words) (locals_of f.context.locals words) (store_with f.setting words heap replies events) in
          subst (λ c. IsAlike f helping b (I64 ∷ below) words heap replies events effect (run_actions helping c words heap)) (sym code)
          (subst (λ a. IsAlike f helping b (I64 ∷ below) words heap replies events effect (then_do (asked (low d) a words heap) (run_actions helping (simply (put (high d) (literal 0)) ∷ []))))
          (sym (answers (args words) heap).0)
          (one_to_wide f helping b below words (number_at d words (number words)) heap replies events (number_keeps d words (number words)) (λ a. Ok (un_of 64 op a))
          (ap Ok (same (joined (words (low d)) (words (high d))) ∙ number_same d words (number words)))));
    }

by_counting : (op : Un) (helper : Fixed) (o : ℕ → ℕ → ℕ) → is_helper helper ≡ true
    → ((f : Function) (helping : Helping) (b : ℕ) (below : List ValType) → code_of f helping (un64 op) b (I64 ∷ below) ≡ counting op helper o (b + length below))
    → ((f : Function) (helping : Helping) → Supports f helping → AnswersAtOnce helping helper (counted o)) → ((n : ℕ) → un_of 64 op n ≡ o 64 n) → Always (un64 op)
by_counting op helper o helps code answers same f helping supports ls b form takes gives below is acts =
    of_fixed (λ takes gives. IsPlain f helping (un64 op) b (takes ++ below) (gives ++ below)) (I64 ∷ []) (I64 ∷ []) takes gives form is acts
    (counted_is op helper o helps f helping supports (answers f helping supports) same b below (code f helping b below))

pub leading_zeros_is : Always (un64 Clz)
leading_zeros_is = by_counting Clz names.leading_zeros leading_zeros_of refl (λ f helping b below. refl) (λ f helping supports. supports.helpers.leading_zeros) (λ n. refl)

pub trailing_zeros_is : Always (un64 Ctz)
trailing_zeros_is = by_counting Ctz names.trailing_zeros trailing_zeros_of refl (λ f helping b below. refl) (λ f helping supports. supports.helpers.trailing_zeros) (λ n. refl)

-- ---- set bits, word by word

abbrev summing : ℕ → List Action
summing d = simply (put (low d) (plus (read (low d)) (read (high d)))) ∷ simply (put (high d) (literal 0)) ∷ []

abbrev high_bits : ℕ → List Action
high_bits d = simply (ask (high d) names.set_bits (read (high d) ∷ [])) ∷ summing d

module _ (d : ℕ) (words : Words) where
  abbrev low_set : ℕ
  low_set = set_bits_of 32 (words (low d))

  abbrev high_set : ℕ
  high_set = set_bits_of 32 (words (high d))

  abbrev first_set : Words
  first_set = with_word (low d) low_set words

  abbrev both_set : Words
  both_set = with_word (high d) high_set first_set

  both_low : both_set (low d) ≡ low_set
  both_low = rw (is_self d) refl

  both_high : both_set (high d) ≡ high_set
  both_high = rw (is_self d) refl

  abbrev all_set : ℕ
  all_set = add_of 32 (both_set (low d)) (both_set (high d))

  few_words : (x y : ℕ) → x ≤ 32 → y ≤ 32 → (x + y) % 2 ^ 32 ≡ x + y
  few_words x y h k = omega (arith, h, k)

  set_same : words (low d) < 2 ^ 32 → words (high d) < 2 ^ 32 → set_bits_of 64 (joined (words (low d)) (words (high d))) ≡ all_set
  set_same h k =
      set_bits (words (low d)) (words (high d)) h ∙ sym (few_words low_set high_set (un_of-le 32 Popcnt (words (low d)) h) (un_of-le 32 Popcnt (words (high d)) k))
      ∙ ap (λ x. add_of 32 x high_set) (sym both_low) ∙ ap (λ y. add_of 32 (both_set (low d)) y) (sym both_high)

  both_keeps : Keeps d words both_set
  both_keeps = kept_high d high_set words first_set (kept_low d low_set words words (kept_all d words))

  abbrev set_at : Words
  set_at = with_word (high d) 0 (with_word (low d) all_set both_set)

  set_keeps : Keeps d words set_at
  set_keeps = kept_high d 0 words (with_word (low d) all_set both_set) (kept_low d all_set words both_set both_keeps)

  set_is : all_set ≡ set_at (low d) + 2 ^ 32 * set_at (high d)
  set_is = number_same d both_set all_set

module _ (f : Function) (helping : Helping) (supports : Supports f helping) where
  few : (a : ℕ) (heap : List ℕ) → helping.cost names.set_bits (a ∷ []) ≤ 34
  few a heap = let e = (supports.helpers.set_bits (a ∷ []) heap).1 in let h = few_units a in omega (arith, e, h)

  few_further : (d : ℕ) (words : Words) (heap : List ℕ) → actions_units helping (high_bits d) words heap ≤ 34
  few_further d words heap =
      let h = few (words (high d)) heap in
      let none = most_after 0 (asked (high d) (helping.answer names.set_bits (words (high d) ∷ []) heap) words heap) (actions_units helping (summing d)) (λ words heap. omega arith) in
      omega (arith, h, none)

  few_in_all : (d : ℕ) (words : Words) (heap : List ℕ) → actions_units helping (simply (ask (low d) names.set_bits (read (low d) ∷ [])) ∷ high_bits d) words heap ≤ f.pace
  few_in_all d words heap =
      let h = few (words (low d)) heap in
      let k = most_after 34 (asked (low d) (helping.answer names.set_bits (words (low d) ∷ []) heap) words heap) (actions_units helping (high_bits d)) (few_further d) in
      let pace = supports.pace in
      omega (arith, h, k, pace)

  set_bits_plain : (b : ℕ) (below : List ValType) → IsPlain f helping (un64 Popcnt) b (I64 ∷ below) (I64 ∷ below)
  set_bits_plain b below = record {
    types = refl;
    asks = (refl, (refl, (tt, (tt, tt))));
    paid = few_in_all (b + length below);
    free = λ e words heap. absurd (cc e);
    alike = λ words heap replies events are is_heap.
        let d = b + length below in
        let effect = with64 (λ a. Ok (un_of 64 Popcnt a)) answer64 (operands b (I64 ∷ below) words) (locals_of f.context.locals words) (store_with f.setting words heap replies events) in
        subst (λ a. IsAlike f helping b (I64 ∷ below) words heap replies events effect (then_do (asked (low d) a words heap) (run_actions helping (high_bits d))))
        (sym (supports.helpers.set_bits (words (low d) ∷ []) heap).0)
        (subst (λ a. IsAlike f helping b (I64 ∷ below) words heap replies events effect (then_do (asked (high d) a (first_set d words) heap) (run_actions helping (summing d))))
        (sym (supports.helpers.set_bits (words (high d) ∷ []) heap).0)
        (one_to_wide f helping b below words (set_at d words) heap replies events (set_keeps d words) (λ a. Ok (un_of 64 Popcnt a)) (ap Ok (set_same d words (are (low d)) (are (high d)) ∙ set_is d words))));
  }

pub set_bits_is : Always (un64 Popcnt)
set_bits_is f helping supports ls b form takes gives below is acts =
    of_fixed (λ takes gives. IsPlain f helping (un64 Popcnt) b (takes ++ below) (gives ++ below)) (I64 ∷ []) (I64 ∷ []) takes gives form is acts (set_bits_plain f helping supports b below)
