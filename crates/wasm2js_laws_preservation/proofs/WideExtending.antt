-- Words that become words of 64 bits, low bits that are extended with their sign, and constants.
use Rattle.std.proofs.Common.{◌≡◌, ℕ, ◌+◌, ◌<◌, ◌≤◌, true, List, [], ◌∷◌, ◌++◌, length, drop, Ok, refl, sym, ap, ◌∙◌, subst, arith}
use Rattle.std.specs.Prelude.{◌*◌, ◌^◌}
use Rattle.sem_words.specs.declared.word.Word.TheVariants.{W64}
use Rattle.sem_words.specs.Words.{signed_of, word_of, shr_s_of, extend_of}
use Rattle.sem_words.proofs.WordLaws.{word_of-signed_of_32}
use Rattle.session_lang.specs.Imports.{low_word, high_word}
use Rattle.wasm_lang.specs.declared.types.ValType.{ValType}
use Rattle.wasm_lang.specs.declared.types.ValType.TheVariants.{I32, I64}
use Rattle.wasm_lang.specs.Instructions.{extend_s, extend_u, sign_extend, const64}
use Rattle.wasm2js_translation.specs.Words.{number, put, Action, simply}
use Rattle.wasm2js_laws_numbers.specs.Laws as numbers
use Rattle.wasm2js_laws_numbers.specs.Laws.{joined, with_sign}
use Rattle.wasm2js_laws_numbers.proofs.Extended.{wide_extensions}
use Rattle.wasm2js_laws_places.specs.Straight.{Words, with_word, Helping, ActionsAsk, run_actions, actions_units}
use Rattle.wasm2js_laws_places.specs.Places.{operands, locals_of, store_with}
use Rattle.wasm2js_laws_preservation.specs.ControlControl.{Function}
use Rattle.wasm2js_laws_preservation.specs.InstructionsPlain.{IsAlike, IsPlain, code_of, Always}
use Rattle.wasm_lang_exec.specs.Plain as machine
use Rattle.wasm2js_laws_preservation.proofs.WideKept.{is_self, low, high, Keeps, kept_all, kept_low, kept_high, value_alike, one_to_wide, narrow_to_wide}
use Rattle.wasm2js_laws_typed.proofs.SoundPlain.{of_fixed}
use Rattle.wasm2js_laws_preservation.proofs.WideCompared.{of_shape}

-- ---- a high word beside a low one that stays

module _ (d y : ℕ) (words : Words) where
  abbrev with_high_word : Words
  with_high_word = with_word (high d) y words

  high_is : with_high_word (high d) ≡ y
  high_is = rw (is_self d) refl

  high_keeps : Keeps d words with_high_word
  high_keeps = kept_high d y words words (kept_all d words)

  joined_is : joined (words (low d)) y ≡ with_high_word (low d) + 2 ^ 32 * with_high_word (high d)
  joined_is = ap (λ y. words (low d) + 2 ^ 32 * y) (sym high_is)

no_high : (n : ℕ) → n ≡ joined n 0
no_high n = omega arith

pub unsigned_is : Always extend_u
unsigned_is = of_shape extend_u (I32 ∷ []) (I64 ∷ []) (λ c. refl) (λ f helping b below. record {
  types = refl;
  asks = (tt, tt);
  paid = λ words heap. omega arith;
  free = λ e words heap. refl;
  alike = λ words heap replies events are is_heap.
      let d = b + length below in
      narrow_to_wide f helping b below words (with_high_word d 0 words) heap replies events (high_keeps d 0 words) (λ a. Ok a) (ap Ok (no_high (words (low d)) ∙ joined_is d 0 words));
})

signed_same : (a : ℕ) → a < 2 ^ 32 → extend_of 64 32 a ≡ with_sign a
signed_same a h = ap (extend_of 64 32) (no_high a) ∙ (wide_extensions a 0 h (omega arith)).2

pub signed_is : Always extend_s
signed_is = of_shape extend_s (I32 ∷ []) (I64 ∷ []) (λ c. refl) (λ f helping b below. record {
  types = refl;
  asks = (tt, tt);
  paid = λ words heap. omega arith;
  free = λ e words heap. refl;
  alike = λ words heap replies events are is_heap.
      let d = b + length below in
      let y = shr_s_of 32 (words (low d)) 31 in
      narrow_to_wide f helping b below words (with_high_word d y words) heap replies events (high_keeps d y words) (λ a. Ok (extend_of 64 32 a))
      (ap Ok (signed_same (words (low d)) (are (low d)) ∙ joined_is d y words));
})

-- ---- low bits of a word of 64 bits

pub word_is : Always (sign_extend true 32)
word_is = of_shape (sign_extend true 32) (I64 ∷ []) (I64 ∷ []) (λ c. refl) (λ f helping b below. record {
  types = refl;
  asks = (tt, tt);
  paid = λ words heap. omega arith;
  free = λ e words heap. refl;
  alike = λ words heap replies events are is_heap.
      let d = b + length below in
      let y = shr_s_of 32 (words (low d)) 31 in
      one_to_wide f helping b below words (with_high_word d y words) heap replies events (high_keeps d y words) (λ a. Ok (extend_of 64 32 a))
      (ap Ok ((wide_extensions (words (low d)) (words (high d)) (are (low d)) (are (high d))).2 ∙ joined_is d y words));
})

module _ (d x : ℕ) (words : Words) where
  abbrev low_first : Words
  low_first = with_word (low d) x words

  abbrev with_its_sign : Words
  with_its_sign = with_word (high d) (shr_s_of 32 (low_first (low d)) 31) low_first

  first_is : low_first (low d) ≡ x
  first_is = rw (is_self d) refl

  sign_is : with_its_sign (high d) ≡ shr_s_of 32 x 31
  sign_is = high_is d (shr_s_of 32 (low_first (low d)) 31) low_first ∙ ap (λ x. shr_s_of 32 x 31) first_is

  signs_keep : Keeps d words with_its_sign
  signs_keep = kept_high d (shr_s_of 32 (low_first (low d)) 31) words low_first (kept_low d x words words (kept_all d words))

  signs_same : with_sign x ≡ with_its_sign (low d) + 2 ^ 32 * with_its_sign (high d)
  signs_same = ap (λ y. x + 2 ^ 32 * y) (sym sign_is) ∙ ap (λ x. x + 2 ^ 32 * with_its_sign (high d)) (sym first_is)

pub byte_is : Always (sign_extend true 8)
byte_is = of_shape (sign_extend true 8) (I64 ∷ []) (I64 ∷ []) (λ c. refl) (λ f helping b below. record {
  types = refl;
  asks = (tt, (tt, tt));
  paid = λ words heap. omega arith;
  free = λ e words heap. refl;
  alike = λ words heap replies events are is_heap.
      let d = b + length below in
      let x = numbers.extended 8 (words (low d)) in
      one_to_wide f helping b below words (with_its_sign d x words) heap replies events (signs_keep d x words) (λ a. Ok (extend_of 64 8 a))
      (ap Ok ((wide_extensions (words (low d)) (words (high d)) (are (low d)) (are (high d))).0 ∙ signs_same d x words));
})

pub half_is : Always (sign_extend true 16)
half_is = of_shape (sign_extend true 16) (I64 ∷ []) (I64 ∷ []) (λ c. refl) (λ f helping b below. record {
  types = refl;
  asks = (tt, (tt, tt));
  paid = λ words heap. omega arith;
  free = λ e words heap. refl;
  alike = λ words heap replies events are is_heap.
      let d = b + length below in
      let x = numbers.extended 16 (words (low d)) in
      one_to_wide f helping b below words (with_its_sign d x words) heap replies events (signs_keep d x words) (λ a. Ok (extend_of 64 16 a))
      (ap Ok ((wide_extensions (words (low d)) (words (high d)) (are (low d)) (are (high d))).1 ∙ signs_same d x words));
})

-- ---- constants

pub drop_none : (ts : List ValType) → drop 0 ts ≡ ts
drop_none [] = refl
drop_none (t ∷ ts) = refl

abbrev signed_word : ℕ → ℕ
signed_word n = word_of 32 (signed_of 32 n)

module _ (n d : ℕ) (words : Words) (h : n < 2 ^ 64) where
  abbrev low_put : Words
  low_put = with_word (low d) (signed_word (low_word n)) words

  abbrev constant_put : Words
  constant_put = with_word (high d) (signed_word (high_word n)) low_put

  low_part : constant_put (low d) ≡ low_word n
  low_part =
      let less : low_word n < 2 ^ 32 = omega arith in
      let e : constant_put (low d) ≡ signed_word (low_word n) = rw (is_self d) refl in
      e ∙ word_of-signed_of_32 (low_word n) less

  high_part : constant_put (high d) ≡ high_word n
  high_part = let less : high_word n < 2 ^ 32 = omega (arith, h) in high_is d (signed_word (high_word n)) low_put ∙ word_of-signed_of_32 (high_word n) less

  halves : n ≡ low_word n + 2 ^ 32 * high_word n
  halves = omega arith

  constant_same : n ≡ constant_put (low d) + 2 ^ 32 * constant_put (high d)
  constant_same = halves ∙ ap (λ y. low_word n + 2 ^ 32 * y) (sym high_part) ∙ ap (λ x. x + 2 ^ 32 * constant_put (high d)) (sym low_part)

  constant_keeps : Keeps d words constant_put
  constant_keeps = kept_high d (signed_word (high_word n)) words low_put (kept_low d (signed_word (low_word n)) words words (kept_all d words))

abbrev constant_code : ℕ → ℕ → List ValType → List Action
constant_code n b ts = simply (put (low (b + length ts)) (number (signed_of 32 (low_word n)))) ∷ simply (put (high (b + length ts)) (number (signed_of 32 (high_word n)))) ∷ []

module _ (n : ℕ) (h : n < 2 ^ 64) (f : Function) (helping : Helping) (b : ℕ) (below : List ValType) where
  code_is : code_of f helping (const64 n) b below ≡ constant_code n b below
  code_is = ap (constant_code n b) (drop_none below)

  constant_plain : IsPlain f helping (const64 n) b below (I64 ∷ below)
  constant_plain = record {
    types = ap (λ ts. I64 ∷ ts) (drop_none below);
    asks = subst ActionsAsk (sym code_is) (tt, (tt, tt));
    paid = λ words heap. subst (λ c. actions_units helping c words heap ≤ f.pace) (sym code_is) (omega arith);
    free = λ e words heap. subst (λ c. actions_units helping c words heap ≡ 0) (sym code_is) refl;
    alike = λ words heap replies events are is_heap.
        let d = b + length below in
        let effect = machine.goes (W64 n ∷ operands b below words) (locals_of f.context.locals words) (store_with f.setting words heap replies events) in
        subst (λ c. IsAlike f helping b (I64 ∷ below) words heap replies events effect (run_actions helping c words heap)) (sym code_is)
        (value_alike f helping b below words (constant_put n d words h) heap replies events (constant_keeps n d words h) I64 (W64 n) (ap W64 (constant_same n d words h)));
  }

pub constant_is : (n : ℕ) → n < 2 ^ 64 → Always (const64 n)
constant_is n h f helping supports ls b form takes gives below is acts =
    of_fixed (λ takes gives. IsPlain f helping (const64 n) b (takes ++ below) (gives ++ below)) [] (I64 ∷ []) takes gives form is acts (constant_plain n h f helping b below)
