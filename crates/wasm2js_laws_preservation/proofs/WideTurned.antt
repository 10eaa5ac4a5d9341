-- Shifts and rotations, by a helper that takes both words and a count.
use Rattle.std.proofs.Common.{◌≡◌, ℕ, ◌+◌, ◌<◌, ◌≤◌, true, List, [], ◌∷◌, ◌++◌, length, Ok, refl, sym, ap, ◌∙◌, subst, arith}
use Rattle.std.specs.Prelude.{◌*◌, ◌^◌, ◌%◌, ◌/◌, ◌-◌}
use Rattle.std.specs.Int.{int_shr}
use Rattle.sem_words.specs.declared.word.Bin.{Bin}
use Rattle.sem_words.specs.declared.word.Bin.TheVariants.{Shl, ShrS, ShrU, Rotl, Rotr}
use Rattle.sem_words.specs.Words.{sub_of, shl_of, shr_s_of, shr_u_of, rotl_of, bin_of, word_of, signed_of}
use Rattle.session_lang.specs.Imports.{low_word, high_word}
use Rattle.wasm_lang.specs.declared.types.ValType.{ValType}
use Rattle.wasm_lang.specs.declared.types.ValType.TheVariants.{I64}
use Rattle.wasm_lang.specs.Instructions.{bin64}
use Rattle.wasm_lang_exec.specs.Plain.{answer64, both64}
use Rattle.wasm2js_translation.specs.Names as names
use Rattle.wasm2js_translation.specs.Names.{Fixed, fixed, spare_high}
use Rattle.wasm2js_translation.specs.Words.{Term, read, put, ask, Action, simply}
use Rattle.wasm2js_translation.specs.Pairs.{minus, literal}
use Rattle.wasm2js_laws_numbers.specs.Laws.{joined}
use Rattle.wasm2js_laws_numbers.proofs.Shifted.{rotations_right}
use Rattle.wasm2js_laws_places.specs.Straight.{Words, with_word, value, Helping, is_helper, Outcome, goes, stops, asked, then_do, units_after, ActionsAsk, run_actions, actions_units}
use Rattle.wasm2js_laws_places.specs.Places.{operands, locals_of, store_with}
use Rattle.wasm2js_laws_helpers.specs.Answers.{turned}
use Rattle.wasm2js_laws_preservation.specs.ControlControl.{Function}
use Rattle.wasm2js_laws_preservation.specs.InstructionsPlain.{AreWords, IsAlike, IsPlain, code_of, AnswersAtOnce, Supports, Always}
use Rattle.wasm2js_laws_preservation.proofs.WideKept.{is_self, low, high, Keeps, kept_all, kept_low, kept_high, kept_fixed, two_to_wide}
use Rattle.wasm2js_laws_typed.proofs.SoundPlain.{of_fixed}

-- ---- units

pub most_after : (most : ℕ) (o : Outcome) (k : Words → List ℕ → ℕ) → ((words : Words) (heap : List ℕ) → k words heap ≤ most) → units_after o k ≤ most
most_after most (goes words heap) k h = h words heap
most_after most (stops kind heap) k h = omega arith

-- ---- the words where a helper has left a high word

module _ (d : ℕ) (words : Words) (n : ℕ) where
  abbrev left_spare : Words
  left_spare = with_word (low d) (low_word n) (with_word (fixed spare_high) (high_word n) words)

  abbrev pub taken : Words
  taken = with_word (high d) (left_spare (fixed spare_high)) left_spare

  taken_low : taken (low d) ≡ low_word n
  taken_low = rw (is_self d) refl

  taken_high : taken (high d) ≡ high_word n
  taken_high = rw (is_self d) refl

  halves : n ≡ low_word n + 2 ^ 32 * high_word n
  halves = omega arith

  pub taken_same : n ≡ taken (low d) + 2 ^ 32 * taken (high d)
  taken_same = halves ∙ ap (λ y. low_word n + 2 ^ 32 * y) (sym taken_high) ∙ ap (λ x. x + 2 ^ 32 * taken (high d)) (sym taken_low)

  pub taken_keeps : Keeps d words taken
  taken_keeps =
      kept_high d (left_spare (fixed spare_high)) words left_spare
      (kept_low d (low_word n) words (with_word (fixed spare_high) (high_word n) words) (kept_fixed d (high_word n) spare_high words words (kept_all d words)))

-- ---- in place

module _ (op : Bin) (helper : Fixed) (o : ℕ → ℕ → ℕ → ℕ) (count : ℕ → Term) where
  abbrev turning : ℕ → List Action
  turning d = simply (ask (low d) helper (read (low d) ∷ read (high d) ∷ count d ∷ [])) ∷ simply (put (high d) (read (fixed spare_high))) ∷ []

  module _ (helps : is_helper helper ≡ true) (f : Function) (helping : Helping) (supports : Supports f helping) (answers : AnswersAtOnce helping helper (turned o))
      (same : (d : ℕ) (words : Words) (heap : List ℕ) → AreWords words
      → bin_of 64 op (joined (words (low d)) (words (high d))) (joined (words (low (d + 1))) (words (high (d + 1)))) ≡ Ok (o 64 (joined (words (low d)) (words (high d))) (value (count d) words heap)))
      (b : ℕ) (below : List ValType) (code : code_of f helping (bin64 op) b (I64 ∷ I64 ∷ below) ≡ turning (b + length below)) where
    abbrev d : ℕ
    d = b + length below

    abbrev args : Words → List ℕ → List ℕ
    args words heap = words (low d) ∷ words (high d) ∷ value (count d) words heap ∷ []

    cheap : (words : Words) (heap : List ℕ) → actions_units helping (turning d) words heap ≤ f.pace
    cheap words heap =
        let once = (answers (args words heap) heap).1 in
        let none = most_after 0 (asked (low d) (helping.answer helper (args words heap) heap) words heap) (actions_units helping (simply (put (high d) (read (fixed spare_high))) ∷ [])) (λ words heap. omega arith) in
        let pace = supports.pace in
        omega (arith, once, none, pace)

    abbrev number : Words → List ℕ → ℕ
    number words heap = o 64 (joined (words (low d)) (words (high d))) (value (count d) words heap)

    pub turned_is : IsPlain f helping (bin64 op) b (I64 ∷ I64 ∷ below) (I64 ∷ below)
    turned_is = record {
      types = refl;
      asks = subst ActionsAsk (sym code) (helps, (tt, tt));
      paid = λ words heap. subst (λ c. actions_units helping c words heap ≤ f.pace) (sym code) (cheap words heap);
      free = λ e words heap. absurd (cc e);
      alike = λ words heap replies events are is_heap.
          let effect = both64 (bin_of 64 op) answer64 (operands b (I64 ∷ I64 ∷ below) words) (locals_of f.context.locals words) (store_with f.setting words heap replies events) in
          subst (λ c. IsAlike f helping b (I64 ∷ below) words heap replies events effect (run_actions helping c words heap)) (sym code)
          (subst (λ a. IsAlike f helping b (I64 ∷ below) words heap replies events effect (then_do (asked (low d) a words heap) (run_actions helping (simply (put (high d) (read (fixed spare_high))) ∷ []))))
          (sym (answers (args words heap) heap).0)
          (two_to_wide f helping b below words (taken d words (number words heap)) heap replies events (taken_keeps d words (number words heap)) (bin_of 64 op)
          (same d words heap are ∙ ap Ok (taken_same d words (number words heap)))));
    }

pub by_turning : (op : Bin) (helper : Fixed) (o : ℕ → ℕ → ℕ → ℕ) (count : ℕ → Term) → is_helper helper ≡ true
    → ((f : Function) (helping : Helping) (b : ℕ) (below : List ValType) → code_of f helping (bin64 op) b (I64 ∷ I64 ∷ below) ≡ turning op helper o count (b + length below))
    → ((f : Function) (helping : Helping) → Supports f helping → AnswersAtOnce helping helper (turned o))
    → ((d : ℕ) (words : Words) (heap : List ℕ) → AreWords words
    → bin_of 64 op (joined (words (low d)) (words (high d))) (joined (words (low (d + 1))) (words (high (d + 1)))) ≡ Ok (o 64 (joined (words (low d)) (words (high d))) (value (count d) words heap)))
    → Always (bin64 op)
by_turning op helper o count helps code answers same f helping supports ls b form takes gives below is acts =
    of_fixed (λ takes gives. IsPlain f helping (bin64 op) b (takes ++ below) (gives ++ below)) (I64 ∷ I64 ∷ []) (I64 ∷ []) takes gives form is acts
    (turned_is op helper o count helps f helping supports (answers f helping supports) same b below (code f helping b below))

-- ---- a count of which only the low word matters

low_count : (n more : ℕ) → joined n more % 64 ≡ n % 64
low_count n more = omega arith

pub shift_left_is : Always (bin64 Shl)
shift_left_is = by_turning Shl names.shift_left shl_of (λ d. read (low (d + 1))) refl (λ f helping b below. refl) (λ f helping supports. supports.helpers.shift_left)
    (λ d words heap are. ap (λ k. Ok (joined (words (low d)) (words (high d)) * 2 ^ k % 2 ^ 64)) (low_count (words (low (d + 1))) (words (high (d + 1)))))

pub shift_right_signed_is : Always (bin64 ShrS)
shift_right_signed_is = by_turning ShrS names.shift_right_signed shr_s_of (λ d. read (low (d + 1))) refl (λ f helping b below. refl) (λ f helping supports. supports.helpers.shift_right_signed)
    (λ d words heap are. ap (λ k. Ok (word_of 64 (int_shr (signed_of 64 (joined (words (low d)) (words (high d)))) k))) (low_count (words (low (d + 1))) (words (high (d + 1)))))

pub shift_right_is : Always (bin64 ShrU)
shift_right_is = by_turning ShrU names.shift_right shr_u_of (λ d. read (low (d + 1))) refl (λ f helping b below. refl) (λ f helping supports. supports.helpers.shift_right)
    (λ d words heap are. ap (λ k. Ok (joined (words (low d)) (words (high d)) / 2 ^ k)) (low_count (words (low (d + 1))) (words (high (d + 1)))))

pub rotation_left_is : Always (bin64 Rotl)
rotation_left_is = by_turning Rotl names.rotate_left rotl_of (λ d. read (low (d + 1))) refl (λ f helping b below. refl) (λ f helping supports. supports.helpers.rotate_left)
    (λ d words heap are. let a = joined (words (low d)) (words (high d)) in ap (λ k. Ok (a * 2 ^ k % 2 ^ 64 + a / 2 ^ (64 - k))) (low_count (words (low (d + 1))) (words (high (d + 1)))))

is_wide : (a x : ℕ) → a < 2 ^ 32 → x < 2 ^ 32 → joined a x < 2 ^ 64
is_wide a x h k = omega (arith, h, k)

no_high : (n : ℕ) → joined n 0 ≡ n
no_high n = omega arith

pub rotation_right_is : Always (bin64 Rotr)
rotation_right_is = by_turning Rotr names.rotate_left rotl_of (λ d. minus (literal 0) (read (low (d + 1)))) refl (λ f helping b below. refl) (λ f helping supports. supports.helpers.rotate_left)
    (λ d words heap are. let a = joined (words (low d)) (words (high d)) in let n = words (low (d + 1)) in
    ap Ok (rotations_right a n (words (high (d + 1))) 0 (is_wide (words (low d)) (words (high d)) (are (low d)) (are (high d))) (are (low (d + 1))) ∙ ap (rotl_of 64 a) (no_high (sub_of 32 0 n))))
