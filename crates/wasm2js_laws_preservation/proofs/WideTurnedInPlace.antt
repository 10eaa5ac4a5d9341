-- Shifts and rotations by a number of places that is known: no helper is called, and the words are those of the operator.
use Rattle.std.proofs.Common.{◌≡◌, ℕ, ◌+◌, ◌-◌, ◌<◌, Bool, true, false, List, [], ◌∷◌, refl, sym, ap, ◌∙◌, arith}
use Rattle.std.specs.Prelude.{◌*◌, ◌^◌, ◌%◌, nat_lt, ◌==◌, bit_or, if◌then◌else◌}
use Rattle.std.proofs.lemmas.Bool.Decides.{nat_tests}
use Rattle.sem_words.specs.Words.{shl_of, shr_s_of, shr_u_of, rotl_of}
use Rattle.wasm_lang.specs.declared.types.ValType.TheVariants.{I64}
use Rattle.wasm2js_translation.specs.Names.{Name, numbered, operand_low}
use Rattle.wasm2js_translation.specs.Words.{BitOp, shift_left, Term, read, both, Simple, put}
use Rattle.wasm2js_translation.specs.Pairs.{Pair, operand_pair, simples, literal, moved}
use Rattle.wasm2js_translation.specs.Wide.{shifted, joined_left, left_by, emptied, to_right, right_by, turned_from, round_by}
use Rattle.wasm2js_laws_numbers.specs.Laws.{joined}
use Rattle.wasm2js_laws_numbers.proofs.Together.{near_left, near_right, near_right_signed, near_round, far_left, far_right, far_right_signed, far_round, half_round, none_left, none_right, none_right_signed, none_round, no_left, no_right, no_right_signed}
use Rattle.wasm2js_laws_places.specs.Straight.{Words, with_word, value, bits_of, Helping, Outcome, goes, run_actions, actions_units, ActionsAsk}
use Rattle.wasm2js_laws_preservation.specs.InstructionsPlain.{AreWords}
use Rattle.wasm2js_laws_preservation.proofs.WideKept.{is_self, is_next, is_below, low, high, Keeps, kept_all, kept_low, kept_high}

-- ---- code that only puts words

abbrev pub OnlyPuts : List Simple → Type 0
OnlyPuts [] = Unit {0}
OnlyPuts (put n t ∷ ss) = OnlyPuts ss
OnlyPuts ss = ⊥

pub puts_ask_none : (ss : List Simple) → OnlyPuts ss → ActionsAsk (simples ss)
puts_ask_none [] h = tt
puts_ask_none (put n t ∷ ss) h = (tt, puts_ask_none ss h)
puts_ask_none (s ∷ ss) h = absurd h

pub puts_are_free : (helping : Helping) (ss : List Simple) → OnlyPuts ss → (words : Words) (heap : List ℕ) → actions_units helping (simples ss) words heap ≡ 0
puts_are_free helping [] h words heap = refl
puts_are_free helping (put n t ∷ ss) h words heap = ap (λ (u : ℕ). 0 + u) (puts_are_free helping ss h (with_word n (value t words heap) words) heap)
puts_are_free helping (s ∷ ss) h words heap = absurd h

if_puts : (t : Bool) (x y : List Simple) → OnlyPuts x → OnlyPuts y → OnlyPuts (if t then x else y)
if_puts true x y h k = h
if_puts false x y h k = k

pub left_puts : (k : ℕ) (a to : Pair) → OnlyPuts (left_by k a to)
left_puts k a to = if_puts (k == 0) _ _ tt (if_puts (nat_lt k 32) _ _ tt tt)

pub right_puts : (signed : Bool) (k : ℕ) (a to : Pair) → OnlyPuts (right_by signed k a to)
right_puts signed k a to = if_puts (k == 0) _ _ tt (if_puts (nat_lt k 32) _ _ tt tt)

turned_puts : (k : ℕ) (spare high : Name) (to : Pair) → OnlyPuts (turned_from k spare high to)
turned_puts k spare high to = if_puts (k == 32) _ _ tt (if_puts (nat_lt k 32) _ _ tt tt)

pub round_puts : (k : ℕ) (a : Pair) (spare : Name) (to : Pair) → OnlyPuts (round_by k a spare to)
round_puts k a spare to = if_puts (k == 0) _ _ tt (turned_puts k spare a.high to)

-- ---- tests of a number of places

is_none : (k : ℕ) → (k == 0) ≡ true → k ≡ 0
is_none k e = grind (arith, nat_tests, e)

is_some_place : (k : ℕ) → (k == 0) ≡ false → 0 < k
is_some_place k e = grind (arith, nat_tests, e)

is_half : (k : ℕ) → (k == 32) ≡ true → k ≡ 32
is_half k e = grind (arith, nat_tests, e)

is_near : (k : ℕ) → nat_lt k 32 ≡ true → k < 32
is_near k e = grind (arith, nat_tests, e)

is_far : (k : ℕ) → nat_lt k 32 ≡ false → 31 < k
is_far k e = grind (arith, nat_tests, e)

is_past_half : (k : ℕ) → (k == 32) ≡ false → nat_lt k 32 ≡ false → 32 < k
is_past_half k e g = grind (arith, nat_tests, e, g)

-- ---- terms

as_count : (k : ℕ) → k < 64 → k % 2 ^ 32 ≡ k
as_count k few = omega (arith, few)

-- a word by so many places to the left, and what comes in there from another one
abbrev joined_word : (k upper lower : ℕ) → ℕ
joined_word k upper lower = bit_or (shl_of 32 upper k) (shr_u_of 32 lower (32 - k))

module _ (words : Words) (heap : List ℕ) where
  shifted_value : (op : BitOp) (k : ℕ) (n : Name) (a : ℕ) → k < 64 → words n ≡ a → bits_of op a 0 ≡ a → value (shifted op k n) words heap ≡ bits_of op a k
  shifted_value op k n a few is none = by (k == 0) refl
    where
      by : (t : Bool) → (k == 0) ≡ t → value (if t then read n else both op (read n) (literal k)) words heap ≡ bits_of op a k
      by true e = is ∙ sym none ∙ ap (bits_of op a) (sym (is_none k e))
      by false e = ap (λ w. bits_of op w (k % 2 ^ 32)) is ∙ ap (bits_of op a) (as_count k few)

  joined_value : (k : ℕ) (upper lower : Name) (a b : ℕ) → k < 64 → words upper ≡ a → words lower ≡ b
      → value (joined_left k upper lower) words heap ≡ joined_word k a b
  joined_value k upper lower a b few is is' =
      let rest : 32 - k < 64 = omega arith in
      ap (λ w. bit_or (shl_of 32 w (k % 2 ^ 32)) (shr_u_of 32 (words lower) ((32 - k) % 2 ^ 32))) is
      ∙ ap (λ w. bit_or (shl_of 32 a (k % 2 ^ 32)) (shr_u_of 32 w ((32 - k) % 2 ^ 32))) is'
      ∙ ap (λ (j : ℕ). bit_or (shl_of 32 a j) (shr_u_of 32 b ((32 - k) % 2 ^ 32))) (as_count k few)
      ∙ ap (λ (j : ℕ). bit_or (shl_of 32 a k) (shr_u_of 32 b j)) (as_count (32 - k) rest)

-- ---- what code comes to that puts both words of an operand

-- a number of 64 bits where the operand of this number stood
pub record Turns (d : ℕ) (words : Words) (heap : List ℕ) (number : ℕ) (o : Outcome) : Type 0 where
  pub after : Words
  pub is : o ≡ goes after heap
  pub same : number ≡ after (low d) + 2 ^ 32 * after (high d)
  pub keeps : Keeps d words after

kept_spare : (d x : ℕ) (words : Words) → Keeps d words (with_word (numbered operand_low (d + 1)) x words)
kept_spare d x words = record {
  lows = λ n h. rw (is_below (d + 1) n (omega (arith, h))) refl;
  highs = λ n h. refl;
  local_lows = λ x. refl;
  local_highs = λ x. refl;
  global_lows = λ x. refl;
  global_highs = λ x. refl;
}

halves : (number l h l' h' : ℕ) → number ≡ joined l h → l' ≡ l → h' ≡ h → number ≡ l' + 2 ^ 32 * h'
halves number l h l' h' is e g = is ∙ ap (λ x. joined x h) (sym e) ∙ ap (joined l') (sym g)

module _ (helping : Helping) (d : ℕ) (words start : Words) (heap : List ℕ) (keeps : Keeps d words start) (number l h : ℕ) (is : number ≡ joined l h) (t u : Term) where
  low_first : value t start heap ≡ l → ((v : ℕ) → value u (with_word (low d) v start) heap ≡ h)
      → Turns d words heap number (run_actions helping (simples (put (low d) t ∷ put (high d) u ∷ [])) start heap)
  low_first e g =
      let x = value t start heap in
      let first = with_word (low d) x start in
      let y = value u first heap in
      let after = with_word (high d) y first in
      let at_low : after (low d) ≡ x = rw (is_self d) refl in
      let at_high : after (high d) ≡ y = rw (is_self d) refl in
      record { after = after; is = refl; same = halves number l h (after (low d)) (after (high d)) is (at_low ∙ e) (at_high ∙ g x); keeps = kept_high d y words first (kept_low d x words start keeps) }

  high_first : value t start heap ≡ h → ((v : ℕ) → value u (with_word (high d) v start) heap ≡ l)
      → Turns d words heap number (run_actions helping (simples (put (high d) t ∷ put (low d) u ∷ [])) start heap)
  high_first e g =
      let y = value t start heap in
      let first = with_word (high d) y start in
      let x = value u first heap in
      let after = with_word (low d) x first in
      let at_low : after (low d) ≡ x = rw (is_self d) refl in
      let at_high : after (high d) ≡ y = rw (is_self d) refl in
      record { after = after; is = refl; same = halves number l h (after (low d)) (after (high d)) is (at_low ∙ g y) (at_high ∙ e); keeps = kept_low d x words first (kept_high d y words start keeps) }

-- ---- each row

module _ (helping : Helping) (d : ℕ) (words : Words) (heap : List ℕ) (are : AreWords words) (k : ℕ) (few : k < 64) where
  abbrev a : ℕ
  a = words (low d)

  abbrev x : ℕ
  x = words (high d)

  abbrev pair : Pair
  pair = operand_pair d

  abbrev Ran : ℕ → List Simple → Type 0
  Ran number ss = Turns d words heap number (run_actions helping (simples ss) words heap)

  wide_word : joined a x < 2 ^ 64
  wide_word = let f = are (low d) in let g = are (high d) in omega (arith, f, g)

  all_kept : Keeps d words words
  all_kept = kept_all d words

  less : k - 32 < 64
  less = omega (arith, few)

  unmoved : (o : ℕ → ℕ → ℕ) → k ≡ 0 → o (joined a x) (joined 0 0) ≡ joined a x → Ran (o (joined a x) (joined k 0)) (moved I64 pair pair)
  unmoved o none same = low_first helping d words words heap all_kept (o (joined a x) (joined k 0)) a x (ap (λ (j : ℕ). o (joined a x) (joined j 0)) none ∙ same) (read (low d)) (read (high d)) refl (λ v. refl)

  pub left_turns : Ran (shl_of 64 (joined a x) (joined k 0)) (left_by k pair pair)
  left_turns = by (k == 0) (nat_lt k 32) refl refl
    where
      number : ℕ
      number = shl_of 64 (joined a x) (joined k 0)

      none : shl_of 32 a 0 ≡ a
      none = no_left a (are (low d))

      by : (s t : Bool) → (k == 0) ≡ s → nat_lt k 32 ≡ t
          → Ran number
          (if s then moved I64 pair pair
          else (if t then put (high d) (joined_left k (high d) (low d)) ∷ put (low d) (shifted shift_left k (low d)) ∷ []
          else put (high d) (shifted shift_left (k - 32) (low d)) ∷ put (low d) (literal 0) ∷ []))
      by true t e g = unmoved (shl_of 64) (is_none k e) (none_left (joined a x) wide_word)
      by false true e g =
          high_first helping d words words heap all_kept number (shl_of 32 a k) (joined_word k x a) (near_left a x k (are (low d)) (are (high d)) (is_some_place k e) (is_near k g))
          (joined_left k (high d) (low d)) (shifted shift_left k (low d))
          (joined_value words heap k (high d) (low d) x a few refl refl) (λ v. shifted_value (with_word (high d) v words) heap shift_left k (low d) a few refl none)
      by false false e g =
          high_first helping d words words heap all_kept number 0 (shl_of 32 a (k - 32)) (far_left a x k (are (low d)) (are (high d)) (is_far k g) few)
          (shifted shift_left (k - 32) (low d)) (literal 0)
          (shifted_value words heap shift_left (k - 32) (low d) a less refl none) (λ v. refl)

  -- ---- to the right

  abbrev pub wide_right : (signed : Bool) → ℕ → ℕ → ℕ
  wide_right true = shr_s_of 64
  wide_right false = shr_u_of 64

  abbrev left_over : (signed : Bool) → ℕ
  left_over true = shr_s_of 32 x 31
  left_over false = 0

  no_places : (signed : Bool) → wide_right signed (joined a x) (joined 0 0) ≡ joined a x
  no_places true = none_right_signed (joined a x) wide_word
  no_places false = none_right (joined a x)

  no_turn : (signed : Bool) → bits_of (to_right signed) x 0 ≡ x
  no_turn true = no_right_signed x (are (high d))
  no_turn false = no_right x

  near_places : (signed : Bool) → 0 < k → k < 32 → wide_right signed (joined a x) (joined k 0) ≡ joined (bit_or (shl_of 32 x (32 - k)) (shr_u_of 32 a k)) (bits_of (to_right signed) x k)
  near_places true some near = near_right_signed a x k (are (low d)) (are (high d)) some near
  near_places false some near = near_right a x k (are (low d)) (are (high d)) some near

  far_places : (signed : Bool) → 31 < k → wide_right signed (joined a x) (joined k 0) ≡ joined (bits_of (to_right signed) x (k - 32)) (left_over signed)
  far_places true many = far_right_signed a x k (are (low d)) (are (high d)) many few
  far_places false many = far_right a x k (are (low d)) (are (high d)) many few

  emptied_value : (signed : Bool) (w : Words) → w (high d) ≡ x → value (emptied signed (high d)) w heap ≡ left_over signed
  emptied_value true w is = ap (λ v. shr_s_of 32 v 31) is
  emptied_value false w is = refl

  back : k < 32 → 32 - (32 - k) ≡ k
  back near = omega (arith, near)

  pub right_turns : (signed : Bool) → Ran (wide_right signed (joined a x) (joined k 0)) (right_by signed k pair pair)
  right_turns signed = by (k == 0) (nat_lt k 32) refl refl
    where
      number : ℕ
      number = wide_right signed (joined a x) (joined k 0)

      rest : 32 - k < 64
      rest = omega arith

      by : (s t : Bool) → (k == 0) ≡ s → nat_lt k 32 ≡ t
          → Ran number
          (if s then moved I64 pair pair
          else (if t then put (low d) (joined_left (32 - k) (high d) (low d)) ∷ put (high d) (shifted (to_right signed) k (high d)) ∷ []
          else put (low d) (shifted (to_right signed) (k - 32) (high d)) ∷ put (high d) (emptied signed (high d)) ∷ []))
      by true t e g = unmoved (wide_right signed) (is_none k e) (no_places signed)
      by false true e g =
          low_first helping d words words heap all_kept number (bit_or (shl_of 32 x (32 - k)) (shr_u_of 32 a k)) (bits_of (to_right signed) x k) (near_places signed (is_some_place k e) (is_near k g))
          (joined_left (32 - k) (high d) (low d)) (shifted (to_right signed) k (high d))
          (joined_value words heap (32 - k) (high d) (low d) x a rest refl refl ∙ ap (λ (j : ℕ). bit_or (shl_of 32 x (32 - k)) (shr_u_of 32 a j)) (back (is_near k g)))
          (λ v. shifted_value (with_word (low d) v words) heap (to_right signed) k (high d) x few refl (no_turn signed))
      by false false e g =
          low_first helping d words words heap all_kept number (bits_of (to_right signed) x (k - 32)) (left_over signed) (far_places signed (is_far k g))
          (shifted (to_right signed) (k - 32) (high d)) (emptied signed (high d))
          (shifted_value words heap (to_right signed) (k - 32) (high d) x less refl (no_turn signed)) (λ v. emptied_value signed (with_word (low d) v words) refl)

  -- ---- round to the left, where the low word stands in the spare variable meanwhile

  abbrev spare : Name
  spare = low (d + 1)

  abbrev spared : Words
  spared = with_word spare a words

  spare_kept : Keeps d words spared
  spare_kept = kept_spare d a words

  spared_is : spared spare ≡ a
  spared_is = rw (is_self (d + 1)) refl

  still_spared : (v : ℕ) → with_word (low d) v spared spare ≡ a
  still_spared v = rw (is_next d) spared_is

  pub round_turns : Ran (rotl_of 64 (joined a x) (joined k 0)) (round_by k pair spare pair)
  round_turns = by (k == 0) (k == 32) (nat_lt k 32) refl refl refl
    where
      number : ℕ
      number = rotl_of 64 (joined a x) (joined k 0)

      by : (r s t : Bool) → (k == 0) ≡ r → (k == 32) ≡ s → nat_lt k 32 ≡ t
          → Ran number
          (if r then moved I64 pair pair else put spare (read (low d))
          ∷ (if s then put (low d) (read (high d)) ∷ put (high d) (read spare) ∷ []
          else (if t then put (low d) (joined_left k spare (high d)) ∷ put (high d) (joined_left k (high d) spare) ∷ []
          else put (low d) (joined_left (k - 32) (high d) spare) ∷ put (high d) (joined_left (k - 32) spare (high d)) ∷ [])))
      by true s t e h g = unmoved (rotl_of 64) (is_none k e) (none_round (joined a x) wide_word)
      by false true t e h g =
          low_first helping d words spared heap spare_kept number x a (ap (λ (j : ℕ). rotl_of 64 (joined a x) (joined j 0)) (is_half k h) ∙ half_round a x (are (low d)) (are (high d)))
          (read (high d)) (read spare) refl still_spared
      by false false true e h g =
          low_first helping d words spared heap spare_kept number (joined_word k a x) (joined_word k x a) (near_round a x k (are (low d)) (are (high d)) (is_some_place k e) (is_near k g))
          (joined_left k spare (high d)) (joined_left k (high d) spare)
          (joined_value spared heap k spare (high d) a x few spared_is refl) (λ v. joined_value (with_word (low d) v spared) heap k (high d) spare x a few refl (still_spared v))
      by false false false e h g =
          low_first helping d words spared heap spare_kept number (joined_word (k - 32) x a) (joined_word (k - 32) a x) (far_round a x k (are (low d)) (are (high d)) (is_far k g) few (is_past_half k h g))
          (joined_left (k - 32) (high d) spare) (joined_left (k - 32) spare (high d))
          (joined_value spared heap (k - 32) (high d) spare x a less refl spared_is) (λ v. joined_value (with_word (low d) v spared) heap (k - 32) spare (high d) a x less (still_spared v) refl)
