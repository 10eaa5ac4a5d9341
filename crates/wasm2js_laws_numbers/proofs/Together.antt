-- Two words that are shifted apart share no bit: put together they are their sum.
use Rattle.std.proofs.Common.{◌≡◌, ℕ, ◌+◌, ◌-◌, ◌*◌, ◌/◌, ◌%◌, ◌^◌, ◌<◌, true, false, bit_or, refl, sym, ap, ◌∙◌, arith, add_comm}
use Rattle.std.specs.Prelude.{ℤ, pos, negsuc, if◌then◌else◌}
use Rattle.std.specs.Int.{int_shr}
use Rattle.std.proofs.Math.Nat.{mul-mod_left, add-zero, mod-eq_of_lt}
use Rattle.std.proofs.lemmas.Nat.{mod-pow-add, shl-shr, or_shifted, shr_below}
use Rattle.sem_words.specs.Words.{sub_of, shl_of, shr_s_of, shr_u_of, rotl_of, rotr_of, word_of, signed_of}
use Rattle.sem_words.proofs.WordLaws.{word_of-signed_of_32, word_of-signed_of_64}
use Rattle.wasm2js_laws_numbers.specs.Laws.{joined, funnel_left, funnel_right, is_far, ByWords}
use Rattle.wasm2js_laws_numbers.proofs.Shifted.{by_count, funnel_left_is, funnel_right_is, shifts_left, shifts_right, rotations_left, rotations_right}
use Rattle.wasm2js_laws_numbers.proofs.Signed.{shifts_right_signed}

-- the lowest bits of a word moved to the left, and the highest ones of another behind them
together : (k m a b : ℕ) → b < 2 ^ (m + k) → bit_or (a * 2 ^ k % 2 ^ (m + k)) (b / 2 ^ m) ≡ a * 2 ^ k % 2 ^ (m + k) + b / 2 ^ m
together k m a b h =
    let split = mod-pow-add (a * 2 ^ k) m k in
    let none : a * 2 ^ k % 2 ^ k ≡ 0 = mul-mod_left a (2 ^ k) in
    let whole : a * 2 ^ k / 2 ^ k ≡ a = shl-shr a k in
    let high : a * 2 ^ k % 2 ^ (m + k) ≡ a % 2 ^ m * 2 ^ k = split ∙ (rw (none, whole) (add-zero _)) in
    let small : b / 2 ^ m < 2 ^ k = shr_below b k m (rw (add_comm k m) h) in
    rw high (or_shifted (a % 2 ^ m) k (b / 2 ^ m) small)

joined_parts : (k m a b : ℕ) → m + k ≡ 32 → b < 2 ^ 32 → bit_or (a * 2 ^ k % 2 ^ 32) (b / 2 ^ m) ≡ a * 2 ^ k % 2 ^ 32 + b / 2 ^ m
joined_parts k m a b e h = let p = together k m a b (rw e h) in rw e at p

-- by so many places, of which there is one at least: what `a<<k|b>>>32-k` and `a>>>k|b<<32-k` come to

pub funnel_left_joins : (a b k : ℕ) → 0 < k → k < 32 → b < 2 ^ 32 → bit_or (shl_of 32 a k) (shr_u_of 32 b (32 - k)) ≡ funnel_left a b k
funnel_left_joins a b k some few h =
    let e : k % 32 ≡ k = mod-eq_of_lt few in
    let r : (32 - k) % 32 ≡ 32 - k = mod-eq_of_lt (omega (arith, some, few)) in
    let s : (32 - k) + k ≡ 32 = omega (arith, few) in
    let small : k < 2 ^ 32 = omega (arith, few) in
    let sums : a * 2 ^ (k % 32) % 2 ^ 32 + b / 2 ^ (32 - k % 32) ≡ a * 2 ^ k % 2 ^ 32 + b / 2 ^ (32 - k) = rw e refl in
    let parts : bit_or (shl_of 32 a k) (shr_u_of 32 b (32 - k)) ≡ a * 2 ^ k % 2 ^ 32 + b / 2 ^ (32 - k) = rw (e, r) (joined_parts k (32 - k) a b s h) in
    parts ∙ sym (funnel_left_is a b k h small ∙ sums)

pub funnel_right_joins : (a b k : ℕ) → 0 < k → k < 32 → a < 2 ^ 32 → bit_or (shl_of 32 b (32 - k)) (shr_u_of 32 a k) ≡ funnel_right a b k
funnel_right_joins a b k some few h =
    let e : k % 32 ≡ k = mod-eq_of_lt few in
    let r : (32 - k) % 32 ≡ 32 - k = mod-eq_of_lt (omega (arith, some, few)) in
    let s : k + (32 - k) ≡ 32 = omega (arith, few) in
    let small : k < 2 ^ 32 = omega (arith, few) in
    let sums : a / 2 ^ (k % 32) + b * 2 ^ (32 - k % 32) % 2 ^ 32 ≡ a / 2 ^ k + b * 2 ^ (32 - k) % 2 ^ 32 = rw e refl in
    let parts : bit_or (shl_of 32 b (32 - k)) (shr_u_of 32 a k) ≡ b * 2 ^ (32 - k) % 2 ^ 32 + a / 2 ^ k = rw (e, r) (joined_parts (32 - k) k b a s h) in
    parts ∙ add_comm (b * 2 ^ (32 - k) % 2 ^ 32) (a / 2 ^ k) ∙ sym (funnel_right_is a b k h small ∙ sums)

-- ---- the words of 64 bits by a number of places

-- a number's column
near_column : (k : ℕ) → k < 32 → is_far k ≡ false
near_column k few = by_count (λ b. b ≡ false) k 0 (λ near. refl) (λ far. let c = far.count in absurd (omega (arith, few, c)))

far_column : (k : ℕ) → 31 < k → k < 64 → is_far k ≡ true
far_column k many few = by_count (λ b. b ≡ true) k 0 (λ near. let c = near.count in absurd (omega (arith, many, few, c))) (λ far. refl)

same_count : (k : ℕ) → 31 < k → k < 64 → k % 32 ≡ (k - 32) % 32
same_count k many few = omega (arith, many, few)

-- a law of words for counts below 32 and from 32 on, at a number
module _ (wide : ℕ → ℕ → ℕ → ℕ) (near_low near_high far_low far_high : (a x n : ℕ) → ℕ) (law : ByWords wide near_low near_high far_low far_high) (a x k : ℕ) (fa : a < 2 ^ 32) (fx : x < 2 ^ 32) where
  near_words : k < 32 → wide 64 (joined a x) (joined k 0) ≡ joined (near_low a x k) (near_high a x k)
  near_words few =
      law a x k 0 fa fx (omega (arith, few))
      ∙ ap (λ t. if t then joined (far_low a x k) (far_high a x k) else joined (near_low a x k) (near_high a x k)) (near_column k few)

  far_words : 31 < k → k < 64 → wide 64 (joined a x) (joined k 0) ≡ joined (far_low a x k) (far_high a x k)
  far_words many few =
      law a x k 0 fa fx (omega (arith, few))
      ∙ ap (λ t. if t then joined (far_low a x k) (far_high a x k) else joined (near_low a x k) (near_high a x k)) (far_column k many few)

-- a funnel looks at a count modulo 32
funnel_far : (a b k : ℕ) → b < 2 ^ 32 → 31 < k → k < 64 → funnel_left a b k ≡ funnel_left a b (k - 32)
funnel_far a b k h many few =
    let small : k < 2 ^ 32 = omega (arith, few) in
    let less : k - 32 < 2 ^ 32 = omega (arith, few) in
    funnel_left_is a b k h small ∙ ap (λ (i : ℕ). a * 2 ^ i % 2 ^ 32 + b / 2 ^ (32 - i)) (same_count k many few) ∙ sym (funnel_left_is a b (k - 32) h less)

funnel_none : (a b : ℕ) → a < 2 ^ 32 → b < 2 ^ 32 → funnel_left a b 32 ≡ a
funnel_none a b fa fb = funnel_left_is a b 32 fb (omega arith) ∙ omega (arith, fa, fb)

module _ (a x k : ℕ) (fa : a < 2 ^ 32) (fx : x < 2 ^ 32) where
  module _ (some : 0 < k) (few : k < 32) where
    pub near_left : shl_of 64 (joined a x) (joined k 0) ≡ joined (shl_of 32 a k) (bit_or (shl_of 32 x k) (shr_u_of 32 a (32 - k)))
    near_left = near_words shl_of _ _ _ _ shifts_left a x k fa fx few ∙ ap (joined (shl_of 32 a k)) (sym (funnel_left_joins x a k some few fa))

    pub near_right : shr_u_of 64 (joined a x) (joined k 0) ≡ joined (bit_or (shl_of 32 x (32 - k)) (shr_u_of 32 a k)) (shr_u_of 32 x k)
    near_right = near_words shr_u_of (λ a x n. funnel_right a x n) (λ a x n. shr_u_of 32 x n) (λ a x n. shr_u_of 32 x n) (λ a x n. 0) shifts_right a x k fa fx few ∙ ap (λ l. joined l (shr_u_of 32 x k)) (sym (funnel_right_joins a x k some few fa))

    pub near_right_signed : shr_s_of 64 (joined a x) (joined k 0) ≡ joined (bit_or (shl_of 32 x (32 - k)) (shr_u_of 32 a k)) (shr_s_of 32 x k)
    near_right_signed = near_words shr_s_of _ _ _ _ shifts_right_signed a x k fa fx few ∙ ap (λ l. joined l (shr_s_of 32 x k)) (sym (funnel_right_joins a x k some few fa))

    pub near_round : rotl_of 64 (joined a x) (joined k 0) ≡ joined (bit_or (shl_of 32 a k) (shr_u_of 32 x (32 - k))) (bit_or (shl_of 32 x k) (shr_u_of 32 a (32 - k)))
    near_round =
        near_words rotl_of _ _ _ _ rotations_left a x k fa fx few
        ∙ ap (λ l. joined l (funnel_left x a k)) (sym (funnel_left_joins a x k some few fx))
        ∙ ap (joined (bit_or (shl_of 32 a k) (shr_u_of 32 x (32 - k)))) (sym (funnel_left_joins x a k some few fa))

  module _ (many : 31 < k) (few : k < 64) where
    pub far_left : shl_of 64 (joined a x) (joined k 0) ≡ joined 0 (shl_of 32 a (k - 32))
    far_left = far_words shl_of _ _ _ _ shifts_left a x k fa fx many few ∙ ap (λ (i : ℕ). joined 0 (a * 2 ^ i % 2 ^ 32)) (same_count k many few)

    pub far_right : shr_u_of 64 (joined a x) (joined k 0) ≡ joined (shr_u_of 32 x (k - 32)) 0
    far_right = far_words shr_u_of (λ a x n. funnel_right a x n) (λ a x n. shr_u_of 32 x n) (λ a x n. shr_u_of 32 x n) (λ a x n. 0) shifts_right a x k fa fx many few ∙ ap (λ (i : ℕ). joined (x / 2 ^ i) 0) (same_count k many few)

    pub far_right_signed : shr_s_of 64 (joined a x) (joined k 0) ≡ joined (shr_s_of 32 x (k - 32)) (shr_s_of 32 x 31)
    far_right_signed =
        far_words shr_s_of _ _ _ _ shifts_right_signed a x k fa fx many few
        ∙ ap (λ (i : ℕ). joined (word_of 32 (int_shr (signed_of 32 x) i)) (shr_s_of 32 x 31)) (same_count k many few)

    -- the words change places, and go round by the rest
    pub far_round : 32 < k → rotl_of 64 (joined a x) (joined k 0) ≡ joined (bit_or (shl_of 32 x (k - 32)) (shr_u_of 32 a (32 - (k - 32)))) (bit_or (shl_of 32 a (k - 32)) (shr_u_of 32 x (32 - (k - 32))))
    far_round more =
        let some : 0 < k - 32 = omega (arith, more) in
        let less : k - 32 < 32 = omega (arith, few) in
        far_words rotl_of _ _ _ _ rotations_left a x k fa fx many few
        ∙ ap (λ l. joined l (funnel_left a x k)) (funnel_far x a k fa many few ∙ sym (funnel_left_joins x a (k - 32) some less fa))
        ∙ ap (joined (bit_or (shl_of 32 x (k - 32)) (shr_u_of 32 a (32 - (k - 32))))) (funnel_far a x k fx many few ∙ sym (funnel_left_joins a x (k - 32) some less fx))

pub half_round : (a x : ℕ) → a < 2 ^ 32 → x < 2 ^ 32 → rotl_of 64 (joined a x) (joined 32 0) ≡ joined x a
half_round a x fa fx =
    far_words rotl_of _ _ _ _ rotations_left a x 32 fa fx (omega arith) (omega arith)
    ∙ ap (λ l. joined l (funnel_left a x 32)) (funnel_none x a fx fa) ∙ ap (joined x) (funnel_none a x fa fx)

-- ---- by no place

pub none_left : (v : ℕ) → v < 2 ^ 64 → shl_of 64 v (joined 0 0) ≡ v
none_left v h = omega (arith, h)

pub none_right : (v : ℕ) → shr_u_of 64 v (joined 0 0) ≡ v
none_right v = omega arith

same_shifted : (z : ℤ) → int_shr z 0 ≡ z
same_shifted (pos m) = ap pos (omega arith)
same_shifted (negsuc m) = ap negsuc (omega arith)

pub none_right_signed : (v : ℕ) → v < 2 ^ 64 → shr_s_of 64 v (joined 0 0) ≡ v
none_right_signed v h = ap (word_of 64) (same_shifted (signed_of 64 v)) ∙ word_of-signed_of_64 v h

pub none_round : (v : ℕ) → v < 2 ^ 64 → rotl_of 64 v (joined 0 0) ≡ v
none_round v h = omega (arith, h)

-- likewise of words of 32 bits

pub no_left : (a : ℕ) → a < 2 ^ 32 → shl_of 32 a 0 ≡ a
no_left a h = omega (arith, h)

pub no_right : (a : ℕ) → shr_u_of 32 a 0 ≡ a
no_right a = omega arith

pub no_right_signed : (a : ℕ) → a < 2 ^ 32 → shr_s_of 32 a 0 ≡ a
no_right_signed a h = ap (word_of 32) (same_shifted (signed_of 32 a)) ∙ word_of-signed_of_32 a h

-- ---- a count of which only the low word is looked at, modulo 64

same_places : (n y : ℕ) → joined n y % 64 ≡ joined (n % 64) 0 % 64
same_places n y = omega arith

pub places_left : (v n y : ℕ) → shl_of 64 v (joined n y) ≡ shl_of 64 v (joined (n % 64) 0)
places_left v n y = ap (λ (k : ℕ). v * 2 ^ k % 2 ^ 64) (same_places n y)

pub places_right : (v n y : ℕ) → shr_u_of 64 v (joined n y) ≡ shr_u_of 64 v (joined (n % 64) 0)
places_right v n y = ap (λ (k : ℕ). v / 2 ^ k) (same_places n y)

pub places_right_signed : (v n y : ℕ) → shr_s_of 64 v (joined n y) ≡ shr_s_of 64 v (joined (n % 64) 0)
places_right_signed v n y = ap (λ (k : ℕ). word_of 64 (int_shr (signed_of 64 v) k)) (same_places n y)

round_places : (v c e : ℕ) → c % 64 ≡ e % 64 → rotl_of 64 v c ≡ rotl_of 64 v e
round_places v c e same = ap (λ (k : ℕ). v * 2 ^ k % 2 ^ 64 + v / 2 ^ (64 - k)) same

pub places_round : (v n y : ℕ) → rotl_of 64 v (joined n y) ≡ rotl_of 64 v (joined (n % 64) 0)
places_round v n y = round_places v (joined n y) (joined (n % 64) 0) (same_places n y)

opposite : (n : ℕ) → n < 2 ^ 32 → joined (sub_of 32 0 n) 0 % 64 ≡ joined ((64 - n % 64) % 64) 0 % 64
opposite n h = omega (arith, h)

pub places_round_right : (v n y : ℕ) → v < 2 ^ 64 → n < 2 ^ 32 → rotr_of 64 v (joined n y) ≡ rotl_of 64 v (joined ((64 - n % 64) % 64) 0)
places_round_right v n y h s = rotations_right v n y 0 h s ∙ round_places v (joined (sub_of 32 0 n) 0) (joined ((64 - n % 64) % 64) 0) (opposite n s)
