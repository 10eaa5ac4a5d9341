-- Each number of its width is spelled, by bytes.
use Rattle.std.proofs.Common.{◌≡◌, ℕ, zero, suc, ◌+◌, ◌-◌, ◌*◌, ◌/◌, ◌%◌, ◌^◌, ◌<◌, ◌≤◌, true, false, List, [], ◌∷◌, ◌++◌, length, refl, sym, ap, subst, ◌∙◌, arith, inl, inr, append_assoc}
use Rattle.std.proofs.Math.Pow.{pow_mono}
use Rattle.std.proofs.lemmas.Nat.{pow-add}
use Rattle.std.proofs.lemmas.Bool.{cases_lt, lt-ltb, le-ltb}
use Rattle.wasm_lang.specs.Numbers.{IsUnsigned, last_unsigned, more_unsigned, IsInteger, last_positive, last_negative, more_integer, IsU32}
use Rattle.wasm_lang.specs.Grammar.{Spelling}
use Rattle.wasm_binary_write.specs.Spelling.{groups, unsigned, integer}
use Rattle.wasm_binary_write.proofs.Groups.{groups_last, groups_more}
use Rattle.wasm_binary_write.proofs.Best.{AreBytes, bytes_append, sevens}

-- P says which bytes are a spelling of the value, and what follows them; own is one
pub record Spelled (P : List ℕ → List ℕ → Type 0) (own : List ℕ) : Type 0 where
  pub spells : (zs : List ℕ) → P (own ++ zs) zs
  pub bytes : AreBytes own

-- the values that fit are spelled, where their bytes are few enough
abbrev pub Writes : {X : Type 0} → Spelling X → (X → List ℕ) → (X → Type 0) → Type 0
Writes {X = X} P f Fits = (v : X) → Fits v → length (f v) < 2 ^ 32 → Spelled (P v) (f v)

-- ---- two parts

pub two : (P Q R : List ℕ → List ℕ → Type 0) (a b : List ℕ) → Spelled P a → Spelled Q b
    → ((us : List ℕ) → P ((a ++ b) ++ us) (b ++ us) → Q (b ++ us) us → R ((a ++ b) ++ us) us) → Spelled R (a ++ b)
two P Q R a b p q f = record {
  spells = λ us. f us (subst (λ l. P l (b ++ us)) (sym (append_assoc a b us)) (p.spells (b ++ us))) (q.spells us);
  bytes = bytes_append a b p.bytes q.bytes;
}

pub behind_byte : (P Q : List ℕ → List ℕ → Type 0) (b : ℕ) (own : List ℕ) → b < 256 → Spelled P own → ((us : List ℕ) → P (own ++ us) us → Q (b ∷ (own ++ us)) us) → Spelled Q (b ∷ own)
behind_byte P Q b own small p f = record { spells = λ us. f us (p.spells us); bytes = (small, p.bytes) }

pub one_byte : (P : List ℕ → List ℕ → Type 0) (b : ℕ) → b < 256 → ((us : List ℕ) → P (b ∷ us) us) → Spelled P (b ∷ [])
one_byte P b small f = record { spells = f; bytes = (small, tt) }

-- ---- unsigned numbers

short_number : (bits n : ℕ) → n < 128 → n < 2 ^ bits → Spelled (IsUnsigned bits n) (unsigned n)
short_number bits n small h = subst (Spelled (IsUnsigned bits n)) (sym (groups_last 128 false n small)) (one_byte (IsUnsigned bits n) n (omega arith) (λ us. last_unsigned (omega arith) h))

wide_bits : (bits n : ℕ) → 128 ≤ n → n < 2 ^ bits → 7 < bits
wide_bits bits n large h = elim (cases_lt 7 bits) [ inl l ↦ l | inr l ↦ (let p : 2 ^ bits ≤ 2 ^ 7 = pow_mono l in absurd (omega arith)) ]

unsigned_within : (turns bits n : ℕ) → n ≤ turns → n < 2 ^ bits → Spelled (IsUnsigned bits n) (unsigned n)
unsigned_within zero bits n t h = short_number bits n (omega arith) h
unsigned_within (suc turns) bits n t h =
    elim (cases_lt n 128) [
      | inl small ↦ short_number bits n small h
      | inr large ↦
          let wide = wide_bits bits n large h in
          let e = sevens bits (bits - 7) (omega arith) in
          let below = unsigned_within turns (bits - 7) (n / 128) (omega arith) (omega arith) in
          let again : 2 ^ 7 * (n / 128) + (n % 128 + 128 - 2 ^ 7) ≡ n = omega arith in
          subst (Spelled (IsUnsigned bits n)) (sym (groups_more 128 false n (omega arith) large))
          (behind_byte (IsUnsigned (bits - 7) (n / 128)) (IsUnsigned bits n) (n % 128 + 128) (unsigned (n / 128)) (omega arith) below
          (λ us s. subst (λ m. IsUnsigned bits m ((n % 128 + 128) ∷ (unsigned (n / 128) ++ us)) us) again (more_unsigned (omega arith) wide s)))
    ]

pub u32_spelled : (n : ℕ) → n < 2 ^ 32 → Spelled (IsU32 n) (unsigned n)
u32_spelled n h = unsigned_within n 32 n (omega arith) h

-- ---- words

halves : (bits : ℕ) → 0 < bits → 2 ^ bits ≡ 2 * 2 ^ (bits - 1)
halves bits h = let e : bits ≡ 1 + (bits - 1) = omega arith in ap (λ n. 2 ^ n) e ∙ pow-add 2 1 (bits - 1)

wide_word : (bits n : ℕ) → 64 ≤ n → n < 2 ^ (bits - 1) → 7 < bits
wide_word bits n large h = elim (cases_lt 7 bits) [ inl l ↦ l | inr l ↦ (let k : bits - 1 ≤ 6 = omega arith in let p : 2 ^ (bits - 1) ≤ 2 ^ 6 = pow_mono k in absurd (omega arith)) ]

short_positive : (bits n : ℕ) → n < 64 → n < 2 ^ (bits - 1) → Spelled (IsInteger bits n) (groups 64 false n)
short_positive bits n small h = subst (Spelled (IsInteger bits n)) (sym (groups_last 64 false n small)) (one_byte (IsInteger bits n) n (omega arith) (λ us. last_positive (omega arith) h))

positive : (turns bits n : ℕ) → n ≤ turns → n < 2 ^ (bits - 1) → Spelled (IsInteger bits n) (groups 64 false n)
positive zero bits n t h = short_positive bits n (omega arith) h
positive (suc turns) bits n t h =
    elim (cases_lt n 64) [
      | inl small ↦ short_positive bits n small h
      | inr large ↦
          let wide = wide_word bits n large h in
          let e = sevens (bits - 1) (bits - 7 - 1) (omega arith) in
          let below = positive turns (bits - 7) (n / 128) (omega arith) (omega arith) in
          let again : 2 ^ 7 * (n / 128) + (n % 128 + 128 - 2 ^ 7) ≡ n = omega arith in
          subst (Spelled (IsInteger bits n)) (sym (groups_more 64 false n (omega arith) large))
          (behind_byte (IsInteger (bits - 7) (n / 128)) (IsInteger bits n) (n % 128 + 128) (groups 64 false (n / 128)) (omega arith) below
          (λ us s. subst (λ m. IsInteger bits m ((n % 128 + 128) ∷ (groups 64 false (n / 128) ++ us)) us) again (more_integer (omega arith) wide s)))
    ]

-- the word of -(m + 1)
abbrev turned : (bits m : ℕ) → ℕ
turned bits m = 2 ^ bits - 1 - m

short_negative : (bits m : ℕ) → 0 < bits → m < 64 → m < 2 ^ (bits - 1) → Spelled (IsInteger bits (turned bits m)) (groups 64 true m)
short_negative bits m p small h =
    let e = halves bits p in
    let again : 127 - m + 2 ^ bits - 2 ^ 7 ≡ turned bits m = omega arith in
    subst (Spelled (IsInteger bits (turned bits m))) (sym (groups_last 64 true m small))
    (one_byte (IsInteger bits (turned bits m)) (127 - m) (omega arith) (λ us. subst (λ n. IsInteger bits n ((127 - m) ∷ us) us) again (last_negative (omega arith) (omega arith) (omega arith))))

negative : (turns bits m : ℕ) → m ≤ turns → 0 < bits → m < 2 ^ (bits - 1) → Spelled (IsInteger bits (turned bits m)) (groups 64 true m)
negative zero bits m t p h = short_negative bits m p (omega arith) h
negative (suc turns) bits m t p h =
    elim (cases_lt m 64) [
      | inl small ↦ short_negative bits m p small h
      | inr large ↦
          let wide = wide_word bits m large h in
          let e = sevens (bits - 1) (bits - 7 - 1) (omega arith) in
          let d = sevens bits (bits - 7) (omega arith) in
          let two = halves (bits - 7) (omega arith) in
          let below = negative turns (bits - 7) (m / 128) (omega arith) (omega arith) (omega arith) in
          let b = 127 - m % 128 + 128 in
          let again : 2 ^ 7 * turned (bits - 7) (m / 128) + (b - 2 ^ 7) ≡ turned bits m = omega arith in
          subst (Spelled (IsInteger bits (turned bits m))) (sym (groups_more 64 true m (omega arith) large))
          (behind_byte (IsInteger (bits - 7) (turned (bits - 7) (m / 128))) (IsInteger bits (turned bits m)) b (groups 64 true (m / 128)) (omega arith) below
          (λ us s. subst (λ n. IsInteger bits n (b ∷ (groups 64 true (m / 128) ++ us)) us) again (more_integer (omega arith) wide s)))
    ]

pub word_spelled : (bits n : ℕ) → 0 < bits → n < 2 ^ bits → Spelled (IsInteger bits n) (integer bits n)
word_spelled bits n p h =
    let e = halves bits p in
    elim (cases_lt n (2 ^ (bits - 1))) [
      | inl low ↦
          let own : integer bits n ≡ groups 64 false n = (let t = lt-ltb n (2 ^ (bits - 1)) low in rw t refl) in
          subst (Spelled (IsInteger bits n)) (sym own) (positive n bits n (omega arith) low)
      | inr high ↦
          let m = 2 ^ bits - 1 - n in
          let own : integer bits n ≡ groups 64 true m = (let t = le-ltb n (2 ^ (bits - 1)) high in rw t refl) in
          let again : turned bits m ≡ n = omega arith in
          subst (Spelled (IsInteger bits n)) (sym own) (subst (λ n. Spelled (IsInteger bits n) (groups 64 true m)) again (negative m bits m (omega arith) p (omega arith)))
    ]

-- ---- how long a number is

pub low_number_short : (n : ℕ) → n < 128 → length (unsigned n) ≤ 1
low_number_short n h = omega (arith, ap length (groups_last 128 false n h))

short_more : (k bound n : ℕ) → ((q : ℕ) → q < bound → length (unsigned q) ≤ k) → n < 128 * bound → length (unsigned n) ≤ 1 + k
short_more k bound n below h =
    elim (cases_lt n 128) [
      | inl small ↦ omega (arith, low_number_short n small)
      | inr large ↦ (let q : n / 128 < bound = omega arith in omega (arith, ap length (groups_more 128 false n (omega arith) large), below (n / 128) q))
    ]

pub number_short : (n : ℕ) → n < 2 ^ 32 → length (unsigned n) ≤ 5
number_short n h =
    short_more 4 268435456 n
    (λ q l. short_more 3 2097152 q (λ q l. short_more 2 16384 q (λ q l. short_more 1 128 q low_number_short (omega arith)) (omega arith)) (omega arith)) (omega arith)
