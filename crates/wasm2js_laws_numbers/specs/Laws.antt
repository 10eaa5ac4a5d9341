-- Operators on words of 64 bits as operators on their low and high words, which are words of 32 bits.
use Rattle.std.specs.Prelude.{◌≡◌, ℕ, ◌+◌, ◌-◌, ◌*◌, ◌^◌, ◌<◌, Bool, true, false, if◌then◌else◌, ◌==◌, nat_lt, bit_and}
use Rattle.sem_words.specs.declared.word.Rel.{Rel}
use Rattle.sem_words.specs.declared.word.Rel.TheVariants.{Eq, Ne, LtS, LtU, GtS, GtU, LeS, LeU, GeS, GeU}
use Rattle.sem_words.specs.Words.{add_of, sub_of, shl_of, shr_s_of, shr_u_of, rotl_of, rotr_of, leading_zeros_of, trailing_zeros_of, set_bits_of, rel_of, extend_of}

-- the word of 64 bits with these words of 32 bits
abbrev pub joined : (low high : ℕ) → ℕ
joined low high = low + 2 ^ 32 * high

-- 1 where the test holds, else 0
abbrev pub truth : Bool → ℕ
truth true = 1
truth false = 0

-- ---- sums and differences

-- the low words carry where their sum is below one of them
abbrev pub SumsCarry : Type 0
SumsCarry =
    (a x b y : ℕ) → a < 2 ^ 32 → x < 2 ^ 32 → b < 2 ^ 32 → y < 2 ^ 32
    → add_of 64 (joined a x) (joined b y) ≡ joined (add_of 32 a b) (add_of 32 (add_of 32 x y) (truth (nat_lt (add_of 32 a b) b)))

abbrev pub DifferencesBorrow : Type 0
DifferencesBorrow =
    (a x b y : ℕ) → a < 2 ^ 32 → x < 2 ^ 32 → b < 2 ^ 32 → y < 2 ^ 32
    → sub_of 64 (joined a x) (joined b y) ≡ joined (sub_of 32 a b) (sub_of 32 (sub_of 32 x y) (truth (nat_lt a b)))

-- ---- operators that go bit by bit

abbrev pub BitsAreApart : (ℕ → ℕ → ℕ) → Type 0
BitsAreApart op = (a x b y : ℕ) → a < 2 ^ 32 → b < 2 ^ 32 → op (joined a x) (joined b y) ≡ joined (op a b) (op x y)

-- ---- shifts and rotations

-- all bits of a word turned
abbrev pub flipped : ℕ → ℕ
flipped n = 2 ^ 32 - 1 - n

-- `(a<<n)+(b>>>1>>>~n)` and `(a>>>n)+(b<<1<<~n)`
abbrev pub funnel_left : (a b n : ℕ) → ℕ
funnel_left a b n = add_of 32 (shl_of 32 a n) (shr_u_of 32 (shr_u_of 32 b 1) (flipped n))

abbrev pub funnel_right : (a b n : ℕ) → ℕ
funnel_right a b n = add_of 32 (shr_u_of 32 a n) (shl_of 32 (shl_of 32 b 1) (flipped n))

-- the test of the bit of 32: whether a count modulo 64 is 32 or more
abbrev pub is_far : ℕ → Bool
is_far n = nat_lt 0 (bit_and n 32)

-- a count of which only the low word is looked at
abbrev pub ByWords : (wide : ℕ → ℕ → ℕ → ℕ) (near_low near_high far_low far_high : (a x n : ℕ) → ℕ) → Type 0
ByWords wide near_low near_high far_low far_high =
    (a x n more : ℕ) → a < 2 ^ 32 → x < 2 ^ 32 → n < 2 ^ 32
    → wide 64 (joined a x) (joined n more) ≡ (if is_far n then joined (far_low a x n) (far_high a x n) else joined (near_low a x n) (near_high a x n))

abbrev pub ShiftsLeft : Type 0
ShiftsLeft = ByWords shl_of (λ a x n. shl_of 32 a n) (λ a x n. funnel_left x a n) (λ a x n. 0) (λ a x n. shl_of 32 a n)

abbrev pub ShiftsRight : Type 0
ShiftsRight = ByWords shr_u_of (λ a x n. funnel_right a x n) (λ a x n. shr_u_of 32 x n) (λ a x n. shr_u_of 32 x n) (λ a x n. 0)

abbrev pub ShiftsRightSigned : Type 0
ShiftsRightSigned = ByWords shr_s_of (λ a x n. funnel_right a x n) (λ a x n. shr_s_of 32 x n) (λ a x n. shr_s_of 32 x n) (λ a x n. shr_s_of 32 x 31)

abbrev pub RotationsLeft : Type 0
RotationsLeft = ByWords rotl_of (λ a x n. funnel_left a x n) (λ a x n. funnel_left x a n) (λ a x n. funnel_left x a n) (λ a x n. funnel_left a x n)

-- to the right by a count is to the left by its opposite
abbrev pub RotationsRight : Type 0
RotationsRight = (a n more others : ℕ) → a < 2 ^ 64 → n < 2 ^ 32 → rotr_of 64 a (joined n more) ≡ rotl_of 64 a (joined (sub_of 32 0 n) others)

-- of one word
abbrev pub NarrowRotationsLeft : Type 0
NarrowRotationsLeft = (a n : ℕ) → a < 2 ^ 32 → n < 2 ^ 32 → rotl_of 32 a n ≡ funnel_left a a n

abbrev pub NarrowRotationsRight : Type 0
NarrowRotationsRight = (a n : ℕ) → a < 2 ^ 32 → n < 2 ^ 32 → rotr_of 32 a n ≡ funnel_right a a n

-- ---- counts of bits

-- the high word's where it has one, else those of the low word too
abbrev pub LeadingZeros : Type 0
LeadingZeros =
    (a x : ℕ) → a < 2 ^ 32 → x < 2 ^ 32 → leading_zeros_of 64 (joined a x) ≡ (if x == 0 then 32 + leading_zeros_of 32 a else leading_zeros_of 32 x)

abbrev pub TrailingZeros : Type 0
TrailingZeros =
    (a x : ℕ) → a < 2 ^ 32 → x < 2 ^ 32 → trailing_zeros_of 64 (joined a x) ≡ (if a == 0 then 32 + trailing_zeros_of 32 x else trailing_zeros_of 32 a)

abbrev pub SetBits : Type 0
SetBits = (a x : ℕ) → a < 2 ^ 32 → set_bits_of 64 (joined a x) ≡ set_bits_of 32 a + set_bits_of 32 x

-- the bits below the lowest one that is set: `~a&(a-1)`
abbrev pub low_ones : ℕ → ℕ
low_ones a = bit_and (flipped a) (sub_of 32 a 1)

abbrev pub NarrowTrailingZeros : Type 0
NarrowTrailingZeros = (a : ℕ) → a < 2 ^ 32 → leading_zeros_of 32 (low_ones a) + trailing_zeros_of 32 a ≡ 32

-- ---- comparisons

-- the relation of the low words where the high ones are the same
abbrev pub low_relation : Rel → Rel
low_relation Eq = Eq
low_relation Ne = Ne
low_relation LtS = LtU
low_relation LtU = LtU
low_relation GtS = GtU
low_relation GtU = GtU
low_relation LeS = LeU
low_relation LeU = LeU
low_relation GeS = GeU
low_relation GeU = GeU

abbrev pub HighWordsDecide : Type 0
HighWordsDecide =
    (op : Rel) (a x b y : ℕ) → a < 2 ^ 32 → x < 2 ^ 32 → b < 2 ^ 32 → y < 2 ^ 32
    → rel_of 64 op (joined a x) (joined b y) ≡ (if x == y then rel_of 32 (low_relation op) a b else rel_of 32 op x y)

-- ---- extension with the sign

-- the low bits by a shift to the left and back, `a<<k>>k`
abbrev pub extended : (bits a : ℕ) → ℕ
extended bits a = shr_s_of 32 (shl_of 32 a (32 - bits)) (32 - bits)

-- of 8 and of 16 bits
abbrev pub NarrowExtensions : Type 0
NarrowExtensions = (a : ℕ) → a < 2 ^ 32 → (extend_of 32 8 a ≡ extended 8 a) × (extend_of 32 16 a ≡ extended 16 a)

-- the high word has the sign of the low one
abbrev pub with_sign : ℕ → ℕ
with_sign a = joined a (shr_s_of 32 a 31)

abbrev pub WideExtensions : Type 0
WideExtensions =
    (a x : ℕ) → a < 2 ^ 32 → x < 2 ^ 32
    → (extend_of 64 8 (joined a x) ≡ with_sign (extended 8 a)) × (extend_of 64 16 (joined a x) ≡ with_sign (extended 16 a)) × (extend_of 64 32 (joined a x) ≡ with_sign a)
