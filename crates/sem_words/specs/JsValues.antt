-- JavaScript values, as far as integer code makes them, and their conversions (ECMA-262, 6th edition).
-- A quotient stays an exact pair here, where ECMA-262 takes the nearest double. Nothing is done with one but to cut off its
-- fraction and to ask whether it is 0, and the nearest double answers alike: a quotient of magnitude 2 ^ e or more of a number
-- below 2 ^ 32 has a divisor below 2 ^ (32 - e), so where it isn't whole it lies more than 2 ^ (e - 32) away from each whole
-- number, and the nearest double of one below 2 ^ (e + 1) lies at most 2 ^ (e - 53) away from it.
use Rattle.std.specs.Prelude.{◌≡◌, ℕ, ◌-◌, ◌^◌, ◌≤◌, Bool, true, false, not, ◌==◌, ℤ, pos, negsuc, ◌≤ℤ◌, ◌<ℤ◌, int_div, int_rem, unsigned_abs}
use Rattle.sem_words.specs.declared.js_value.JsValue.{JsValue}
use Rattle.sem_words.specs.declared.js_value.JsValue.TheVariants.{Whole, Frac, NegZero, NaN, PosInf, NegInf, Bool as Boolean, Undef}
use Rattle.sem_words.specs.Words.{signed_of, word_of}

-- the quotient a / b of two 32-bit numbers, which isn't whole
pub record IsFrac (a b : ℤ) : Type 0 where
  pub low : negsuc (2 ^ 31 - 1) ≤ℤ a
  pub high : a <ℤ pos (2 ^ 32)
  pub above_zero : pos 0 <ℤ b
  pub divisor : b <ℤ pos (2 ^ 32)
  pub no_whole : ¬ (int_rem a b ≡ pos 0)

-- the rules that a value keeps: each whole number is a double and so is its neighbour, and each quotient is one that `/` makes
abbrev pub IsValue : JsValue → Type 0
IsValue (Whole z) = unsigned_abs z ≤ 2 ^ 53
IsValue (Frac a b) = IsFrac a b
IsValue NegZero = Unit {0}
IsValue NaN = Unit {0}
IsValue PosInf = Unit {0}
IsValue NegInf = Unit {0}
IsValue (Boolean b) = Unit {0}
IsValue Undef = Unit {0}

-- ToNumber (section 7.1.3)
abbrev pub to_number_of : JsValue → JsValue
to_number_of (Boolean true) = Whole (pos 1)
to_number_of (Boolean false) = Whole (pos 0)
to_number_of Undef = NaN
to_number_of (Whole z) = Whole z
to_number_of (Frac a b) = Frac a b
to_number_of NegZero = NegZero
to_number_of NaN = NaN
to_number_of PosInf = PosInf
to_number_of NegInf = NegInf

-- steps 3 to 5 of ToUint32 (section 7.1.6), at a number: its whole part modulo 2 ^ 32, and 0 where it has none
abbrev pub uint32_of_number : JsValue → ℕ
uint32_of_number (Whole z) = word_of 32 z
uint32_of_number (Frac a b) = word_of 32 (int_div a b)
uint32_of_number NegZero = 0
uint32_of_number NaN = 0
uint32_of_number PosInf = 0
uint32_of_number NegInf = 0
uint32_of_number (Boolean b) = 0
uint32_of_number Undef = 0

-- ToUint32 (section 7.1.6)
abbrev pub to_uint32_of : JsValue → ℕ
to_uint32_of v = uint32_of_number (to_number_of v)

-- ToInt32 (section 7.1.5)
abbrev pub to_int32_of : JsValue → ℤ
to_int32_of v = signed_of 32 (to_uint32_of v)

-- ToBoolean (section 7.1.2)
abbrev pub truthy_of : JsValue → Bool
truthy_of (Whole z) = not (unsigned_abs z == 0)
truthy_of (Frac a b) = true
truthy_of NegZero = false
truthy_of NaN = false
truthy_of PosInf = true
truthy_of NegInf = true
truthy_of (Boolean b) = b
truthy_of Undef = false
