-- Where the words of values stand, and short forms of terms over them.
use Rattle.std.specs.Prelude.{ℕ, ◌-◌, false, true, List, [], ◌∷◌, map, pos}
use Rattle.wasm_lang.specs.declared.types.ValType.{ValType}
use Rattle.wasm_lang.specs.declared.types.ValType.TheVariants.{I32, I64}
use Rattle.wasm2js_translation.specs.Names.{Name, numbered, local_low, local_high, operand_low, operand_high, global_low, global_high}
use Rattle.wasm2js_translation.specs.Words.{shift_left, shift_right, shift_right_signed, Term, read, number, both, flip, sum, no_more, further, Simple, put, Action, simply}

-- the variables of a value: that of its word, or of its low word, and that of its high word where it has 64 bits
pub record Pair : Type 0 where
  pub low : Name
  pub high : Name

abbrev pub local_pair : ℕ → Pair
local_pair x = record { low = numbered local_low x; high = numbered local_high x }

-- of the operand above so many others
abbrev pub operand_pair : ℕ → Pair
operand_pair d = record { low = numbered operand_low d; high = numbered operand_high d }

abbrev pub global_pair : ℕ → Pair
global_pair g = record { low = numbered global_low g; high = numbered global_high g }

-- the variables of a value of this type, the low word first
abbrev pub names_of : ValType → Pair → List Name
names_of I32 p = p.low ∷ []
names_of I64 p = p.low ∷ p.high ∷ []

-- ---- terms

abbrev pub literal : ℕ → Term
literal n = number (pos n)

abbrev pub plus : Term → Term → Term
plus a b = sum a (further false b no_more)

abbrev pub minus : Term → Term → Term
minus a b = sum a (further true b no_more)

-- the high word of a number of 64 bits that has the value of this word's signed reading
abbrev pub sign_of : Term → Term
sign_of low = both shift_right_signed low (literal 31)

-- a word by n places to the left, and what leaves another one where that goes so far to the left too: `(a<<n)+(b>>>1>>>~n)`, which
-- holds for n = 0 too, where a shift by 32 - n would not
abbrev pub funnel_left : (a b n : Term) → Term
funnel_left a b n = plus (both shift_left a n) (both shift_right (both shift_right b (literal 1)) (flip n))

-- likewise to the right: `(a>>>n)+(b<<1<<~n)`
abbrev pub funnel_right : (a b n : Term) → Term
funnel_right a b n = plus (both shift_right a n) (both shift_left (both shift_left b (literal 1)) (flip n))

-- the low bits of a word, extended with their sign: `a<<k>>k`
abbrev pub extended : (bits : ℕ) → Term → Term
extended bits a = both shift_right_signed (both shift_left a (literal (32 - bits))) (literal (32 - bits))

-- ---- actions

abbrev pub simples : List Simple → List Action
simples ss = map simply ss

-- a value of this type from one place to another
abbrev pub moved : ValType → (from to : Pair) → List Simple
moved I32 from to = put to.low (read from.low) ∷ []
moved I64 from to = put to.low (read from.low) ∷ put to.high (read from.high) ∷ []
