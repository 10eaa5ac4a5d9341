-- Operators on words of 64 bits, each of which stands in a pair of variables. The result may stand where the first operand stands;
-- nothing is named but the variables of the operands and the result, the helpers, and `$q`, in which a helper leaves a high word.
use Rattle.std.specs.Prelude.{ℕ, ◌-◌, ◌%◌, Bool, true, false, nat_lt, ℤ, Option, Some, None, List, [], ◌∷◌, ◌==◌, if◌then◌else◌}
use Rattle.sem_words.specs.declared.word.Bin.{Bin}
use Rattle.sem_words.specs.declared.word.Bin.TheVariants as bins
use Rattle.sem_words.specs.declared.word.Un.{Un}
use Rattle.sem_words.specs.declared.word.Un.TheVariants as uns
use Rattle.sem_words.specs.declared.word.Rel.{Rel}
use Rattle.sem_words.specs.declared.word.Rel.TheVariants as rels
use Rattle.sem_words.specs.Words.{word_of}
use Rattle.wasm_lang.specs.declared.types.ValType.TheVariants.{I64}
use Rattle.wasm2js_translation.specs.Names as names
use Rattle.wasm2js_translation.specs.Names.{Name, Fixed, fixed, spare_high}
use Rattle.wasm2js_translation.specs.Words.{BitOp, conjunction, disjunction, exclusion, shift_left, shift_right_signed, shift_right, Relation, equal, less, at_most, greater, at_least, Term, read, both, sum, no_more, further, compare, choose, Simple, put, ask}
use Rattle.wasm2js_translation.specs.Pairs.{Pair, literal, plus, minus, sign_of, extended, moved}

-- ---- with a result of 64 bits

-- the carry of the low words goes into the high one
abbrev pub wide_sum : (a b to : Pair) → List Simple
wide_sum a b to =
    put to.low (plus (read a.low) (read b.low))
    ∷ put to.high (sum (read a.high) (further false (read b.high) (further false (compare false less (read to.low) (read b.low)) no_more)))
    ∷ []

-- so does what the low words borrow, while they stand
abbrev pub wide_difference : (a b to : Pair) → List Simple
wide_difference a b to =
    put to.high (sum (read a.high) (further true (read b.high) (further true (compare false less (read a.low) (read b.low)) no_more)))
    ∷ put to.low (minus (read a.low) (read b.low))
    ∷ []

abbrev pub wide_bits : BitOp → (a b to : Pair) → List Simple
wide_bits op a b to = put to.low (both op (read a.low) (read b.low)) ∷ put to.high (both op (read a.high) (read b.high)) ∷ []

-- by a helper that takes both words and a count
abbrev pub wide_turn : Fixed → (a to : Pair) → (count : Term) → List Simple
wide_turn helper a to count = ask to.low helper (read a.low ∷ read a.high ∷ count ∷ []) ∷ put to.high (read (fixed spare_high)) ∷ []

-- a product, a quotient and a remainder aren't made of words of 32 bits here
abbrev pub wide_binary : Bin → (a b to : Pair) → List Simple
wide_binary bins.Add a b to = wide_sum a b to
wide_binary bins.Sub a b to = wide_difference a b to
wide_binary bins.Mul a b to = []
wide_binary bins.DivS a b to = []
wide_binary bins.DivU a b to = []
wide_binary bins.RemS a b to = []
wide_binary bins.RemU a b to = []
wide_binary bins.And a b to = wide_bits conjunction a b to
wide_binary bins.Or a b to = wide_bits disjunction a b to
wide_binary bins.Xor a b to = wide_bits exclusion a b to
wide_binary bins.Shl a b to = wide_turn names.shift_left a to (read b.low)
wide_binary bins.ShrS a b to = wide_turn names.shift_right_signed a to (read b.low)
wide_binary bins.ShrU a b to = wide_turn names.shift_right a to (read b.low)
wide_binary bins.Rotl a b to = wide_turn names.rotate_left a to (read b.low)
wide_binary bins.Rotr a b to = wide_turn names.rotate_left a to (minus (literal 0) (read b.low))

-- ---- by a number of places that is known, of which there are less than 64, without a helper; no variable is written before its last reading

-- a shift by no place is the word itself
abbrev pub shifted : BitOp → (k : ℕ) → Name → Term
shifted op k a = if k == 0 then read a else both op (read a) (literal k)

-- a word by so many places to the left, which are 1 to 31, and what comes in there from another one
abbrev pub joined_left : (k : ℕ) → (upper lower : Name) → Term
joined_left k upper lower = both disjunction (both shift_left (read upper) (literal k)) (both shift_right (read lower) (literal (32 - k)))

abbrev pub left_by : (k : ℕ) → (a to : Pair) → List Simple
left_by k a to =
    if k == 0 then moved I64 a to
    else (if nat_lt k 32 then put to.high (joined_left k a.high a.low) ∷ put to.low (shifted shift_left k a.low) ∷ []
    else put to.high (shifted shift_left (k - 32) a.low) ∷ put to.low (literal 0) ∷ [])

abbrev pub to_right : (signed : Bool) → BitOp
to_right true = shift_right_signed
to_right false = shift_right

-- the high word of which no bit is left but the sign
abbrev pub emptied : (signed : Bool) → Name → Term
emptied true a = sign_of (read a)
emptied false a = literal 0

abbrev pub right_by : (signed : Bool) → (k : ℕ) → (a to : Pair) → List Simple
right_by signed k a to =
    if k == 0 then moved I64 a to
    else (if nat_lt k 32 then put to.low (joined_left (32 - k) a.high a.low) ∷ put to.high (shifted (to_right signed) k a.high) ∷ []
    else put to.low (shifted (to_right signed) (k - 32) a.high) ∷ put to.high (emptied signed a.high) ∷ [])

-- the low word stands in the spare variable meanwhile
abbrev pub turned_from : (k : ℕ) → (spare high : Name) → (to : Pair) → List Simple
turned_from k spare high to =
    if k == 32 then put to.low (read high) ∷ put to.high (read spare) ∷ []
    else (if nat_lt k 32 then put to.low (joined_left k spare high) ∷ put to.high (joined_left k high spare) ∷ []
    else put to.low (joined_left (k - 32) high spare) ∷ put to.high (joined_left (k - 32) spare high) ∷ [])

abbrev pub round_by : (k : ℕ) → (a : Pair) → (spare : Name) → (to : Pair) → List Simple
round_by k a spare to = if k == 0 then moved I64 a to else put spare (read a.low) ∷ turned_from k spare a.high to

-- the variable of the count's low word is spare
abbrev pub wide_binary_by : Bin → (k : ℕ) → (a b to : Pair) → List Simple
wide_binary_by bins.Shl k a b to = left_by k a to
wide_binary_by bins.ShrS k a b to = right_by true k a to
wide_binary_by bins.ShrU k a b to = right_by false k a to
wide_binary_by bins.Rotl k a b to = round_by k a b.low to
wide_binary_by bins.Rotr k a b to = round_by ((64 - k) % 64) a b.low to
wide_binary_by op k a b to = wide_binary op a b to

-- where the low word of the second operand is this number, if it is one
abbrev pub wide_binary_at : Option ℤ → Bin → (a b to : Pair) → List Simple
wide_binary_at None op a b to = wide_binary op a b to
wide_binary_at (Some z) op a b to = wide_binary_by op (word_of 32 z % 64) a b to

-- a number of bits, which is at most 64
abbrev pub wide_count : Fixed → (a to : Pair) → List Simple
wide_count helper a to = ask to.low helper (read a.low ∷ read a.high ∷ []) ∷ put to.high (literal 0) ∷ []

abbrev pub wide_unary : Un → (a to : Pair) → List Simple
wide_unary uns.Clz a to = wide_count names.leading_zeros a to
wide_unary uns.Ctz a to = wide_count names.trailing_zeros a to
wide_unary uns.Popcnt a to =
    ask to.low names.set_bits (read a.low ∷ [])
    ∷ ask to.high names.set_bits (read a.high ∷ [])
    ∷ put to.low (plus (read to.low) (read to.high))
    ∷ put to.high (literal 0)
    ∷ []

-- the low bits, of which there are 8, 16 or 32, extended with their sign
abbrev pub low_bits : (bits : ℕ) → Name → Term
low_bits bits a = if bits == 32 then read a else extended bits (read a)

abbrev pub wide_extend : (bits : ℕ) → (a to : Pair) → List Simple
wide_extend bits a to = put to.low (low_bits bits a.low) ∷ put to.high (sign_of (read to.low)) ∷ []

-- ---- truth values

abbrev pub are_equal : (a b : Pair) → Term
are_equal a b = both conjunction (compare true equal (read a.low) (read b.low)) (compare true equal (read a.high) (read b.high))

-- the high words decide where they differ
abbrev pub in_order : (signed : Bool) → Relation → (a b : Pair) → Term
in_order signed r a b =
    choose (compare true equal (read a.high) (read b.high)) (compare false r (read a.low) (read b.low)) (compare signed r (read a.high) (read b.high))

abbrev pub wide_relation : Rel → (a b : Pair) → Term
wide_relation rels.Eq a b = are_equal a b
wide_relation rels.Ne a b = compare true equal (are_equal a b) (literal 0)
wide_relation rels.LtS a b = in_order true less a b
wide_relation rels.LtU a b = in_order false less a b
wide_relation rels.GtS a b = in_order true greater a b
wide_relation rels.GtU a b = in_order false greater a b
wide_relation rels.LeS a b = in_order true at_most a b
wide_relation rels.LeU a b = in_order false at_most a b
wide_relation rels.GeS a b = in_order true at_least a b
wide_relation rels.GeU a b = in_order false at_least a b

abbrev pub wide_compare : Rel → (a b : Pair) → (to : Name) → List Simple
wide_compare op a b to = put to (wide_relation op a b) ∷ []

abbrev pub is_wide_zero : Pair → Term
is_wide_zero a = both conjunction (compare true equal (read a.low) (literal 0)) (compare true equal (read a.high) (literal 0))
