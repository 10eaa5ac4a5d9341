-- The names in what WebAssembly is translated to, and how they are spelled and ordered.
use Rattle.std.specs.Prelude.{ℕ, zero, suc, ◌+◌, ◌*◌, ◌<◌, ◌≡◌, ◌⊎◌, Bool, false, ◌&&◌, ◌==◌, List, [], ◌∷◌, map, codes}
use Rattle.std.specs.Int.Digits.{digits_of}

-- what a numbered name is of
pub data Numbered : Type 0 where
  local_low : Numbered  -- the word, or the low word, of a local variable of the source
  local_high : Numbered  -- its high word
  operand_low : Numbered  -- the operand above so many others: its word, or its low word
  operand_high : Numbered  -- its high word
  global_low : Numbered  -- likewise of a global variable
  global_high : Numbered
  function : Numbered  -- a function of the source, imported ones first
  foreign : Numbered  -- what an imported function is imported as
  table : Numbered  -- a table that is called through
  no_entry : Numbered  -- what stands for no entry, and for an entry of another type, in a table
  other_entry : Numbered
  label : Numbered  -- the label of a block inside so many others

-- the names that each module has, and those that it has where they are used
pub data Fixed : Type 0 where
  -- the views of the heap
  view_of_bytes : Fixed
  view_of_signed_bytes : Fixed
  view_of_words : Fixed
  -- members of the standard library
  imul : Fixed
  clz32 : Fixed
  -- foreign functions
  trap : Fixed
  high : Fixed
  -- the high word that a helper hands out, and that of the last result of a function
  spare_high : Fixed
  result_high : Fixed
  -- helpers on words of 64 bits
  shift_left : Fixed
  shift_right_signed : Fixed
  shift_right : Fixed
  rotate_left : Fixed
  leading_zeros : Fixed
  trailing_zeros : Fixed
  set_bits : Fixed
  -- helpers on words of 32 bits, which trap
  divide_signed : Fixed
  divide : Fixed
  remainder_signed : Fixed
  remainder : Fixed
  -- helpers on the heap
  load_32 : Fixed
  load_64 : Fixed
  store_32 : Fixed
  store_64 : Fixed
  copy : Fixed
  fill : Fixed
  data_words : Fixed
  data_zeros : Fixed
  -- functions that are exported beside those of the source
  init : Fixed
  last_high : Fixed

pub data Name : Type 0 where
  numbered : Numbered → ℕ → Name
  fixed : Fixed → Name

-- ---- spelling

-- a letter, and the number in decimal digits

abbrev pub letter : Numbered → ℕ
letter local_low = 120  -- x
letter local_high = 88  -- X
letter operand_low = 115  -- s
letter operand_high = 83  -- S
letter global_low = 103  -- g
letter global_high = 71  -- G
letter function = 102  -- f
letter foreign = 105  -- i
letter table = 116  -- t
letter no_entry = 101  -- e
letter other_entry = 111  -- o
letter label = 76  -- L

abbrev pub numeral : ℕ → List ℕ
numeral zero = 48 ∷ []
numeral (suc n) = map (λ d. 48 + d) (digits_of 10 (suc n))

-- `$`, which no other name begins with, and a word

abbrev pub word : Fixed → List ℕ
word view_of_bytes = codes "$u8"
word view_of_signed_bytes = codes "$i8"
word view_of_words = codes "$w"
word imul = codes "$imul"
word clz32 = codes "$clz32"
word trap = codes "$trap"
word high = codes "$high"
word spare_high = codes "$q"
word result_high = codes "$h"
word shift_left = codes "$shl"
word shift_right_signed = codes "$shrs"
word shift_right = codes "$shru"
word rotate_left = codes "$rotl"
word leading_zeros = codes "$clz"
word trailing_zeros = codes "$ctz"
word set_bits = codes "$pop"
word divide_signed = codes "$divs"
word divide = codes "$divu"
word remainder_signed = codes "$rems"
word remainder = codes "$remu"
word load_32 = codes "$load32"
word load_64 = codes "$load64"
word store_32 = codes "$store32"
word store_64 = codes "$store64"
word copy = codes "$copy"
word fill = codes "$fill"
word data_words = codes "$put"
word data_zeros = codes "$zero"
word init = codes "$init"
word last_high = codes "$hi"

abbrev pub spelled : Name → List ℕ
spelled (numbered k n) = letter k ∷ numeral n
spelled (fixed f) = word f

-- the words of the module's head, which no name may be
abbrev pub own_words : List (List ℕ)
own_words = codes "wasm" ∷ codes "stdlib" ∷ codes "foreign" ∷ codes "heap" ∷ []

-- ---- order

-- names are declared group by group, and in each group by their places
pub record Rank : Type 0 where
  pub group : ℕ
  pub place : ℕ

abbrev pub rank_at : ℕ → ℕ → Rank
rank_at g p = record { group = g; place = p }

abbrev pub IsBefore : Rank → Rank → Type 0
IsBefore a b = (a.group < b.group) ⊎ ((a.group ≡ b.group) × (a.place < b.place))

-- in a function the locals and then the operands, a low word before its high word; in a module the fixed names of its head, imported
-- functions, globals, helpers, functions, what stands for missing entries, the two further functions, and tables

abbrev pub fixed_rank : Fixed → Rank
fixed_rank view_of_bytes = rank_at 0 0
fixed_rank view_of_signed_bytes = rank_at 0 1
fixed_rank view_of_words = rank_at 0 2
fixed_rank imul = rank_at 0 3
fixed_rank clz32 = rank_at 0 4
fixed_rank trap = rank_at 0 5
fixed_rank high = rank_at 0 6
fixed_rank spare_high = rank_at 0 7
fixed_rank result_high = rank_at 0 8
fixed_rank shift_left = rank_at 3 0
fixed_rank shift_right_signed = rank_at 3 1
fixed_rank shift_right = rank_at 3 2
fixed_rank rotate_left = rank_at 3 3
fixed_rank leading_zeros = rank_at 3 4
fixed_rank trailing_zeros = rank_at 3 5
fixed_rank set_bits = rank_at 3 6
fixed_rank divide_signed = rank_at 3 7
fixed_rank divide = rank_at 3 8
fixed_rank remainder_signed = rank_at 3 9
fixed_rank remainder = rank_at 3 10
fixed_rank load_32 = rank_at 3 11
fixed_rank load_64 = rank_at 3 12
fixed_rank store_32 = rank_at 3 13
fixed_rank store_64 = rank_at 3 14
fixed_rank copy = rank_at 3 15
fixed_rank fill = rank_at 3 16
fixed_rank data_words = rank_at 3 17
fixed_rank data_zeros = rank_at 3 18
fixed_rank init = rank_at 6 0
fixed_rank last_high = rank_at 6 1

abbrev pub numbered_rank : Numbered → ℕ → Rank
numbered_rank local_low n = rank_at 0 (2 * n)
numbered_rank local_high n = rank_at 0 (2 * n + 1)
numbered_rank operand_low n = rank_at 1 (2 * n)
numbered_rank operand_high n = rank_at 1 (2 * n + 1)
numbered_rank foreign n = rank_at 1 n
numbered_rank global_low n = rank_at 2 (2 * n)
numbered_rank global_high n = rank_at 2 (2 * n + 1)
numbered_rank function n = rank_at 4 n
numbered_rank no_entry n = rank_at 5 (2 * n)
numbered_rank other_entry n = rank_at 5 (2 * n + 1)
numbered_rank table n = rank_at 7 n
numbered_rank label n = rank_at 0 n

abbrev pub rank : Name → Rank
rank (numbered k n) = numbered_rank k n
rank (fixed f) = fixed_rank f

abbrev pub same_fixed : Fixed → Fixed → Bool
same_fixed f g = ((fixed_rank f).group == (fixed_rank g).group) && ((fixed_rank f).place == (fixed_rank g).place)

abbrev pub same_name : Name → Name → Bool
same_name (numbered k n) (numbered l m) = (letter k == letter l) && (n == m)
same_name (numbered k n) (fixed g) = false
same_name (fixed f) (numbered l m) = false
same_name (fixed f) (fixed g) = same_fixed f g

-- each name of a list stands after the one before it
abbrev pub RisesFrom : Rank → List Name → Type 0
RisesFrom r [] = Unit {0}
RisesFrom r (n ∷ ns) = IsBefore r (rank n) × RisesFrom (rank n) ns

abbrev pub Rises : List Name → Type 0
Rises [] = Unit {0}
Rises (n ∷ ns) = RisesFrom (rank n) ns
