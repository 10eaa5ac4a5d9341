-- What the helpers that fill and copy do, on numbers, and how many units they take: one for the call, and for each loop one for each turn and
-- one for the test that ends it.
use Rattle.std.specs.Prelude.{ℕ, ◌+◌, ◌-◌, ◌/◌, ◌%◌, Bool, ◌&&◌, nat_le, ◌==◌, bit_and, bit_xor, if◌then◌else◌, List, [], ◌∷◌, None}
use Rattle.heap_lang.specs.Heap.{copied, filled}
use Rattle.wasm2js_laws_places.specs.Straight.{Answer, gives, traps}

abbrev pub is_aligned : ℕ → Bool
is_aligned at = bit_and at 3 == 0

-- the places have the same last two bits, and there are four bytes
abbrev pub are_alike : (to from len : ℕ) → Bool
are_alike to from len = is_aligned (bit_xor to from) && nat_le 4 len

-- by bytes to where a word begins, by eight words, by words, and by bytes; or by bytes alone
abbrev pub loops_units : (by_words : Bool) → (head len : ℕ) → ℕ
loops_units by_words head len =
    if by_words then 1 + head + (1 + (len - head) / 32 + (1 + (len - head) % 32 / 4 + (1 + (len - head) % 4))) else 1 + len

-- how many bytes stand before the next word, and in the last one
abbrev pub bytes_before : (at : ℕ) → ℕ
bytes_before at = (4 - at % 4) % 4

abbrev pub units_upwards : (by_words : Bool) → (at len : ℕ) → ℕ
units_upwards by_words at len = loops_units by_words (bytes_before at) len

abbrev pub units_downwards : (by_words : Bool) → (at len : ℕ) → ℕ
units_downwards by_words at len = loops_units by_words ((at + len) % 4) len

-- in a memory of so many bytes
module _ (bytes : ℕ) where
  -- trap 2 where the run passes the memory's end
  abbrev pub filled_run : List ℕ → (heap : List ℕ) → Answer
  filled_run (at ∷ byte ∷ len ∷ []) heap = if nat_le (at + len) bytes then gives 0 None (filled at len (byte % 256) heap) else traps 2
  filled_run _ heap = gives 0 None heap

  abbrev pub fill_units : List ℕ → ℕ
  fill_units (at ∷ byte ∷ len ∷ []) = if nat_le (at + len) bytes then 1 + units_upwards (nat_le 4 len) at len else 1
  fill_units _ = 1

  abbrev pub copied_run : List ℕ → (heap : List ℕ) → Answer
  copied_run (to ∷ from ∷ len ∷ []) heap = if nat_le (to + len) bytes && nat_le (from + len) bytes then gives 0 None (copied to from len heap) else traps 2
  copied_run _ heap = gives 0 None heap

  abbrev pub copy_units : List ℕ → ℕ
  copy_units (to ∷ from ∷ len ∷ []) =
      if nat_le (to + len) bytes && nat_le (from + len) bytes then
      1 + (if nat_le to from then units_upwards (are_alike to from len) to len else units_downwards (are_alike to from len) to len)
      else 1
  copy_units _ = 1
