-- The words of the functions that run, as plain values.
use Rattle.std.specs.Prelude.{ℕ, ◌+◌, List}
use Rattle.asm_run_code.specs.Slots.{get, put, put_all}

-- all of them, and the place at which the slots of the function that runs begin
pub record WordsPlain : Type 0 where
  pub all : List ℕ
  pub base : ℕ

abbrev pub slot_word : WordsPlain → (slot : ℕ) → ℕ
slot_word w slot = get w.all (w.base + slot)

abbrev pub with_word : WordsPlain → (slot word : ℕ) → WordsPlain
with_word w slot word = record w { all = put w.all (w.base + slot) word }

-- from a slot on
abbrev pub with_words : WordsPlain → (slot : ℕ) → List ℕ → WordsPlain
with_words w slot words = record w { all = put_all w.all (w.base + slot) words }
