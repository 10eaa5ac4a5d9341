-- What the helpers on words do, on numbers.
use Rattle.std.specs.Prelude.{ℕ, zero, suc, ◌+◌, ◌/◌, List, [], ◌∷◌, Some, None, Result, Ok, Err, ◌==◌, if◌then◌else◌}
use Rattle.sem_words.specs.declared.word.Bin.{Bin}
use Rattle.sem_words.specs.declared.word.TrapKind.{TrapKind}
use Rattle.sem_words.specs.Words.{set_bits_of, bin_of, trap_code}
use Rattle.session_lang.specs.Imports.{low_word, high_word}
use Rattle.wasm2js_laws_places.specs.Straight.{Answer, gives, traps}
use Rattle.wasm2js_laws_numbers.specs.Laws.{joined}

-- a word of 64 bits, whose high word is left in `$q`
abbrev pub two_words : ℕ → (heap : List ℕ) → Answer
two_words n heap = gives (low_word n) (Some (high_word n)) heap

abbrev pub one_word : ℕ → (heap : List ℕ) → Answer
one_word n heap = gives n None heap

-- of a low and a high word, and a count of which 32 bits are looked at
abbrev pub turned : (ℕ → ℕ → ℕ → ℕ) → List ℕ → (heap : List ℕ) → Answer
turned op (a ∷ x ∷ n ∷ []) heap = two_words (op 64 (joined a x) n) heap
turned op _ heap = one_word 0 heap

-- bits of a low and a high word
abbrev pub counted : (ℕ → ℕ → ℕ) → List ℕ → (heap : List ℕ) → Answer
counted op (a ∷ x ∷ []) heap = one_word (op 64 (joined a x)) heap
counted op _ heap = one_word 0 heap

-- how many bits there are up to the highest that is set, of the k low ones
unfoldable pub length_of : (k : ℕ) → ℕ → ℕ
length_of zero a = 0
length_of (suc k) a = if a == 0 then 0 else suc (length_of k (a / 2))

-- the set bits of a word of 32 bits; a unit for the call, for each bit, and for the test that ends the loop
abbrev pub set_bits_answer : List ℕ → (heap : List ℕ) → Answer
set_bits_answer (a ∷ []) heap = one_word (set_bits_of 32 a) heap
set_bits_answer _ heap = one_word 0 heap

abbrev pub set_bits_units : List ℕ → ℕ
set_bits_units (a ∷ []) = 2 + length_of 32 a
set_bits_units _ = 1

-- division of words of 32 bits, which may trap
abbrev pub checked : Result ℕ TrapKind → (heap : List ℕ) → Answer
checked (Ok n) heap = one_word n heap
checked (Err kind) heap = traps (trap_code kind)

abbrev pub divided : Bin → List ℕ → (heap : List ℕ) → Answer
divided op (a ∷ b ∷ []) heap = checked (bin_of 32 op a b) heap
divided op _ heap = one_word 0 heap
