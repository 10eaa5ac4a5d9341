-- What the helpers that read the memory do, on numbers.
use Rattle.std.specs.Prelude.{ℕ, List, [], ◌∷◌, Some, None}
use Rattle.sem_words.specs.Words.{add_of, shl_of}
use Rattle.heap_lang.specs.declared.kind.ViewKind.TheVariants.{U8}
use Rattle.heap_lang.specs.Heap.{load}
use Rattle.wasm2js_laws_places.specs.Straight.{Answer, gives, index_at, element_word}

-- the byte at a place of 32 bits; 0 where it isn't in the heap
abbrev pub byte_in : (heap : List ℕ) → (at : ℕ) → ℕ
byte_in heap at = element_word (load U8 (index_at 0 at) heap)

-- four bytes, the lowest first; past the last place of 32 bits comes place 0
abbrev pub word_of_bytes : (a b c d : ℕ) → ℕ
word_of_bytes a b c d = add_of 32 (add_of 32 (add_of 32 a (shl_of 32 b 8)) (shl_of 32 c 16)) (shl_of 32 d 24)

abbrev pub low_word_in : (heap : List ℕ) → (at : ℕ) → ℕ
low_word_in heap at = word_of_bytes (byte_in heap at) (byte_in heap (add_of 32 at 1)) (byte_in heap (add_of 32 at 2)) (byte_in heap (add_of 32 at 3))

-- the four bytes after those
abbrev pub high_word_in : (heap : List ℕ) → (at : ℕ) → ℕ
high_word_in heap at = word_of_bytes (byte_in heap (add_of 32 at 4)) (byte_in heap (add_of 32 at 5)) (byte_in heap (add_of 32 at 6)) (byte_in heap (add_of 32 at 7))

abbrev pub loaded_word : List ℕ → (heap : List ℕ) → Answer
loaded_word (at ∷ []) heap = gives (low_word_in heap at) None heap
loaded_word _ heap = gives 0 None heap

-- the high word is left in `$q`
abbrev pub loaded_words : List ℕ → (heap : List ℕ) → Answer
loaded_words (at ∷ []) heap = gives (low_word_in heap at) (Some (high_word_in heap at)) heap
loaded_words _ heap = gives 0 None heap
