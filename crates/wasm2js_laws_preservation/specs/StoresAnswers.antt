-- What the helpers that write the memory do, on numbers.
use Rattle.std.specs.Prelude.{ℕ, List, [], ◌∷◌, None}
use Rattle.sem_words.specs.Words.{add_of, shr_u_of}
use Rattle.heap_lang.specs.declared.kind.ViewKind.TheVariants.{U8}
use Rattle.heap_lang.specs.Heap.{store}
use Rattle.wasm2js_laws_places.specs.Straight.{Answer, gives, index_at}

-- the heap with a word's lowest byte at a place of 32 bits; the same heap where that isn't in it
abbrev pub with_byte : (at word : ℕ) → (heap : List ℕ) → List ℕ
with_byte at word heap = store U8 (index_at 0 at) word heap

-- with a word's four bytes at these places, the lowest first
abbrev pub with_bytes : (a b c d word : ℕ) → (heap : List ℕ) → List ℕ
with_bytes a b c d word heap =
    with_byte d (shr_u_of 32 word 24) (with_byte c (shr_u_of 32 word 16) (with_byte b (shr_u_of 32 word 8) (with_byte a word heap)))

-- past the last place of 32 bits comes place 0
abbrev pub with_low_word : (at word : ℕ) → (heap : List ℕ) → List ℕ
with_low_word at word heap = with_bytes at (add_of 32 at 1) (add_of 32 at 2) (add_of 32 at 3) word heap

-- at the four places after those
abbrev pub with_high_word : (at word : ℕ) → (heap : List ℕ) → List ℕ
with_high_word at word heap = with_bytes (add_of 32 at 4) (add_of 32 at 5) (add_of 32 at 6) (add_of 32 at 7) word heap

abbrev pub stored_word : List ℕ → (heap : List ℕ) → Answer
stored_word (at ∷ word ∷ []) heap = gives 0 None (with_low_word at word heap)
stored_word _ heap = gives 0 None heap

abbrev pub stored_words : List ℕ → (heap : List ℕ) → Answer
stored_words (at ∷ low ∷ high ∷ []) heap = gives 0 None (with_high_word at high (with_low_word at low heap))
stored_words _ heap = gives 0 None heap
