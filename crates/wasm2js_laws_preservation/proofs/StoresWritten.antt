-- Bytes that are written one by one, as one store.
use Rattle.std.proofs.Common.{◌≡◌, ℕ, ◌+◌, ◌*◌, ◌/◌, ◌%◌, ◌^◌, ◌<◌, ◌≤◌, List, ◌++◌, length, take, drop, take-append-drop, drop_of_length-le, take_all, refl, sym, ap, ◌∙◌, subst, arith}
use Rattle.std.proofs.lemmas.List.{take-append-le, drop-append-le}
use Rattle.sem_words.specs.Words.{add_of, shr_u_of}
use Rattle.heap_lang.specs.declared.kind.ViewKind.TheVariants.{U8, I32}
use Rattle.heap_lang.specs.Heap.{store, store_bytes}
use Rattle.heap_lang.proofs.HeapLemmas.{store_is, store_bytes-add, store_bytes-append, store_bytes-mod, length-store_bytes}
use Rattle.wasm2js_laws_numbers.specs.Laws.{joined}
use Rattle.wasm2js_laws_places.specs.Straight.{index_at}
use Rattle.wasm2js_laws_places.specs.Places.{IsHeap}
use Rattle.wasm2js_laws_preservation.proofs.LoadsNumbers.{index_is, word_index_is, memory_length}
use Rattle.wasm2js_laws_preservation.specs.StoresAnswers.{with_byte, with_bytes, with_high_word}
use Rattle.wasm2js_laws_preservation.specs.StoresLaws.{WritesWord, WritesWords}

further_on : (at k : ℕ) → at + k < 2 ^ 32 → add_of 32 at k ≡ at + k
further_on at k h = omega (arith, h)

pub byte_stored : (at word : ℕ) (heap : List ℕ) → at < 2 ^ 31 → with_byte at word heap ≡ store_bytes at 1 word heap
byte_stored at word heap h =
    let once : 1 * at ≡ at = omega arith in
    ap (λ i. store U8 i word heap) (index_is at h) ∙ store_is U8 at word heap ∙ ap (λ a. store_bytes a 1 word heap) once

pub whole_stored : (at word : ℕ) (heap : List ℕ) → at < 2 ^ 31 → at % 4 ≡ 0 → store I32 (index_at 2 at) word heap ≡ store_bytes at 4 word heap
whole_stored at word heap h aligned =
    let back : 4 * (at / 4) ≡ at = omega (arith, aligned) in
    ap (λ i. store I32 i word heap) (word_index_is at h) ∙ store_is I32 (at / 4) word heap ∙ ap (λ a. store_bytes a 4 word heap) back

module _ (a : ℕ) (word : ℕ) (heap : List ℕ) (small : length heap ≤ 2 ^ 28) where
  -- one byte more
  next_byte : (at n shifted : ℕ) (before : List ℕ) → at ≡ a + n → a + (n + 1) ≤ length heap → before ≡ store_bytes a n word heap → shifted ≡ word / 256 ^ n
      → with_byte at shifted before ≡ store_bytes a (n + 1) word heap
  next_byte at n shifted before e within is same =
      ap (with_byte at shifted) is
      ∙ ap (λ at. with_byte at shifted (store_bytes a n word heap)) e
      ∙ byte_stored (a + n) shifted (store_bytes a n word heap) (omega (arith, within, small))
      ∙ ap (λ x. store_bytes (a + n) 1 x (store_bytes a n word heap)) same
      ∙ sym (store_bytes-add a n 1 word heap within)

  pub two_stored : (b : ℕ) → b ≡ a + 1 → a + 2 ≤ length heap → with_byte b (shr_u_of 32 word 8) (with_byte a word heap) ≡ store_bytes a 2 word heap
  two_stored b e within =
      next_byte b 1 (shr_u_of 32 word 8) (with_byte a word heap) e within (byte_stored a word heap (omega (arith, within, small))) refl

  pub four_stored : (b c d : ℕ) → b ≡ a + 1 → c ≡ a + 2 → d ≡ a + 3 → a + 4 ≤ length heap → with_bytes a b c d word heap ≡ store_bytes a 4 word heap
  four_stored b c d e f g within =
      let two = two_stored b e (omega (arith, within)) in
      let three = next_byte c 2 (shr_u_of 32 word 16) (with_byte b (shr_u_of 32 word 8) (with_byte a word heap)) f (omega (arith, within)) two refl in
      next_byte d 3 (shr_u_of 32 word 24) (with_byte c (shr_u_of 32 word 16) (with_byte b (shr_u_of 32 word 8) (with_byte a word heap))) g within three refl

pub writes_word : WritesWord
writes_word at word heap small within =
    four_stored at word heap small (add_of 32 at 1) (add_of 32 at 2) (add_of 32 at 3)
    (further_on at 1 (omega (arith, within, small))) (further_on at 2 (omega (arith, within, small))) (further_on at 3 (omega (arith, within, small))) within

-- ---- numbers of which only the low bits are stored

pub same_stored : (at size x y : ℕ) (heap : List ℕ) → x % 256 ^ size ≡ y % 256 ^ size → store_bytes at size x heap ≡ store_bytes at size y heap
same_stored at size x y heap e = sym (store_bytes-mod at size x heap) ∙ ap (λ n. store_bytes at size n heap) e ∙ store_bytes-mod at size y heap

-- both words of a number
pub both_stored : (at low high : ℕ) (heap : List ℕ) → low < 2 ^ 32 → at + 8 ≤ length heap → store_bytes (at + 4) 4 high (store_bytes at 4 low heap) ≡ store_bytes at 8 (joined low high) heap
both_stored at low high heap h within =
    let upper : joined low high / 256 ^ 4 ≡ high = omega (arith, h) in
    let lower : low % 256 ^ 4 ≡ joined low high % 256 ^ 4 = omega (arith, h) in
    ap (store_bytes (at + 4) 4 high) (same_stored at 4 low (joined low high) heap lower)
    ∙ ap (λ x. store_bytes (at + 4) 4 x (store_bytes at 4 (joined low high) heap)) (sym upper)
    ∙ sym (store_bytes-add at 4 4 (joined low high) heap within)

pub writes_words : WritesWords
writes_words at low high heap h small within =
    let first = store_bytes at 4 low heap in
    let long : length first ≡ length heap = length-store_bytes at 4 low heap in
    let four = further_on at 4 (omega (arith, within, small)) in
    let five = further_on at 5 (omega (arith, within, small)) in
    let six = further_on at 6 (omega (arith, within, small)) in
    let seven = further_on at 7 (omega (arith, within, small)) in
    ap (with_high_word at high) (writes_word at low heap small (omega (arith, within)))
    ∙ four_stored (add_of 32 at 4) high first (subst (λ n. n ≤ 2 ^ 28) (sym long) small) (add_of 32 at 5) (add_of 32 at 6) (add_of 32 at 7)
    (omega (arith, four, five)) (omega (arith, four, six)) (omega (arith, four, seven)) (omega (arith, four, within, long))
    ∙ ap (λ a. store_bytes a 4 high first) four
    ∙ both_stored at low high heap h within

-- ---- the memory, which the heap begins with

module _ (bytes at size word : ℕ) (heap : List ℕ) (h : IsHeap bytes heap) (within : at + size ≤ bytes) where
  in_front : store_bytes at size word heap ≡ store_bytes at size word (take bytes heap) ++ drop bytes heap
  in_front =
      ap (store_bytes at size word) (sym (take-append-drop bytes heap))
      ∙ store_bytes-append at size word (take bytes heap) (drop bytes heap) (subst (λ n. at + size ≤ n) (sym (memory_length bytes at size heap h)) within)

  long : length (store_bytes at size word (take bytes heap)) ≡ bytes
  long = length-store_bytes at size word (take bytes heap) ∙ memory_length bytes at size heap h

  pub memory_stored : store_bytes at size word (take bytes heap) ≡ take bytes (store_bytes at size word heap)
  memory_stored =
      let e = long in
      sym (ap (take bytes) in_front
      ∙ take-append-le bytes (store_bytes at size word (take bytes heap)) (drop bytes heap) (omega (arith, e))
      ∙ take_all bytes (store_bytes at size word (take bytes heap)) (omega (arith, e)))

  pub past_stays : drop bytes (store_bytes at size word heap) ≡ drop bytes heap
  past_stays =
      let e = long in
      ap (drop bytes) in_front
      ∙ drop-append-le bytes (store_bytes at size word (take bytes heap)) (drop bytes heap) (omega (arith, e))
      ∙ ap (λ xs. xs ++ drop bytes heap) (drop_of_length-le (store_bytes at size word (take bytes heap)) (omega (arith, e)))
