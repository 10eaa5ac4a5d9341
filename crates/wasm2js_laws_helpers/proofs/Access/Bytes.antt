-- The bytes of a word that lies in the heap, the lowest first.
use Rattle.std.proofs.Common.{◌≡◌, ℕ, ◌+◌, ◌*◌, ◌^◌, ◌<◌, ◌≤◌, List, length, take, drop, pos, Some, sym, ap, ◌∙◌, arith}
use Rattle.std.specs.Prelude.{option_map}
use Rattle.sem_words.specs.Words.{add_of}
use Rattle.heap_lang.specs.declared.kind.ViewKind.TheVariants.{U8}
use Rattle.heap_lang.specs.Numbers.{IsBytes, little_endian}
use Rattle.heap_lang.specs.Heap.{element_of, load, load_bytes}
use Rattle.heap_lang.proofs.HeapLemmas.{load_bytes_within, load_bytes_below, load_bytes-add, load_is}
use Rattle.wasm2js_laws_places.specs.Straight.{index_at, element_word}
use Rattle.wasm2js_laws_helpers.specs.Access.Answers.{byte_in, word_of_bytes, low_word_in, high_word_in}
use Rattle.wasm2js_laws_helpers.specs.Access.Laws.{ReadsWord, ReadsWords}

index_small : (at : ℕ) → at < 2 ^ 31 → index_at 0 at ≡ pos at
index_small at h = grind arith

-- the number of so many bytes
abbrev number_of : (size at : ℕ) (heap : List ℕ) → ℕ
number_of size at heap = little_endian (take size (drop at heap))

some_is : (a b : ℕ) → Some a ≡ Some b → a ≡ b
some_is a b e = cc e

one_more : (n at : ℕ) (heap : List ℕ) → at + (1 + n) ≤ length heap → number_of (1 + n) at heap ≡ number_of 1 at heap + 256 * number_of n (at + 1) heap
one_more n at heap h = some_is _ _ (sym (load_bytes_within at (1 + n) heap h) ∙ load_bytes-add at 1 n heap h)

byte_below : (at : ℕ) (heap : List ℕ) → IsBytes heap → at + 1 ≤ length heap → number_of 1 at heap < 256
byte_below at heap all h = load_bytes_below at 1 heap (number_of 1 at heap) all (load_bytes_within at 1 heap h)

byte_is : (at : ℕ) (heap : List ℕ) → IsBytes heap → at + 1 ≤ length heap → length heap ≤ 2 ^ 28 → byte_in heap at ≡ number_of 1 at heap
byte_is at heap all h small =
    let below = byte_below at heap all h in
    let same : 1 * at ≡ at = omega arith in
    ap (λ i. element_word (load U8 i heap)) (index_small at (omega (arith, h, small)))
    ∙ ap element_word (load_is U8 at heap ∙ ap (λ a. option_map (element_of U8) (load_bytes a 1 heap)) same ∙ ap (option_map (element_of U8)) (load_bytes_within at 1 heap h))
    ∙ omega (arith, below)

further_on : (at k : ℕ) → at + k < 2 ^ 32 → add_of 32 at k ≡ at + k
further_on at k h = omega (arith, h)

word_sum : (a b c d : ℕ) → a < 256 → b < 256 → c < 256 → d < 256 → word_of_bytes a b c d ≡ a + 256 * (b + 256 * (c + 256 * d))
word_sum a b c d p q r s = omega (arith, p, q, r, s)

onward : (n at next : ℕ) (heap : List ℕ) → next ≡ at + 1 → at + (1 + n) ≤ length heap → number_of (1 + n) at heap ≡ number_of 1 at heap + 256 * number_of n next heap
onward n at next heap e h = one_more n at heap h ∙ ap (λ k. number_of 1 at heap + 256 * number_of n k heap) (sym e)

-- four bytes from a place on
four : (heap : List ℕ) (a b c d : ℕ) → b ≡ a + 1 → c ≡ a + 2 → d ≡ a + 3 → IsBytes heap → length heap ≤ 2 ^ 28 → a + 4 ≤ length heap
    → word_of_bytes (byte_in heap a) (byte_in heap b) (byte_in heap c) (byte_in heap d) ≡ number_of 4 a heap
four heap a b c d e f g all small h =
    let ha : a + 1 ≤ length heap = omega (arith, h) in
    let hb : b + 1 ≤ length heap = omega (arith, h, e) in
    let hc : c + 1 ≤ length heap = omega (arith, h, f) in
    let hd : d + 1 ≤ length heap = omega (arith, h, g) in
    let parts =
    word_sum (number_of 1 a heap) (number_of 1 b heap) (number_of 1 c heap) (number_of 1 d heap)
    (byte_below a heap all ha) (byte_below b heap all hb) (byte_below c heap all hc) (byte_below d heap all hd) in
    let three = onward 3 a b heap e (omega (arith, h)) in
    let two = onward 2 b c heap (omega (arith, e, f)) (omega (arith, h, e)) in
    let one = onward 1 c d heap (omega (arith, f, g)) (omega (arith, h, f)) in
    ap (λ x. word_of_bytes x (byte_in heap b) (byte_in heap c) (byte_in heap d)) (byte_is a heap all ha small)
    ∙ ap (λ x. word_of_bytes (number_of 1 a heap) x (byte_in heap c) (byte_in heap d)) (byte_is b heap all hb small)
    ∙ ap (λ x. word_of_bytes (number_of 1 a heap) (number_of 1 b heap) x (byte_in heap d)) (byte_is c heap all hc small)
    ∙ ap (λ x. word_of_bytes (number_of 1 a heap) (number_of 1 b heap) (number_of 1 c heap) x) (byte_is d heap all hd small)
    ∙ parts
    ∙ sym (three ∙ ap (λ x. number_of 1 a heap + 256 * x) (two ∙ ap (λ x. number_of 1 b heap + 256 * x) one))

low_is : (at : ℕ) (heap : List ℕ) → IsBytes heap → length heap ≤ 2 ^ 28 → at + 4 ≤ length heap → low_word_in heap at ≡ number_of 4 at heap
low_is at heap all small h =
    four heap at (add_of 32 at 1) (add_of 32 at 2) (add_of 32 at 3) (further_on at 1 (omega (arith, h, small))) (further_on at 2 (omega (arith, h, small))) (further_on at 3 (omega (arith, h, small))) all small h

high_is : (at : ℕ) (heap : List ℕ) → IsBytes heap → length heap ≤ 2 ^ 28 → at + 8 ≤ length heap → high_word_in heap at ≡ number_of 4 (at + 4) heap
high_is at heap all small h =
    let here = further_on at 4 (omega (arith, h, small)) in
    let e = further_on at 5 (omega (arith, h, small)) in
    let f = further_on at 6 (omega (arith, h, small)) in
    let g = further_on at 7 (omega (arith, h, small)) in
    four heap (add_of 32 at 4) (add_of 32 at 5) (add_of 32 at 6) (add_of 32 at 7) (omega (arith, here, e)) (omega (arith, here, f)) (omega (arith, here, g)) all small (omega (arith, here, h))
    ∙ ap (λ k. number_of 4 k heap) here

pub reads_word : ReadsWord
reads_word at heap all small h = load_bytes_within at 4 heap h ∙ ap Some (sym (low_is at heap all small h))

pub reads_words : ReadsWords
reads_words at heap all small h =
    load_bytes-add at 4 4 heap h
    ∙ ap (λ n. Some (n + 2 ^ 32 * number_of 4 (at + 4) heap)) (sym (low_is at heap all small (omega (arith, h))))
    ∙ ap (λ n. Some (low_word_in heap at + 2 ^ 32 * n)) (sym (high_is at heap all small h))
