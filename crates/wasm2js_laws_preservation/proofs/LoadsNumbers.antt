-- Bytes of the memory as numbers, and numbers with their sign.
use Rattle.std.proofs.Common.{◌≡◌, ℕ, ◌+◌, ◌-◌, ◌*◌, ◌/◌, ◌%◌, ◌^◌, ◌<◌, ◌≤◌, Bool, true, false, List, length, take, drop, take-append-drop, length-take-le, Some, None, pos, refl, sym, ap, ◌∙◌, subst, arith}
use Rattle.std.specs.Prelude.{option_map, nat_lt, if◌then◌else◌, bit_and, ◌==◌}
use Rattle.std.specs.Int.{int_shr}
use Rattle.std.proofs.lemmas.Bool.Decides.{nat_tests}
use Rattle.std.proofs.lemmas.Int.{ints}
use Rattle.std.proofs.lemmas.Nat.{and_mask}
use Rattle.sem_words.specs.Words.{word_of, signed_of, add_of, shl_of}
use Rattle.sem_words.proofs.WordLaws.{word_of-signed_of_32}
use Rattle.heap_lang.specs.declared.kind.ViewKind.{ViewKind}
use Rattle.heap_lang.specs.declared.kind.ViewKind.TheVariants.{I8, U8, I32}
use Rattle.heap_lang.specs.Numbers.{little_endian}
use Rattle.heap_lang.specs.Heap.{element_size, element_of, load, load_bytes}
use Rattle.heap_lang.proofs.HeapLemmas.{load_bytes_within, load_bytes_past, load_bytes_below, load_bytes-add, load_bytes-append, load_is}
use Rattle.wasm2js_laws_numbers.specs.Laws.{joined, with_sign}
use Rattle.wasm2js_laws_numbers.proofs.Extended.{narrow_extensions, wide_extensions}
use Rattle.wasm2js_laws_places.specs.Straight.{index_at, element_word, byte_kind}
use Rattle.wasm2js_laws_places.specs.Places.{IsHeap}

-- the number of so many bytes
abbrev pub number_of : (size at : ℕ) (heap : List ℕ) → ℕ
number_of size at heap = little_endian (take size (drop at heap))

-- ---- the memory, which the heap begins with

module _ (bytes at size : ℕ) (heap : List ℕ) (h : IsHeap bytes heap) where
  pub memory_length : length (take bytes heap) ≡ bytes
  memory_length = length-take-le bytes heap h.holds

  pub loaded_inside : at + size ≤ bytes → load_bytes at size (take bytes heap) ≡ Some (number_of size at heap)
  loaded_inside within =
      let holds = h.holds in
      sym (load_bytes-append at size (take bytes heap) (drop bytes heap) (subst (λ n. at + size ≤ n) (sym memory_length) within))
      ∙ ap (load_bytes at size) (take-append-drop bytes heap)
      ∙ load_bytes_within at size heap (omega (arith, within, holds))

  pub loaded_outside : bytes < at + size → load_bytes at size (take bytes heap) ≡ None
  loaded_outside past = load_bytes_past at size (take bytes heap) (subst (λ n. n < at + size) (sym memory_length) past)

-- ---- numbers of so many bytes

pub some_is : (a b : ℕ) → Some a ≡ Some b → a ≡ b
some_is a b e = cc e

module _ (heap : List ℕ) (at : ℕ) where
  pub number_below : (size : ℕ) → IsHeap 0 heap → at + size ≤ length heap → number_of size at heap < 256 ^ size
  number_below size all h = load_bytes_below at size heap (number_of size at heap) all.are_bytes (load_bytes_within at size heap h)

  pub number_parts : (m n : ℕ) → at + (m + n) ≤ length heap → number_of (m + n) at heap ≡ number_of m at heap + 256 ^ m * number_of n (at + m) heap
  number_parts m n h = some_is _ _ (sym (load_bytes_within at (m + n) heap h) ∙ load_bytes-add at m n heap h)

-- ---- elements

pub index_is : (at : ℕ) → at < 2 ^ 31 → index_at 0 at ≡ pos at
index_is at h = grind arith

low_signed : (at : ℕ) → at < 2 ^ 31 → signed_of 32 at ≡ pos at
low_signed at h = grind arith

pub word_index_is : (at : ℕ) → at < 2 ^ 31 → index_at 2 at ≡ pos (at / 4)
word_index_is at h = ap (λ z. int_shr z 2) (low_signed at h)

element_is : (kind : ViewKind) (i at : ℕ) (heap : List ℕ) → element_size kind * i ≡ at → at + element_size kind ≤ length heap
    → load kind (pos i) heap ≡ Some (element_of kind (number_of (element_size kind) at heap))
element_is kind i at heap e h =
    load_is kind i heap ∙ ap (λ a. option_map (element_of kind) (load_bytes a (element_size kind) heap)) e ∙ ap (option_map (element_of kind)) (load_bytes_within at (element_size kind) heap h)

-- a number of so many bits as a word, with its sign or without
abbrev pub narrow_number : (signed : Bool) → (bits n : ℕ) → ℕ
narrow_number signed bits n = if signed then word_of 32 (signed_of bits n) else n

abbrev pub wide_number : (signed : Bool) → (bits n : ℕ) → ℕ
wide_number signed bits n = if signed then word_of 64 (signed_of bits n) else n

module _ (at : ℕ) (heap : List ℕ) (h : IsHeap 0 heap) where
  abbrev element : Bool → ℕ
  element signed = element_word (load (byte_kind signed) (index_at 0 at) heap)

  pub byte_is : (signed : Bool) → at + 1 ≤ length heap → element signed ≡ narrow_number signed 8 (number_of 1 at heap)
  byte_is true within =
      let small = h.small in
      ap (λ i. element_word (load I8 i heap)) (index_is at (omega (arith, within, small))) ∙ ap element_word (element_is I8 at at heap (omega arith) within)
  byte_is false within =
      let small = h.small in
      let below = number_below heap at 1 h within in
      ap (λ i. element_word (load U8 i heap)) (index_is at (omega (arith, within, small))) ∙ ap element_word (element_is U8 at at heap (omega arith) within) ∙ omega (arith, below)

  pub whole_is : at % 4 ≡ 0 → at + 4 ≤ length heap → element_word (load I32 (index_at 2 at) heap) ≡ number_of 4 at heap
  whole_is aligned within =
      let small = h.small in
      let below = number_below heap at 4 h within in
      ap (λ i. element_word (load I32 i heap)) (word_index_is at (omega (arith, within, small)))
      ∙ ap element_word (element_is I32 (at / 4) at heap (omega (arith, aligned)) within)
      ∙ word_of-signed_of_32 (number_of 4 at heap) (omega (arith, below))

pub is_aligned : (at : ℕ) → (bit_and at 3 == 0) ≡ true → at % 4 ≡ 0
is_aligned at e = let low : bit_and at 3 ≡ at % 4 = and_mask at 2 in grind (arith, nat_tests, low, e)

-- ---- signs

sign_8_low : (r : ℕ) → r < 2 ^ 7 → word_of 32 (signed_of 8 r) ≡ r
sign_8_low r h = grind (arith, ints, nat_tests)

sign_8_high : (r : ℕ) → 2 ^ 7 ≤ r → r < 2 ^ 8 → word_of 32 (signed_of 8 r) ≡ 2 ^ 32 - 2 ^ 8 + r
sign_8_high r h k = grind (arith, ints, nat_tests)

sign_16_low : (r : ℕ) → r < 2 ^ 15 → word_of 32 (signed_of 16 r) ≡ r
sign_16_low r h = grind (arith, ints, nat_tests)

sign_16_high : (r : ℕ) → 2 ^ 15 ≤ r → r < 2 ^ 16 → word_of 32 (signed_of 16 r) ≡ 2 ^ 32 - 2 ^ 16 + r
sign_16_high r h k = grind (arith, ints, nat_tests)

-- the upper one of two bytes has the sign
pub half_sum : (signed : Bool) (a b : ℕ) → a < 256 → b < 256 → add_of 32 a (shl_of 32 (narrow_number signed 8 b) 8) ≡ narrow_number signed 16 (a + 256 * b)
half_sum false a b h k = omega (arith, h, k)
half_sum true a b h k = by (nat_lt b (2 ^ 7)) refl
  where
    by : (t : Bool) → nat_lt b (2 ^ 7) ≡ t → add_of 32 a (shl_of 32 (word_of 32 (signed_of 8 b)) 8) ≡ word_of 32 (signed_of 16 (a + 256 * b))
    by true e =
        let few : b < 2 ^ 7 = grind (arith, nat_tests, e) in
        ap (λ x. add_of 32 a (shl_of 32 x 8)) (sign_8_low b few) ∙ omega (arith, h, few) ∙ sym (sign_16_low (a + 256 * b) (omega (arith, h, few)))
    by false e =
        let many : 2 ^ 7 ≤ b = grind (arith, nat_tests, e) in
        ap (λ x. add_of 32 a (shl_of 32 x 8)) (sign_8_high b many k) ∙ omega (arith, h, k, many) ∙ sym (sign_16_high (a + 256 * b) (omega (arith, many)) (omega (arith, h, k)))

pub wide_8 : (n : ℕ) → n < 2 ^ 8 → word_of 64 (signed_of 8 n) ≡ with_sign (word_of 32 (signed_of 8 n))
wide_8 n h =
    let narrow : n % 2 ^ 8 ≡ n = omega (arith, h) in
    let wide : joined n 0 % 2 ^ 8 ≡ n = omega (arith, h) in
    let small : n < 2 ^ 32 = omega (arith, h) in
    sym (ap (λ m. word_of 64 (signed_of 8 m)) wide) ∙ (wide_extensions n 0 small (omega arith)).0
    ∙ ap with_sign (sym (narrow_extensions n small).0 ∙ ap (λ m. word_of 32 (signed_of 8 m)) narrow)

pub wide_16 : (n : ℕ) → n < 2 ^ 16 → word_of 64 (signed_of 16 n) ≡ with_sign (word_of 32 (signed_of 16 n))
wide_16 n h =
    let narrow : n % 2 ^ 16 ≡ n = omega (arith, h) in
    let wide : joined n 0 % 2 ^ 16 ≡ n = omega (arith, h) in
    let small : n < 2 ^ 32 = omega (arith, h) in
    sym (ap (λ m. word_of 64 (signed_of 16 m)) wide) ∙ (wide_extensions n 0 small (omega arith)).1
    ∙ ap with_sign (sym (narrow_extensions n small).1 ∙ ap (λ m. word_of 32 (signed_of 16 m)) narrow)

pub wide_32 : (n : ℕ) → n < 2 ^ 32 → word_of 64 (signed_of 32 n) ≡ with_sign (word_of 32 (signed_of 32 n))
wide_32 n h =
    let wide : joined n 0 % 2 ^ 32 ≡ n = omega (arith, h) in
    sym (ap (λ m. word_of 64 (signed_of 32 m)) wide) ∙ (wide_extensions n 0 h (omega arith)).2 ∙ ap with_sign (sym (word_of-signed_of_32 n h))
