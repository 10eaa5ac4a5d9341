-- Indices as words, and where elements begin.
use Rattle.std.proofs.Common.{◌≡◌, ℕ, ◌+◌, ◌-◌, ◌*◌, ◌%◌, ◌^◌, ◌<◌, ◌≤◌, true, false, length, pos, negsuc, refl, sym, ap, ◌∙◌, arith, length-append}
use Rattle.std.proofs.lemmas.Bool.Decides.{nat_tests}
use Rattle.std.proofs.lemmas.Int.{ints}
use Rattle.sem_words.specs.Words.{word_of}
use Rattle.heap_lang.specs.Heap.{IsHeapLength, element_size}
use Rattle.asm_lang_valid.specs.declared.meaning.Element.{Element}
use Rattle.asm_lang_valid.specs.declared.meaning.Element.TheVariants.{Int8, Uint8, Int16, Uint16, Int32, Uint32}
use Rattle.asm_lang_valid.specs.Scope.{shift_of}
use Rattle.asm_lang_exec.specs.Values.{kind_of}
use Rattle.asm2wasm_laws_heap.specs.Guards.{is_within, is_in_heap, is_index, GuardedBytesAreThere}

-- an index that is below the number of elements has its bytes in the heap, and another one hasn't
pub record Places (size k : ℕ) : Type 0 where
  pub inside : (i : ℕ) → is_within k size i ≡ true → 2 ^ k * i + 2 ^ k ≤ size
  pub outside : (i : ℕ) → is_within k size i ≡ false → size < 2 ^ k * i + 2 ^ k
  pub turned : (i : ℕ) → i * 2 ^ k ≡ 2 ^ k * i
  pub far : (n : ℕ) → n < 2 ^ 31 → is_within k size (2 ^ 32 - 1 - n % 2 ^ 32) ≡ false
  -- .. as the place where it begins
  pub begins : (i : ℕ) → is_in_heap size (i * 2 ^ k) ≡ is_within k size i
  pub begins_far : (place : ℕ) → 2 ^ 31 ≤ place → is_in_heap size place ≡ false

pub byte_places : (size : ℕ) → IsHeapLength size → Places size 0
byte_places size h = let whole = h.0 in let most = h.1 in record {
  inside = λ i w. grind (arith, nat_tests);
  outside = λ i w. grind (arith, nat_tests);
  turned = λ i. omega arith;
  far = λ n small. grind (arith, nat_tests);
  begins = λ i. grind (arith, nat_tests);
  begins_far = λ place h. grind (arith, nat_tests);
}

pub half_places : (size : ℕ) → IsHeapLength size → Places size 1
half_places size h = let whole = h.0 in let most = h.1 in record {
  inside = λ i w. grind (arith, nat_tests);
  outside = λ i w. grind (arith, nat_tests);
  turned = λ i. omega arith;
  far = λ n small. grind (arith, nat_tests);
  begins = λ i. grind (arith, nat_tests);
  begins_far = λ place h. grind (arith, nat_tests);
}

pub four_places : (size : ℕ) → IsHeapLength size → Places size 2
four_places size h = let whole = h.0 in let most = h.1 in record {
  inside = λ i w. grind (arith, nat_tests);
  outside = λ i w. grind (arith, nat_tests);
  turned = λ i. omega arith;
  far = λ n small. grind (arith, nat_tests);
  begins = λ i. grind (arith, nat_tests);
  begins_far = λ place h. grind (arith, nat_tests);
}

pub places_of : (v : Element) (size : ℕ) → IsHeapLength size → Places size (shift_of v)
places_of Int8 size h = byte_places size h
places_of Uint8 size h = byte_places size h
places_of Int16 size h = half_places size h
places_of Uint16 size h = half_places size h
places_of Int32 size h = four_places size h
places_of Uint32 size h = four_places size h

pub has_size : (v : Element) → element_size (kind_of v) ≡ 2 ^ shift_of v
has_size Int8 = refl
has_size Uint8 = refl
has_size Int16 = refl
has_size Uint16 = refl
has_size Int32 = refl
has_size Uint32 = refl

-- an index that isn't negative is its word
pub word_is : (i : ℕ) → is_index (pos i) ≡ true → word_of 32 (pos i) ≡ i
word_is i h = let below : i < 2 ^ 32 = grind (arith, ints, nat_tests) in omega (arith, below)

pub negative_is : (n : ℕ) → is_index (negsuc n) ≡ true → n < 2 ^ 31
negative_is n h = grind (arith, ints, nat_tests)

pub bytes_are_there : GuardedBytesAreThere
bytes_are_there v (pos i) place heap past long is within =
    let places = places_of v (length heap) long in
    let inside = places.inside i (sym (places.begins i) ∙ ap (is_in_heap (length heap)) (sym is) ∙ within) in
    let joined = length-append heap past in
    let turned = places.turned i in
    omega (arith, is, inside, joined, turned)
bytes_are_there v (negsuc n) place heap past long is within =
    let outside = (places_of v (length heap) long).begins_far place is in
    absurd (cc (outside, within))
