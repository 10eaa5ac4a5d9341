-- Guarded loads and stores.
use Rattle.std.proofs.Common.{◌≡◌, ℕ, ◌+◌, ◌*◌, ◌^◌, ◌<◌, Bool, true, false, List, ◌++◌, length, take, drop, Some, option_map, ℤ, pos, negsuc, refl, sym, ap, ◌∙◌, subst, arith}
use Rattle.sem_words.specs.declared.js_value.JsValue.TheVariants.{Whole}
use Rattle.sem_words.specs.JsValues.{to_uint32_of}
use Rattle.sem_words.proofs.WordLaws.{word_of-signed_of_32}
use Rattle.heap_lang.specs.Heap.{IsHeapLength, element_size, element_of, load, store, load_bytes, store_bytes}
use Rattle.heap_lang.specs.Numbers.{IsBytes, little_endian}
use Rattle.heap_lang.proofs.HeapLemmas.{load_bytes_within, load_bytes_below, store_bytes_past, load_bytes-append, store_bytes-append, load_is, store_is, load_negative, store_negative, load_past}
use Rattle.wasm_lang.specs.declared.types.MemOp.{MemOp}
use Rattle.wasm_lang_exec.specs.Plain.{loaded_number}
use Rattle.asm_lang_valid.specs.declared.meaning.Element.{Element}
use Rattle.asm_lang_valid.specs.declared.meaning.Element.TheVariants.{Int8, Uint8, Int16, Uint16, Int32, Uint32}
use Rattle.asm_lang_valid.specs.Scope.{shift_of}
use Rattle.asm_lang_exec.specs.Values.{kind_of, element_value}
use Rattle.asm2wasm_translation.specs.Values.{is_signed_element, access}
use Rattle.asm2wasm_laws_heap.specs.Guards.{is_within, is_in_heap, IsPlace, stored_memory, word_or_zero, loaded_word, StoresAreGuarded, LoadsAreGuarded}
use Rattle.asm2wasm_laws_heap.proofs.Places.{Places, places_of, has_size}

module _ (v : Element) (heap past : List ℕ) (long : IsHeapLength (length heap)) where
  abbrev k : ℕ
  k = shift_of v

  abbrev places : Places (length heap) k
  places = places_of v (length heap) long

  -- ---- stores

  stores_at : (i word : ℕ) (inside : Bool) → is_within k (length heap) i ≡ inside → stored_memory k (i * 2 ^ k) word inside (heap ++ past) ≡ store_bytes (2 ^ k * i) (2 ^ k) word heap ++ past
  stores_at i word true w =
      ap (λ at. store_bytes at (2 ^ k) word (heap ++ past)) (places.turned i) ∙ store_bytes-append (2 ^ k * i) (2 ^ k) word heap past (places.inside i w)
  stores_at i word false w = ap (λ h. h ++ past) (sym (store_bytes_past (2 ^ k * i) (2 ^ k) word heap (places.outside i w)))

  stores : (z : ℤ) (place word : ℕ) → IsPlace k z place → stored_memory k place word (is_in_heap (length heap) place) (heap ++ past) ≡ store (kind_of v) z word heap ++ past
  stores (pos i) place word h =
      ap (λ n. stored_memory k n word (is_in_heap (length heap) n) (heap ++ past)) h
      ∙ ap (λ b. stored_memory k (i * 2 ^ k) word b (heap ++ past)) (places.begins i)
      ∙ stores_at i word (is_within k (length heap) i) refl
      ∙ ap (λ h. h ++ past) (ap (λ size. store_bytes (size * i) size word heap) (sym (has_size v)) ∙ sym (store_is (kind_of v) i word heap))
  stores (negsuc n) place word h =
      ap (λ b. stored_memory k place word b (heap ++ past)) (places.begins_far place h)
      ∙ ap (λ h. h ++ past) (sym (store_negative (kind_of v) n word heap))

  -- ---- loads

  abbrev op : MemOp
  op = access v (is_signed_element v)

  loads_inside : (i : ℕ) → is_within k (length heap) i ≡ true → IsBytes heap → word_or_zero op (load_bytes (i * 2 ^ k) (2 ^ k) (heap ++ past)) ≡ to_uint32_of (element_value (load (kind_of v) (pos i) heap))
  loads_inside i w bytes =
      let size = 2 ^ k in
      let n = little_endian (take size (drop (size * i) heap)) in
      let is : load_bytes (size * i) size heap ≡ Some n = load_bytes_within (size * i) size heap (places.inside i w) in
      let below : n < 256 ^ size = load_bytes_below (size * i) size heap n bytes is in
      let target : load_bytes (i * size) size (heap ++ past) ≡ Some n
      = ap (λ at. load_bytes at size (heap ++ past)) (places.turned i) ∙ load_bytes-append (size * i) size heap past (places.inside i w) ∙ is in
      let source : load (kind_of v) (pos i) heap ≡ Some (element_of (kind_of v) n)
      = load_is (kind_of v) i heap ∙ ap (λ size. option_map (element_of (kind_of v)) (load_bytes (size * i) size heap)) (has_size v) ∙ ap (option_map (element_of (kind_of v))) is in
      ap (word_or_zero op) target ∙ number v n below ∙ ap (λ o. to_uint32_of (element_value o)) (sym source)
    where
      number : (v : Element) (n : ℕ) → n < 256 ^ (2 ^ shift_of v) → loaded_number (access v (is_signed_element v)) 32 n ≡ to_uint32_of (Whole (element_of (kind_of v) n))
      number Int8 n below = refl
      number Uint8 n below = omega (arith, below)
      number Int16 n below = refl
      number Uint16 n below = omega (arith, below)
      number Int32 n below = sym (word_of-signed_of_32 n below)
      number Uint32 n below = omega (arith, below)

  loads_at : (i : ℕ) (inside : Bool) → is_within k (length heap) i ≡ inside → IsBytes heap → loaded_word op k (i * 2 ^ k) inside (heap ++ past) ≡ to_uint32_of (element_value (load (kind_of v) (pos i) heap))
  loads_at i true w bytes = loads_inside i w bytes
  loads_at i false w bytes =
      let beyond : length heap < element_size (kind_of v) * i + element_size (kind_of v) = subst (λ size. length heap < size * i + size) (sym (has_size v)) (places.outside i w) in
      ap (λ o. to_uint32_of (element_value o)) (sym (load_past (kind_of v) i heap beyond))

  loads : (z : ℤ) (place : ℕ) → IsBytes heap → IsPlace k z place → loaded_word op k place (is_in_heap (length heap) place) (heap ++ past) ≡ to_uint32_of (element_value (load (kind_of v) z heap))
  loads (pos i) place bytes h =
      ap (λ n. loaded_word op k n (is_in_heap (length heap) n) (heap ++ past)) h
      ∙ ap (λ b. loaded_word op k (i * 2 ^ k) b (heap ++ past)) (places.begins i)
      ∙ loads_at i (is_within k (length heap) i) refl bytes
  loads (negsuc n) place bytes h =
      ap (λ b. loaded_word op k place b (heap ++ past)) (places.begins_far place h)
      ∙ ap (λ o. to_uint32_of (element_value o)) (sym (load_negative (kind_of v) n heap))

pub stores_are_guarded : StoresAreGuarded
stores_are_guarded v z place word heap past long h = stores v heap past long z place word h

pub loads_are_guarded : LoadsAreGuarded
loads_are_guarded v z place heap past long bytes h = loads v heap past long z place bytes h
