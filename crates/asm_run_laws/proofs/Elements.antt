-- Elements of views at an index that is read as an unsigned word: a heap ends before the words of negative indices.
use Rattle.std.proofs.Common.{◌≡◌, ℕ, ◌+◌, ◌*◌, ◌<◌, true, List, ◌++◌, length, take, drop, Option, Some, None, ℤ, pos, negsuc, refl, sym, ap, ◌∙◌, subst, arith}
use Rattle.std.specs.Prelude.{option_map, if◌then◌else◌}
use Rattle.std.proofs.lemmas.Bool.{lt-leb}
use Rattle.sem_words.specs.Words.{word_of}
use Rattle.sem_words.specs.JsValues.{to_uint32_of}
use Rattle.heap_lang.specs.declared.kind.ViewKind.{ViewKind}
use Rattle.heap_lang.specs.Heap.{IsHeapLength, element_size, element_of, load, store, load_bytes, store_bytes, run_at, with_run}
use Rattle.heap_lang.specs.Numbers.{little_endian, bytes_of}
use Rattle.heap_lang.proofs.NumberLemmas.{length-bytes_of}
use Rattle.asm_lang_valid.specs.declared.meaning.Element.{Element}
use Rattle.asm_lang_exec.specs.Values.{kind_of, element_value}
use Rattle.asm2wasm_laws_heap.specs.Guards.{is_index}
use Rattle.asm2wasm_laws_heap.proofs.Places.{places_of, has_size, word_is, negative_is}
use Rattle.asm_run_code.specs.Machine.{element_word}

far_load : (kind : ViewKind) (i : ℕ) (heap : List ℕ) → length heap < element_size kind * i + element_size kind → load kind (pos i) heap ≡ None
unfolding load load_bytes run_at
far_load kind i heap far =
    ap (λ b. option_map (element_of kind) (option_map little_endian (if b then Some (take (element_size kind) (drop (element_size kind * i) heap)) else None))) (lt-leb (element_size kind * i + element_size kind) (length heap) far)

far_store : (kind : ViewKind) (i word : ℕ) (heap : List ℕ) → length heap < element_size kind * i + element_size kind → store kind (pos i) word heap ≡ heap
unfolding store store_bytes with_run
far_store kind i word heap far =
    let at = element_size kind * i in
    let bytes = bytes_of (element_size kind) word in
    let many = length-bytes_of (element_size kind) word in
    ap (λ b. if b then take at heap ++ bytes ++ drop (at + length bytes) heap else heap) (lt-leb (at + length bytes) (length heap) (omega (arith, far, many)))

far_word : (v : Element) (n : ℕ) (heap : List ℕ) → IsHeapLength (length heap) → is_index (negsuc n) ≡ true
    → length heap < element_size (kind_of v) * word_of 32 (negsuc n) + element_size (kind_of v)
far_word v n heap h is =
    let p = places_of v (length heap) h in
    subst (λ size. length heap < size * word_of 32 (negsuc n) + size) (sym (has_size v)) (p.outside (word_of 32 (negsuc n)) (p.far n (negative_is n is)))

element_is : (o : Option ℤ) → element_word o ≡ to_uint32_of (element_value o)
element_is None = refl
element_is (Some z) = refl

pub element_read : (v : Element) (z : ℤ) (heap : List ℕ) → IsHeapLength (length heap) → is_index z ≡ true
    → element_word (load (kind_of v) (pos (word_of 32 z)) heap) ≡ to_uint32_of (element_value (load (kind_of v) z heap))
unfolding load
element_read v (pos i) heap h is = ap (λ i. element_word (load (kind_of v) (pos i) heap)) (word_is i is) ∙ element_is (load (kind_of v) (pos i) heap)
element_read v (negsuc n) heap h is = ap element_word (far_load (kind_of v) (word_of 32 (negsuc n)) heap (far_word v n heap h is))

pub element_written : (v : Element) (z : ℤ) (word : ℕ) (heap : List ℕ) → IsHeapLength (length heap) → is_index z ≡ true
    → store (kind_of v) (pos (word_of 32 z)) word heap ≡ store (kind_of v) z word heap
unfolding store
element_written v (pos i) word heap h is = ap (λ i. store (kind_of v) (pos i) word heap) (word_is i is)
element_written v (negsuc n) word heap h is = far_store (kind_of v) (word_of 32 (negsuc n)) word heap (far_word v n heap h is)
