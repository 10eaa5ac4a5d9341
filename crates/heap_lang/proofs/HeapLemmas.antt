-- Loads and stores of a heap.
use Rattle.std.proofs.Common.{◌≡◌, ◌≢◌, refl, sym, ap, subst, ◌∙◌, ◌⊎◌, ⊎_elim, inl, inr, ℕ, ◌+◌, ◌*◌, ◌/◌, ◌%◌, ◌^◌, ◌<◌, ◌≤◌, List, ◌++◌, length, take, drop, take-add, ℤ, pos, negsuc, Option, Some, None, is_some, arith}
use Rattle.std.specs.Prelude.{option_map}
use Rattle.std.proofs.lemmas.Int.{ints}
use Rattle.std.proofs.lemmas.Bool.{cases_lt}
use Rattle.std.proofs.lemmas.List.{length-take, length-drop, drop-drop}
use Rattle.std.proofs.lemmas.List.Elements.{All-take, All-drop}
use Rattle.heap_lang.specs.declared.kind.ViewKind.{ViewKind}
use Rattle.heap_lang.specs.declared.kind.ViewKind.TheVariants.{I8, U8, I16, U16, I32, U32}
use Rattle.heap_lang.specs.Numbers.{IsBytes, little_endian, bytes_of}
use Rattle.heap_lang.specs.Heap.{element_size, element_of, IsElement, is_inside, run_at, with_run, load_bytes, store_bytes, place_of, load, store}
use Rattle.heap_lang.proofs.NumberLemmas.{length-bytes_of, little_endian-bytes_of, little_endian-append, little_endian-below, IsBytes-bytes_of, bytes_of-mod, bytes_of-add}
use Rattle.heap_lang.proofs.RunLemmas.{run_at_within, run_at_past, is_some-run_at, with_run_past, length-with_run, IsBytes-with_run, run_at-with_run_same, run_at-with_run_apart, run_at-append, with_run-append, with_run-append_bytes}

-- ---- accesses by byte places

pub load_bytes_within : (at size : ℕ) (heap : List ℕ) → at + size ≤ length heap → load_bytes at size heap ≡ Some (little_endian (take size (drop at heap)))
unfolding load_bytes
load_bytes_within at size heap within = ap (option_map little_endian) (run_at_within at size heap within)

pub load_bytes_past : (at size : ℕ) (heap : List ℕ) → length heap < at + size → load_bytes at size heap ≡ None
unfolding load_bytes
load_bytes_past at size heap past = ap (option_map little_endian) (run_at_past at size heap past)

is_some-option_map : {A B : Type 0} (f : A → B) (o : Option A) → is_some (option_map f o) ≡ is_some o
is_some-option_map f (Some x) = refl
is_some-option_map f None = refl

pub is_some-load_bytes : (at size : ℕ) (heap : List ℕ) → is_some (load_bytes at size heap) ≡ is_inside at size heap
unfolding load_bytes
is_some-load_bytes at size heap = is_some-option_map little_endian (run_at at size heap) ∙ is_some-run_at at size heap

pub load_bytes_below : (at size : ℕ) (heap : List ℕ) (n : ℕ) → IsBytes heap → load_bytes at size heap ≡ Some n → n < 256 ^ size
load_bytes_below at size heap n all is =
    ⊎_elim
    (λ past. let none = load_bytes_past at size heap past in absurd (cc))
    (λ within.
    let run = take size (drop at heap) in
    let some = load_bytes_within at size heap within in
    let same : n ≡ little_endian run = cc in
    let long : length run ≡ size = simp (length-take, length-drop) (omega arith) in
    rw same (rw long at (little_endian-below run (All-take (λ b. b < 256) size (drop at heap) (All-drop (λ b. b < 256) at heap all)))))
    (cases_lt (length heap) (at + size))

pub store_bytes_past : (at size word : ℕ) (heap : List ℕ) → length heap < at + size → store_bytes at size word heap ≡ heap
unfolding store_bytes
store_bytes_past at size word heap past = with_run_past at (bytes_of size word) heap (rw length-bytes_of past)

pub length-store_bytes : (at size word : ℕ) (heap : List ℕ) → length (store_bytes at size word heap) ≡ length heap
unfolding store_bytes
length-store_bytes at size word heap = length-with_run at (bytes_of size word) heap

pub IsBytes-store_bytes : (at size word : ℕ) (heap : List ℕ) → IsBytes heap → IsBytes (store_bytes at size word heap)
unfolding store_bytes
IsBytes-store_bytes at size word heap all = IsBytes-with_run at (bytes_of size word) heap (IsBytes-bytes_of size word) all

-- what was stored is loaded: the word's low bits
pub load_bytes-store_bytes_same : (at size word : ℕ) (heap : List ℕ) → at + size ≤ length heap → load_bytes at size (store_bytes at size word heap) ≡ Some (word % 256 ^ size)
unfolding load_bytes store_bytes
load_bytes-store_bytes_same at size word heap within =
    let read = rw length-bytes_of at (run_at-with_run_same at (bytes_of size word) heap (rw length-bytes_of within)) in
    ap (option_map little_endian) read ∙ ap Some (little_endian-bytes_of size word)

-- bytes outside the ones that are written stay
pub load_bytes-store_bytes_apart : (at size to width word : ℕ) (heap : List ℕ) → (at + size ≤ to) ⊎ (to + width ≤ at) → load_bytes at size (store_bytes to width word heap) ≡ load_bytes at size heap
unfolding load_bytes store_bytes
load_bytes-store_bytes_apart at size to width word heap apart =
    ap (option_map little_endian) (run_at-with_run_apart at size to (bytes_of width word) heap (rw length-bytes_of apart))

-- only the low bits count
pub store_bytes-mod : (at size word : ℕ) (heap : List ℕ) → store_bytes at size (word % 256 ^ size) heap ≡ store_bytes at size word heap
unfolding store_bytes
store_bytes-mod at size word heap = ap (λ bytes. with_run at bytes heap) (bytes_of-mod size word)

-- a load in two parts
pub load_bytes-add : (at m n : ℕ) (heap : List ℕ) → at + (m + n) ≤ length heap → load_bytes at (m + n) heap ≡ Some (little_endian (take m (drop at heap)) + 256 ^ m * little_endian (take n (drop (at + m) heap)))
load_bytes-add at m n heap within =
    let long : length (take m (drop at heap)) ≡ m = simp (length-take, length-drop) (omega arith) in
    load_bytes_within at (m + n) heap within
    ∙ ap Some (rw (take-add m n (drop at heap), drop-drop m at heap, little_endian-append) (rw long))

-- a store in two parts
pub store_bytes-add : (at m n word : ℕ) (heap : List ℕ) → at + (m + n) ≤ length heap → store_bytes at (m + n) word heap ≡ store_bytes (at + m) n (word / 256 ^ m) (store_bytes at m word heap)
unfolding store_bytes
store_bytes-add at m n word heap within =
    let both = with_run-append_bytes at (bytes_of m word) (bytes_of n (word / 256 ^ m)) heap (rw (length-bytes_of m word, length-bytes_of n (word / 256 ^ m)) within) in
    let long = length-bytes_of m word in
    rw bytes_of-add (both ∙ ap (λ k. with_run (at + k) (bytes_of n (word / 256 ^ m)) (with_run at (bytes_of m word) heap)) long)

-- a heap that begins with another one
pub load_bytes-append : (at size : ℕ) (heap more : List ℕ) → at + size ≤ length heap → load_bytes at size (heap ++ more) ≡ load_bytes at size heap
unfolding load_bytes
load_bytes-append at size heap more within = ap (option_map little_endian) (run_at-append at size heap more within)

pub store_bytes-append : (at size word : ℕ) (heap more : List ℕ) → at + size ≤ length heap → store_bytes at size word (heap ++ more) ≡ store_bytes at size word heap ++ more
unfolding store_bytes
store_bytes-append at size word heap more within = with_run-append at (bytes_of size word) heap more (rw length-bytes_of within)

-- ---- elements of views

pub load_is : (kind : ViewKind) (i : ℕ) (heap : List ℕ) → load kind (pos i) heap ≡ option_map (element_of kind) (load_bytes (element_size kind * i) (element_size kind) heap)
unfolding load
load_is kind i heap = refl

pub store_is : (kind : ViewKind) (i word : ℕ) (heap : List ℕ) → store kind (pos i) word heap ≡ store_bytes (element_size kind * i) (element_size kind) word heap
unfolding store
store_is kind i word heap = refl

pub load_negative : (kind : ViewKind) (n : ℕ) (heap : List ℕ) → load kind (negsuc n) heap ≡ None
unfolding load
load_negative kind n heap = refl

pub store_negative : (kind : ViewKind) (n word : ℕ) (heap : List ℕ) → store kind (negsuc n) word heap ≡ heap
unfolding store
store_negative kind n word heap = refl

pub load_past : (kind : ViewKind) (i : ℕ) (heap : List ℕ) → length heap < element_size kind * i + element_size kind → load kind (pos i) heap ≡ None
unfolding load
load_past kind i heap past = ap (option_map (element_of kind)) (load_bytes_past (element_size kind * i) (element_size kind) heap past)

pub is_some-load : (kind : ViewKind) (i : ℕ) (heap : List ℕ) → is_some (load kind (pos i) heap) ≡ is_inside (element_size kind * i) (element_size kind) heap
unfolding load
is_some-load kind i heap =
    is_some-option_map (element_of kind) (load_bytes (element_size kind * i) (element_size kind) heap) ∙ is_some-load_bytes (element_size kind * i) (element_size kind) heap

pub length-store : (kind : ViewKind) (i : ℤ) (word : ℕ) (heap : List ℕ) → length (store kind i word heap) ≡ length heap
unfolding store
length-store kind (pos i) word heap = length-store_bytes (element_size kind * i) (element_size kind) word heap
length-store kind (negsuc n) word heap = refl

pub IsBytes-store : (kind : ViewKind) (i : ℤ) (word : ℕ) (heap : List ℕ) → IsBytes heap → IsBytes (store kind i word heap)
unfolding store
IsBytes-store kind (pos i) word heap all = IsBytes-store_bytes (element_size kind * i) (element_size kind) word heap all
IsBytes-store kind (negsuc n) word heap all = all

-- the element that was stored is loaded: the word's low bits, read by the kind
pub load-store_same : (kind : ViewKind) (i word : ℕ) (heap : List ℕ) → element_size kind * i + element_size kind ≤ length heap → load kind (pos i) (store kind (pos i) word heap) ≡ Some (element_of kind (word % 256 ^ element_size kind))
unfolding load store
load-store_same kind i word heap within =
    ap (option_map (element_of kind)) (load_bytes-store_bytes_same (element_size kind * i) (element_size kind) word heap within)

-- an element with no byte in common with the one that was stored stays
pub load-store_apart : (kind to : ViewKind) (i j word : ℕ) (heap : List ℕ) → (element_size kind * i + element_size kind ≤ element_size to * j) ⊎ (element_size to * j + element_size to ≤ element_size kind * i) → load kind (pos i) (store to (pos j) word heap) ≡ load kind (pos i) heap
unfolding load store
load-store_apart kind to i j word heap apart =
    ap (option_map (element_of kind)) (load_bytes-store_bytes_apart (element_size kind * i) (element_size kind) (element_size to * j) (element_size to) word heap apart)

elements_apart : (size i j : ℕ) → i ≢ j → (size * i + size ≤ size * j) ⊎ (size * j + size ≤ size * i)
elements_apart size i j differ =
    ⊎_elim (λ less. inl (grind arith)) (λ more. inr (grind arith)) (cases_lt i j)

-- another element of a view stays
pub load-store_other : (kind : ViewKind) (i j word : ℕ) (heap : List ℕ) → i ≢ j → load kind (pos i) (store kind (pos j) word heap) ≡ load kind (pos i) heap
load-store_other kind i j word heap differ = load-store_apart kind kind i j word heap (elements_apart (element_size kind) i j differ)

pub element_of_in_range : (kind : ViewKind) (n : ℕ) → n < 256 ^ element_size kind → IsElement kind (element_of kind n)
element_of_in_range I8 n below = (grind (arith, ints), grind (arith, ints))
element_of_in_range U8 n below = (grind (arith, ints), grind (arith, ints))
element_of_in_range I16 n below = (grind (arith, ints), grind (arith, ints))
element_of_in_range U16 n below = (grind (arith, ints), grind (arith, ints))
element_of_in_range I32 n below = (grind (arith, ints), grind (arith, ints))
element_of_in_range U32 n below = (grind (arith, ints), grind (arith, ints))

in_range_of : (kind : ViewKind) (o : Option ℕ) (element : ℤ) → ((n : ℕ) → o ≡ Some n → n < 256 ^ element_size kind) → option_map (element_of kind) o ≡ Some element → IsElement kind element
in_range_of kind (Some n) element below is = let same : element_of kind n ≡ element = cc in subst (IsElement kind) same (element_of_in_range kind n (below n refl))
in_range_of kind None element below is = absurd (cc)

pub load_in_range : (kind : ViewKind) (i : ℤ) (heap : List ℕ) (element : ℤ) → IsBytes heap → load kind i heap ≡ Some element → IsElement kind element
unfolding load
load_in_range kind (pos i) heap element all is =
    in_range_of kind (load_bytes (element_size kind * i) (element_size kind) heap) element (λ n e. load_bytes_below (element_size kind * i) (element_size kind) heap n all e) is
load_in_range kind (negsuc i) heap element all is = absurd (cc)

-- only the low bits count
pub store-mod : (kind : ViewKind) (i : ℤ) (word : ℕ) (heap : List ℕ) → store kind i (word % 256 ^ element_size kind) heap ≡ store kind i word heap
unfolding store
store-mod kind (pos i) word heap = store_bytes-mod (element_size kind * i) (element_size kind) word heap
store-mod kind (negsuc n) word heap = refl

-- views with elements of one size store alike
pub store_same_size : (kind other : ViewKind) (i : ℤ) (word : ℕ) (heap : List ℕ) → element_size kind ≡ element_size other → store kind i word heap ≡ store other i word heap
unfolding store
store_same_size kind other (pos i) word heap same = ap (λ size. store_bytes (size * i) size word heap) same
store_same_size kind other (negsuc n) word heap same = refl

-- a heap that begins with another one
pub load-append : (kind : ViewKind) (i : ℕ) (heap more : List ℕ) → element_size kind * i + element_size kind ≤ length heap → load kind (pos i) (heap ++ more) ≡ load kind (pos i) heap
unfolding load
load-append kind i heap more within = ap (option_map (element_of kind)) (load_bytes-append (element_size kind * i) (element_size kind) heap more within)

pub store-append : (kind : ViewKind) (i word : ℕ) (heap more : List ℕ) → element_size kind * i + element_size kind ≤ length heap → store kind (pos i) word (heap ++ more) ≡ store kind (pos i) word heap ++ more
unfolding store
store-append kind i word heap more within = store_bytes-append (element_size kind * i) (element_size kind) word heap more within

-- ---- elements by their places, as the code finds them

pub load_at_place : (kind : ViewKind) (i : ℤ) (heap : List ℕ) (at : ℕ) → place_of kind i heap ≡ Some at → load kind i heap ≡ option_map (element_of kind) (load_bytes at (element_size kind) heap)
unfolding place_of load
load_at_place kind (pos i) heap at e = grind arith
load_at_place kind (negsuc i) heap at e = cc

pub load_without_place : (kind : ViewKind) (i : ℤ) (heap : List ℕ) → place_of kind i heap ≡ None → load kind i heap ≡ None
unfolding place_of load load_bytes run_at
load_without_place kind (pos i) heap e = grind arith
load_without_place kind (negsuc i) heap e = refl

pub store_at_place : (kind : ViewKind) (i : ℤ) (word : ℕ) (heap : List ℕ) (at : ℕ) → place_of kind i heap ≡ Some at → store kind i word heap ≡ store_bytes at (element_size kind) word heap
unfolding place_of store
store_at_place kind (pos i) word heap at e = grind arith
store_at_place kind (negsuc i) word heap at e = cc

pub store_without_place : (kind : ViewKind) (i : ℤ) (word : ℕ) (heap : List ℕ) → place_of kind i heap ≡ None → store kind i word heap ≡ heap
unfolding place_of store store_bytes with_run
store_without_place kind (pos i) word heap e = grind (arith, length-bytes_of)
store_without_place kind (negsuc i) word heap e = refl

pub is_some_load_at_place : (kind : ViewKind) (i : ℤ) (heap : List ℕ) (at : ℕ) → place_of kind i heap ≡ Some at → is_some (load kind i heap) ≡ is_inside at (element_size kind) heap
unfolding place_of load load_bytes run_at
is_some_load_at_place kind (pos i) heap at e = grind arith
is_some_load_at_place kind (negsuc i) heap at e = cc

pub ruleset set_steps = (store_at_place, store_without_place, is_some_load_at_place, load_without_place)

pub load_found : (kind : ViewKind) (i : ℤ) (heap : List ℕ) (at size number : ℕ) (element : ℤ) → place_of kind i heap ≡ Some at → size ≡ element_size kind → load_bytes at size heap ≡ Some number → element ≡ element_of kind number → Some element ≡ load kind i heap
load_found kind i heap at size number element place of_kind read is =
    rw is (sym (load_at_place kind i heap at place ∙ ap (option_map (element_of kind)) (ap (λ n. load_bytes at n heap) (sym of_kind) ∙ read)))
