-- A heap is the list of its bytes.
-- Elements of views: ECMA-262 6th edition, 9.4.5 and 22.2. Accesses by byte places: WebAssembly Core 1.0, 4.4.4. Copies and fills: WebAssembly Core 2.0, 4.4.7.
use Rattle.std.specs.Prelude.{◌≡◌, ◌⊎◌, ℕ, ◌+◌, ◌*◌, ◌%◌, ◌^◌, ◌≤◌, Bool, ◌&&◌, List, ◌++◌, length, take, drop, replicate, ℤ, pos, negsuc, neg_ℤ, ◌≤ℤ◌, ◌<ℤ◌, Option, Some, None, option_map, nat_le, if◌then◌else◌}
use Rattle.heap_lang.specs.declared.kind.ViewKind.{ViewKind}
use Rattle.heap_lang.specs.declared.kind.ViewKind.TheVariants.{I8, U8, I16, U16, I32, U32}
use Rattle.heap_lang.specs.Numbers.{little_endian, bytes_of, signed_reading}

-- the lengths of a heap: whole 32-bit words, at most 256 MiB
abbrev pub IsHeapLength : ℕ → Type 0
IsHeapLength len = (len % 4 ≡ 0) × (len ≤ 2 ^ 28)

-- the bytes of an element
abbrev pub element_size : ViewKind → ℕ
element_size I8 = 1
element_size U8 = 1
element_size I16 = 2
element_size U16 = 2
element_size I32 = 4
element_size U32 = 4

-- the element that the number of its bytes stands for
abbrev pub element_of : ViewKind → ℕ → ℤ
element_of I8 n = signed_reading 8 n
element_of U8 n = pos n
element_of I16 n = signed_reading 16 n
element_of U16 n = pos n
element_of I32 n = signed_reading 32 n
element_of U32 n = pos n

-- the range of a view's elements
abbrev pub IsElement : ViewKind → ℤ → Type 0
IsElement I8 z = (neg_ℤ (pos 128) ≤ℤ z) × (z <ℤ pos 128)
IsElement U8 z = (pos 0 ≤ℤ z) × (z <ℤ pos 256)
IsElement I16 z = (neg_ℤ (pos 32768) ≤ℤ z) × (z <ℤ pos 32768)
IsElement U16 z = (pos 0 ≤ℤ z) × (z <ℤ pos 65536)
IsElement I32 z = (neg_ℤ (pos 2147483648) ≤ℤ z) × (z <ℤ pos 2147483648)
IsElement U32 z = (pos 0 ≤ℤ z) × (z <ℤ pos 4294967296)

-- the sizes of a word that is read or written by its place
abbrev pub IsWordSize : ℕ → Type 0
IsWordSize size = (size ≡ 1) ⊎ (size ≡ 2) ⊎ (size ≡ 4) ⊎ (size ≡ 8)

-- the `len` places from `at` on lie in the heap
abbrev pub is_inside : ℕ → ℕ → List ℕ → Bool
is_inside at len heap = nat_le (at + len) (length heap)

-- the `len` bytes from `at` on
unfoldable pub run_at : ℕ → ℕ → List ℕ → Option (List ℕ)
run_at at len heap = if is_inside at len heap then Some (take len (drop at heap)) else None

-- the heap with these bytes from `at` on; the same heap where they pass the end
unfoldable pub with_run : ℕ → List ℕ → List ℕ → List ℕ
with_run at bytes heap =
    if is_inside at (length bytes) heap then take at heap ++ bytes ++ drop (at + length bytes) heap else heap

-- the number of the `size` bytes from `at` on
unfoldable pub load_bytes : ℕ → ℕ → List ℕ → Option ℕ
load_bytes at size heap = option_map little_endian (run_at at size heap)

-- the heap with the word's low bits in the `size` bytes from `at` on
unfoldable pub store_bytes : ℕ → ℕ → ℕ → List ℕ → List ℕ
store_bytes at size word heap = with_run at (bytes_of size word) heap

-- the place of element i of a view: none where i is negative or the element passes the end
unfoldable pub place_of : ViewKind → ℤ → List ℕ → Option ℕ
place_of kind (pos i) heap =
    let at = element_size kind * i in
    if is_inside at (element_size kind) heap then Some at else None
place_of kind (negsuc n) heap = None

-- element i of a view: none where i is negative or the element passes the end
unfoldable pub load : ViewKind → ℤ → List ℕ → Option ℤ
load kind (pos i) heap = option_map (element_of kind) (load_bytes (element_size kind * i) (element_size kind) heap)
load kind (negsuc n) heap = None

-- the heap with the word's low bits in element i of a view: the same heap where there is no such element
unfoldable pub store : ViewKind → ℤ → ℕ → List ℕ → List ℕ
store kind (pos i) word heap = store_bytes (element_size kind * i) (element_size kind) word heap
store kind (negsuc n) word heap = heap

-- both ranges of a copy lie in the heap
abbrev pub can_copy : ℕ → ℕ → ℕ → List ℕ → Bool
can_copy to from len heap = is_inside to len heap && is_inside from len heap

-- the heap with the bytes that stood from `from` on in the places from `to` on; the same heap where a range passes the end
unfoldable pub copied : ℕ → ℕ → ℕ → List ℕ → List ℕ
copied to from len heap = if can_copy to from len heap then with_run to (take len (drop from heap)) heap else heap

-- the heap with the byte in the `len` places from `at` on; the same heap where they pass the end
unfoldable pub filled : ℕ → ℕ → ℕ → List ℕ → List ℕ
filled at len byte heap = with_run at (replicate len byte) heap
