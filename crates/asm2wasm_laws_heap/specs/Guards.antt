-- A heap at the front of a memory: elements are read and written under a guard that compares where they begin with the heap's length,
-- whatever more the memory has.
use Rattle.std.specs.Prelude.{◌≡◌, ℕ, ◌+◌, ◌-◌, ◌*◌, ◌/◌, ◌^◌, ◌≤◌, min, Bool, true, false, List, ◌++◌, length, take, drop, map, All, Option, Some, None, ℤ, pos, negsuc, nat_lt}
use Rattle.sem_words.specs.JsValues.{to_uint32_of}
use Rattle.heap_lang.specs.Heap.{IsHeapLength, load, store, load_bytes, store_bytes}
use Rattle.heap_lang.specs.Numbers.{IsBytes}
use Rattle.session_lang.specs.Script.{WritePlain}
use Rattle.wasm_lang.specs.declared.types.MemOp.{MemOp}
use Rattle.wasm_lang_exec.specs.Store.{written}
use Rattle.wasm_lang_exec.specs.Plain.{loaded_number}
use Rattle.asm_types.specs.Values.{is_between, least}
use Rattle.asm_lang_valid.specs.declared.meaning.Element.{Element}
use Rattle.asm_lang_valid.specs.Scope.{shift_of}
use Rattle.asm_lang_exec.specs.Values.{kind_of, element_value, with_writes}
use Rattle.asm2wasm_translation.specs.Values.{is_signed_element, access}

-- the index is one of an element of 2 ^ k bytes in a heap of this length
abbrev pub is_within : (k size index : ℕ) → Bool
is_within k size index = nat_lt index (size / 2 ^ k)

-- an element that begins there begins in a heap of this length
abbrev pub is_in_heap : (size place : ℕ) → Bool
is_in_heap size place = nat_lt place size

-- where the element of 2 ^ k bytes at an index begins; past each heap where the index is negative
abbrev pub IsPlace : (k : ℕ) → ℤ → (place : ℕ) → Type 0
IsPlace k (pos i) place = place ≡ i * 2 ^ k
IsPlace k (negsuc n) place = 2 ^ 31 ≤ place

abbrev pub stored_memory : (k place word : ℕ) → Bool → List ℕ → List ℕ
stored_memory k place word true memory = store_bytes place (2 ^ k) word memory
stored_memory k place word false memory = memory

-- the word of the element, or 0
abbrev pub word_or_zero : MemOp → Option ℕ → ℕ
word_or_zero op None = 0
word_or_zero op (Some n) = loaded_number op 32 n

abbrev pub loaded_word : MemOp → (k place : ℕ) → Bool → List ℕ → ℕ
loaded_word op k place true memory = word_or_zero op (load_bytes place (2 ^ k) memory)
loaded_word op k place false memory = 0

-- a signed or an unsigned 32-bit number
abbrev pub is_index : ℤ → Bool
is_index z = is_between least (pos (2 ^ 32)) z

abbrev pub StoresAreGuarded : Type 0
StoresAreGuarded =
    (v : Element) (z : ℤ) (place word : ℕ) (heap past : List ℕ) → IsHeapLength (length heap) → IsPlace (shift_of v) z place
    → stored_memory (shift_of v) place word (is_in_heap (length heap) place) (heap ++ past) ≡ store (kind_of v) z word heap ++ past

-- the value of an element outside the heap is undefined, as an int 0
abbrev pub LoadsAreGuarded : Type 0
LoadsAreGuarded =
    (v : Element) (z : ℤ) (place : ℕ) (heap past : List ℕ) → IsHeapLength (length heap) → IsBytes heap → IsPlace (shift_of v) z place
    → loaded_word (access v (is_signed_element v)) (shift_of v) place (is_in_heap (length heap) place) (heap ++ past) ≡ to_uint32_of (element_value (load (kind_of v) z heap))

-- where the guard holds the bytes are there
abbrev pub GuardedBytesAreThere : Type 0
GuardedBytesAreThere =
    (v : Element) (z : ℤ) (place : ℕ) (heap past : List ℕ) → IsHeapLength (length heap) → IsPlace (shift_of v) z place → is_in_heap (length heap) place ≡ true
    → place + 2 ^ shift_of v ≤ length (heap ++ past)

-- byte writes of a host inside the heap
abbrev pub WritesStayInFront : Type 0
WritesStayInFront =
    (ws : List WritePlain) (heap past : List ℕ) → All (λ (w : WritePlain). w.at + length w.bytes ≤ length heap) ws
    → written ws (heap ++ past) ≡ with_writes ws heap ++ past

-- the part of a byte write that lies in a heap of this length, and the part past it, by its place there
abbrev pub part_in : ℕ → WritePlain → WritePlain
part_in size w = record w { at = min w.at size; bytes = take (size - w.at) w.bytes }

abbrev pub part_past : ℕ → WritePlain → WritePlain
part_past size w = record w { at = w.at - size; bytes = drop (size - w.at) w.bytes }

-- .. that a host makes anywhere in the memory, in the heap and past it
abbrev pub WritesHaveTwoParts : Type 0
WritesHaveTwoParts =
    (ws : List WritePlain) (heap past : List ℕ) → All (λ (w : WritePlain). w.at + length w.bytes ≤ length heap + length past) ws
    → written ws (heap ++ past) ≡ with_writes (map (part_in (length heap)) ws) heap ++ with_writes (map (part_past (length heap)) ws) past
