-- What the test of a length says.
use Rattle.std.proofs.Common.{◌≡◌, ℕ, ◌%◌, ◌^◌, ◌≤◌, Bool, true, false, ◌&&◌, ◌||◌, refl, arith}
use Rattle.std.specs.Prelude.{◌==◌, nat_le}
use Rattle.std.proofs.lemmas.Bool.Decides.{nat_tests}
use Rattle.heap_lang.specs.Heap.{IsHeapLength}
use Rattle.asm2wasm_lang.specs.Heaps.{is_short, is_heap_length, pages_for}

short_is : (size : ℕ) → is_short size ≡ true → (size % 4 ≡ 0) × (size ≤ 2 ^ 28)
short_is size h = grind (arith, nat_tests)

pub is_of_heap : (size : ℕ) → is_heap_length size ≡ true → IsHeapLength size
unfolding is_heap_length
is_of_heap size h = by (is_short size) refl h
  where
    by : (short : Bool) → is_short size ≡ short → short || ((size % 2 ^ 24 == 0) && (nat_le (2 ^ 24) size && nat_le size (2 ^ 28))) ≡ true → IsHeapLength size
    by true e h = short_is size e
    by false e h = grind (arith, nat_tests)

pub are_few : (size : ℕ) → is_heap_length size ≡ true → pages_for size ≤ 4096
are_few size h = let most = (is_of_heap size h).1 in omega (arith, most)
