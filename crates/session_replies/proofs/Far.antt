-- Byte writes past the end of every heap.
use Rattle.std.proofs.Common.{◌≡◌, ℕ, ◌<◌, ◌^◌, List, length, sym, arith}
use Rattle.heap_lang.specs.Heap.{IsHeapLength, with_run}
use Rattle.heap_lang.proofs.RunLemmas.{with_run_past}

-- a write at 2 ^ 32 or above changes nothing
pub far_write : (at : ℕ) (bytes heap : List ℕ) → IsHeapLength (length heap) → (at < 2 ^ 32 → ⊥) → heap ≡ with_run at bytes heap
far_write at bytes heap h far = sym (with_run_past at bytes heap (omega (arith, h.1)))
