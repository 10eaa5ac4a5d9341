-- The length of the heap that holds a memory.
use Rattle.std.specs.Prelude.{ℕ, ◌+◌, ◌-◌, ◌*◌, ◌/◌, ◌^◌, List, [], ◌∷◌, nat_le, if◌then◌else◌}
use Rattle.wasm_lang.specs.Modules.{WasmModule}
use Rattle.wasm_lang_valid.specs.Runnable.{pages}
use Rattle.wasm_lang_valid.specs.Profile.{or_zero}
use Rattle.wasm_lang_exec.specs.Store.{page}

-- the first of these powers of two that is no less, and past them the least multiple of 2 ^ 24
abbrev pub first_no_less : (exponents : List ℕ) → ℕ → ℕ
first_no_less [] n = (n + (2 ^ 24 - 1)) / 2 ^ 24 * 2 ^ 24
first_no_less (k ∷ ks) n = if nat_le n (2 ^ k) then 2 ^ k else first_no_less ks n

-- the least length of a heap that holds so many pages
unfoldable pub heap_for : (pages : ℕ) → ℕ
heap_for n = first_no_less (12 ∷ 13 ∷ 14 ∷ 15 ∷ 16 ∷ 17 ∷ 18 ∷ 19 ∷ 20 ∷ 21 ∷ 22 ∷ 23 ∷ []) (n * page)

-- .. the pages of the module's memory; without one the length is of no use
abbrev pub heap_bytes : WasmModule → ℕ
heap_bytes w = heap_for (or_zero (pages w))
