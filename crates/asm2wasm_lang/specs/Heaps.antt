-- The lengths of a heap that a module is translated for (asm.js draft of 18 August 2014, section 7), and the pages that hold one.
use Rattle.std.specs.Prelude.{ℕ, ◌+◌, ◌-◌, ◌/◌, ◌%◌, ◌^◌, Bool, ◌&&◌, ◌||◌, [], ◌∷◌, ◌==◌, nat_le}
use Rattle.std.specs.List.{list_any}
use Rattle.wasm_lang_exec.specs.Store.{page}

-- 2^12, 2^13 and so on to 2^23
abbrev pub is_short : ℕ → Bool
is_short n = list_any (λ k. 2 ^ k == n) (12 ∷ 13 ∷ 14 ∷ 15 ∷ 16 ∷ 17 ∷ 18 ∷ 19 ∷ 20 ∷ 21 ∷ 22 ∷ 23 ∷ [])

-- one of these, or a multiple of 2^24 from 2^24 to 2^28
unfoldable pub is_heap_length : ℕ → Bool
is_heap_length n = is_short n || (n % 2 ^ 24 == 0 && (nat_le (2 ^ 24) n && nat_le n (2 ^ 28)))

-- the least number of pages with so many bytes
abbrev pub pages_for : ℕ → ℕ
pages_for size = (size + (page - 1)) / page
