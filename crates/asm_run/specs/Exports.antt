-- The exported functions of a module, as the code has them.
use Rattle.std.specs.Prelude.{◌≡◌, ℕ, Bool, true, false, List, map, Option, Some, None, slice_get}
use Rattle.std.specs.Str.{bytes_eq}
use Rattle.asm_lang_valid.specs.Refusal.{Exported}
use Rattle.asm2wasm_translation.specs.Numbers.{slot_of}

abbrev pub keys_in : List Exported → List (List ℕ)
keys_in es = map (λ (e : Exported). e.key) es

abbrev pub has_key : Option Exported → List ℕ → Bool
has_key None n = false
has_key (Some e) n = bytes_eq e.key n

-- whether the export at a place has a key
abbrev pub is_key_at : List Exported → ℕ → List ℕ → Bool
is_key_at es i n = has_key (slice_get es i) n

-- each export is the first of its key
abbrev pub EachIsFirst : List Exported → Type 0
EachIsFirst es = (i : ℕ) (n : List ℕ) → is_key_at es i n ≡ true → slot_of (keys_in es) n ≡ Some i
