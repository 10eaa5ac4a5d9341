-- The calls of foreign functions that a map numbers.
use Rattle.std.specs.Prelude.{◌≡◌, ℕ, suc, Bool, ◌&&◌, List, [], ◌∷◌, length, ◌==◌, if◌then◌else◌}
use Rattle.indexmap.specs.IndexMap.{IndexMap, get_by}
use Rattle.asm_lang_valid.specs.Typing.{same}
use Rattle.asm_validate_limits.specs.declared.calls.ForeignCall.{ForeignCall as CodeCall}
use Rattle.name_slots.specs.Names.{or_else}
use Rattle.asm2wasm_numbers.specs.declared.calls.Call.{Call}

abbrev pub key_of : CodeCall → Call
key_of f = record { declaration = f.declaration; params = f.params; result = f.result }

abbrev pub same_call : Call → Call → Bool
same_call c d = (c.declaration == d.declaration) && ((c.params == d.params) && same c.result d.result)

-- the place of a call, or how many there are where it isn't one of these
abbrev pub place_among : Call → List CodeCall → ℕ
place_among c [] = 0
place_among c (f ∷ fs) = if same_call c (key_of f) then 0 else suc (place_among c fs)

-- what a map has for a call
abbrev pub call_found : {S : Type 0} → IndexMap Call ℕ S → Call → ℕ → ℕ
call_found numbers c otherwise = or_else (get_by (same_call c) numbers) otherwise

-- each call has its number
pub record IsCounted {S : Type 0} (calls : List CodeCall) (numbers : IndexMap Call ℕ S) : Type 0 where
  pub known : (c : Call) → call_found numbers c (length calls) ≡ place_among c calls
