-- The names and bytes of a script.
use Rattle.std.specs.Prelude.{ℕ, Bool, ◌&&◌, List, [], ◌∷◌, Option, Some, None, Result, Ok, Err, nat_le, ◌==◌, if◌then◌else◌}
use Rattle.std.specs.List.{list_all}
use Rattle.hex.specs.Hex.{decode_of}

abbrev pub if_read : {E : Type 0} → Result (List ℕ) E → Option (List ℕ)
if_read (Ok bytes) = Some bytes
if_read (Err e) = None

-- an even number of hex digits of either case, at least two, two for each byte
abbrev pub bytes_of : List ℕ → Option (List ℕ)
bytes_of [] = None
bytes_of (d ∷ ds) = if_read (decode_of (d ∷ ds))

-- ASCII from `!` to `~`
abbrev pub is_visible : ℕ → Bool
is_visible b = nat_le 33 b && nat_le b 126

-- `%` and the bytes of a name, or `%` alone for the empty name
abbrev pub spelled_name : List ℕ → Option (List ℕ)
spelled_name [] = Some []
spelled_name (d ∷ ds) = bytes_of (d ∷ ds)

-- visible ASCII that doesn't begin with `%` is a name as it stands
abbrev pub name_of : List ℕ → Option (List ℕ)
name_of [] = None
name_of (b ∷ bs) = if b == 37 then spelled_name bs else (if list_all is_visible (b ∷ bs) then Some (b ∷ bs) else None)
