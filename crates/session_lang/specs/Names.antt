-- The names of imports and exports as the other language spells them. Names are lists of bytes.
use Rattle.std.specs.Prelude.{ℕ, ◌==◌, nat_eq, nat_le, Bool, false, ◌&&◌, ◌||◌, not, if◌then◌else◌, List, [], ◌∷◌, ◌++◌, codes}
use Rattle.std.specs.List.{list_all, starts_with}
use Rattle.std.specs.Str.{bytes_eq}
use Rattle.hex.specs.Hex.{encode_lower}

-- a letter, `_` (95) or `$` (36)
abbrev pub is_name_start : ℕ → Bool
is_name_start b = nat_le 65 b && nat_le b 90 || nat_le 97 b && nat_le b 122 || b == 95 || b == 36

-- one of these or a digit
abbrev pub is_name_part : ℕ → Bool
is_name_part b = is_name_start b || nat_le 48 b && nat_le b 57

abbrev pub starts_as_name : List ℕ → Bool
starts_as_name [] = false
starts_as_name (b ∷ bs) = is_name_start b

-- a plain name begins with a letter, `_` or `$`, goes on with these and digits, and isn't `__proto__`
abbrev pub is_plain_name : List ℕ → Bool
is_plain_name name = starts_as_name name && list_all is_name_part name && not (bytes_eq name (codes "__proto__"))

-- an import's name is its field where the module is `env` and the field is a plain name that doesn't begin with `$x`; else it is `$x`, the hex of the module's bytes, `$`, the hex of the field's bytes
abbrev pub import_name : List ℕ → List ℕ → List ℕ
import_name module_name field =
    if bytes_eq module_name (codes "env") && is_plain_name field && not (starts_with nat_eq field (codes "$x")) then field
    else codes "$x" ++ encode_lower module_name ++ codes "$" ++ encode_lower field

-- an export's name is itself where it is a plain name that doesn't begin with `$`; else it is `$x` and the hex of its bytes
abbrev pub export_name : List ℕ → List ℕ
export_name name =
    if is_plain_name name && not (starts_with nat_eq name (codes "$")) then name
    else codes "$x" ++ encode_lower name
