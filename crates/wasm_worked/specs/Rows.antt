-- The bytes and scripts of the worked runs.
use Rattle.std.specs.Prelude.{ℕ, List, [], ◌∷◌, ◌++◌, codes}

-- the magic and the version
abbrev header : List ℕ
header = 0x00 ∷ 0x61 ∷ 0x73 ∷ 0x6d ∷ 0x01 ∷ 0x00 ∷ 0x00 ∷ 0x00 ∷ []

-- two i32 to one; one function of this type; exported as f
abbrev one_function : List ℕ
one_function =
    0x01 ∷ 0x07 ∷ 0x01 ∷ 0x60 ∷ 0x02 ∷ 0x7f ∷ 0x7f ∷ 0x01 ∷ 0x7f
    ∷ 0x03 ∷ 0x02 ∷ 0x01 ∷ 0x00
    ∷ 0x07 ∷ 0x05 ∷ 0x01 ∷ 0x01 ∷ 0x66 ∷ 0x00 ∷ 0x00 ∷ []

-- `local.get 0`, `local.get 1`, an operator and `end`
abbrev operating : ℕ → List ℕ
operating opcode = 0x0a ∷ 0x09 ∷ 0x01 ∷ 0x07 ∷ 0x00 ∷ 0x20 ∷ 0x00 ∷ 0x20 ∷ 0x01 ∷ opcode ∷ 0x0b ∷ []

-- with `i32.add`, as `asm2wasm` writes it for `examples/add.js`
abbrev pub sum_bytes : List ℕ
sum_bytes = header ++ one_function ++ operating 0x6a

-- with `i32.div_s`
abbrev pub quotient_bytes : List ℕ
quotient_bytes = header ++ one_function ++ operating 0x6d

-- `local.get 0`, `i32.add` and `end`
abbrev pub short_bytes : List ℕ
short_bytes = header ++ one_function ++ 0x0a ∷ 0x07 ∷ 0x01 ∷ 0x05 ∷ 0x00 ∷ 0x20 ∷ 0x00 ∷ 0x6a ∷ 0x0b ∷ []

abbrev pub cut_bytes : List ℕ
cut_bytes = 0x00 ∷ 0x61 ∷ 0x73 ∷ 0x6d ∷ 0x01 ∷ []

abbrev pub sum_script : List ℕ
sum_script = codes "# what the host does with the module of add.js\ncall f 2147483647 1\ncall f -5 3\n"
