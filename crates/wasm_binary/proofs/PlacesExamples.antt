-- Places of a module, which the checker computes.
use Rattle.std.specs.Prelude.{◌≡◌, ℕ, List, [], ◌∷◌, ◌++◌, Ok, refl}
use Rattle.wasm_lang.specs.ReadingCode.{after_opcode}
use Rattle.wasm_lang.specs.Opcodes.{form_at}
use Rattle.wasm_binary.specs.Places.{module_places}

-- the header, and a type without parameters or results
abbrev start : List ℕ
start = 0x00 ∷ 0x61 ∷ 0x73 ∷ 0x6d ∷ 0x01 ∷ 0x00 ∷ 0x00 ∷ 0x00 ∷ 0x01 ∷ 0x04 ∷ 0x01 ∷ 0x60 ∷ 0x00 ∷ 0x00 ∷ []

-- a function that is imported as m.f, one of the module's own, and a memory
abbrev imported : List ℕ
imported = 0x02 ∷ 0x07 ∷ 0x01 ∷ 0x01 ∷ 0x6d ∷ 0x01 ∷ 0x66 ∷ 0x00 ∷ 0x00 ∷ 0x03 ∷ 0x02 ∷ 0x01 ∷ 0x00 ∷ 0x05 ∷ 0x03 ∷ 0x01 ∷ 0x00 ∷ 0x00 ∷ []

-- the own one is exported as f, and has a local
abbrev exported : List ℕ
exported = 0x07 ∷ 0x05 ∷ 0x01 ∷ 0x01 ∷ 0x66 ∷ 0x00 ∷ 0x01 ∷ 0x0a ∷ 0x06 ∷ 0x01 ∷ 0x04 ∷ 0x01 ∷ 0x01 ∷ 0x7f ∷ 0x0b ∷ []

-- the bytes ff at the address 0
abbrev stored : List ℕ
stored = 0x0b ∷ 0x08 ∷ 0x01 ∷ 0x00 ∷ 0x41 ∷ 0x00 ∷ 0x0b ∷ 0x02 ∷ 0x66 ∷ 0x66 ∷ []

-- f stands at 20, 36, 55 and 56, and the import's, the export's and the segment's are the first three
places : module_places (start ++ imported ++ exported ++ stored) ≡ Ok (record { imports = (18, 20) ∷ []; exports = 36 ∷ []; bodies = 46 ∷ []; segments = 55 ∷ [] })
unfolding after_opcode form_at
places = refl

-- a module without any
no_places : module_places start ≡ Ok (record { imports = []; exports = []; bodies = []; segments = [] })
no_places = refl
