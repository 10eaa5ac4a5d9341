-- What holds of code with addresses.
use Rattle.std.specs.Prelude.{◌≡◌, List, map}
use Rattle.wasm_lang.specs.Instructions.{Instruction}
use Rattle.wasm_link_lang.specs.Pairs.{Bases, addressed}
use Rattle.wasm_link_lang.specs.Refusal.{has_indirect}

abbrev pub no_bases : Bases
no_bases = record { functions = 0; types = 0; globals = 0 }

-- the first module's numbers are addresses
abbrev pub FirstIsAddressed : Type 0
FirstIsAddressed = (code : List Instruction) → map (addressed no_bases) code ≡ code

-- addresses make no call by an entry, and take none away
abbrev pub IndirectStays : Type 0
IndirectStays = (b : Bases) (code : List Instruction) → has_indirect (map (addressed b) code) ≡ has_indirect code
