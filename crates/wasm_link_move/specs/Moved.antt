-- The code of one of the two modules, moved.
use Rattle.std.specs.Prelude.{ℕ, ◌+◌, ◌^◌, ◌<◌, nat_lt, ◌&&◌, if◌then◌else◌, Bool, true, false, List, [], ◌∷◌}
use Rattle.wasm_lang.specs.Instructions.{Instruction, call_indirect}
use Rattle.wasm_link_lang.specs.Pairs.{Pair, Bases, past_first, addressed}
use Rattle.wasm_link_code.specs.Code.{moved}
use Rattle.wasm_link_code.specs.Laws.{no_bases}
use Rattle.wasm_link_move.specs.declared.code.Side.{Side}
use Rattle.wasm_link_move.specs.declared.code.Side.TheVariants.{First, Second}

-- whether it is the second
abbrev pub side_of : Side → Bool
side_of First = false
side_of Second = true

-- where the addresses of the first or the second begin
abbrev pub bases : Pair → (second : Bool) → Bases
bases w false = no_bases
bases w true = past_first w

-- an instruction of one of the two, in a body with this scratch local
abbrev pub moved_in : Pair → (second : Bool) → (k : ℕ) → Instruction → List Instruction
moved_in w second k i = moved w k (addressed (bases w second) i)

-- the address of a type and the scratch local of a call by an entry have 32 bits
abbrev pub Fits : Pair → (second : Bool) → (k : ℕ) → Instruction → Type 0
Fits w second k (call_indirect t) = ((bases w second).types + t < 2 ^ 32) × (k < 2 ^ 32)
Fits w second k i = Unit {0}

abbrev pub AllFit : Pair → (second : Bool) → (k : ℕ) → List Instruction → Type 0
AllFit w second k [] = Unit {0}
AllFit w second k (i ∷ is) = Fits w second k i × AllFit w second k is

-- what the code makes of an instruction: nothing of one that doesn't fit
abbrev pub pushed : Pair → (second : Bool) → (k : ℕ) → Instruction → List Instruction
pushed w second k (call_indirect t) =
    if nat_lt ((bases w second).types + t) (2 ^ 32) && nat_lt k (2 ^ 32) then moved_in w second k (call_indirect t) else []
pushed w second k i = moved_in w second k i
