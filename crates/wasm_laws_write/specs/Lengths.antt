-- How many bytes parts of the binary format take at most, in numbers that can be counted on a module.
use Rattle.std.specs.Prelude.{ℕ, ◌+◌, ◌<◌, List, [], ◌∷◌, length}
use Rattle.wasm_lang.specs.Instructions.{Plain, load, store, const64, Instruction, br_table, plain}
use Rattle.wasm_laws_write.specs.Fits.{FitsU32, PlainFits, InstructionFits}

-- instructions, where a label of a table counts as one more
abbrev pub instruction_size : Instruction → ℕ
instruction_size (br_table ls d) = 1 + length ls
instruction_size i = 1

abbrev pub code_size : List Instruction → ℕ
code_size [] = 0
code_size (i ∷ is) = instruction_size i + code_size is

-- an instruction whose numbers fit, without a wide constant, with an alignment of one byte
abbrev pub PlainIsNarrow : Plain → Type 0
PlainIsNarrow (load op align offset) = (align < 128) × FitsU32 offset
PlainIsNarrow (store op align offset) = (align < 128) × FitsU32 offset
PlainIsNarrow (const64 word) = ⊥
PlainIsNarrow p = PlainFits p

abbrev pub IsNarrow : Instruction → Type 0
IsNarrow (plain p) = PlainIsNarrow p
IsNarrow i = InstructionFits i

-- the sum of a number of each
abbrev pub total : {X : Type 0} → (X → ℕ) → List X → ℕ
total f [] = 0
total f (x ∷ xs) = f x + total f xs
