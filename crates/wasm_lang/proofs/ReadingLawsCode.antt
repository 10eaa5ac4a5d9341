-- The two laws of instructions and expressions, as steps.
use Rattle.std.proofs.Common.{ℕ, ◌≤◌, List}
use Rattle.wasm_lang.specs.Instructions.{Instruction}
use Rattle.wasm_lang.specs.Limits.{most_levels, levels}
use Rattle.wasm_lang.specs.Grammar.{IsInstruction, IsCode}
use Rattle.wasm_lang.specs.Reading.{Input}
use Rattle.wasm_lang.specs.ReadingCode.{instruction_field, code_field}
use Rattle.wasm_lang.proofs.Spelled.{instruction_reads}
use Rattle.wasm_lang.proofs.Expressions.{code_is_read, code_is}
use Rattle.wasm_lang.proofs.ReadingLaws.{from, leaves, Gives, Only}

pub instruction_gives : (i : Instruction) (xs ys : List ℕ) (at : ℕ) → IsInstruction i xs ys → Gives (instruction_field (from at xs)) (leaves i ys)
instruction_gives i xs ys at h = let e = instruction_reads i xs ys h at in record { place = e.0; is = e.1 }

pub code_gives : (code : List Instruction) (xs ys : List ℕ) (at : ℕ) → levels code ≤ most_levels → IsCode code xs ys → Gives (code_field (from at xs)) (leaves code ys)
code_gives code xs ys at le c = let e = code_is_read code xs ys c le at in record { place = e.0; is = e.1 }

pub code_only : (i : Input) → Only (code_field i) (λ x. IsCode x.0 i.bytes x.1.bytes × (levels x.0 ≤ most_levels))
code_only i = record { holds = λ x q. code_is i x.0 x.1 q }
