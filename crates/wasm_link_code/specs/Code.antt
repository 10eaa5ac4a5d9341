-- The code of the linked module, instruction by instruction. A call by an entry has its own module's bounds in straight code before it, where the
-- other module has a table: an index past the own part goes to 4294967295, which lies outside every table.
use Rattle.std.specs.Prelude.{ℕ, zero, suc, nat_lt, if◌then◌else◌, List, [], ◌∷◌, length}
use Rattle.std.specs.List.{flat_map}
use Rattle.sem_words.specs.declared.word.Bin.TheVariants.{Add}
use Rattle.sem_words.specs.declared.word.Rel.TheVariants.{LtU}
use Rattle.wasm_lang.specs.declared.types.ValType.{ValType}
use Rattle.wasm_lang.specs.declared.types.ValType.TheVariants.{I32}
use Rattle.wasm_lang.specs.Instructions.{Instruction, call, call_indirect, plain, local_get, local_tee, global_get, global_set, const32, bin32, rel32, select}
use Rattle.wasm_link_lang.specs.Pairs.{Pair}
use Rattle.wasm_link_lang.specs.Reductions.{entries}
use Rattle.wasm_link_lang.specs.Refusal.{has_indirect}
use Rattle.wasm_link_code.specs.Numbers.{number, global_number}

-- an index that lies outside every table
abbrev pub outside : ℕ
outside = 4294967295

-- The index stands in the local k, and its place in the table on top: that stays where the index is below the length, else the outside takes its place.
abbrev pub bounded : (k length : ℕ) → List Instruction → List Instruction
bounded k n code = plain (const32 outside) ∷ plain (local_get k) ∷ plain (const32 n) ∷ plain (rel32 LtU) ∷ plain select ∷ code

-- a call by an entry of a table of this length, which begins at the base, where the other module has so many entries
abbrev pub by_entry : (other k base length type : ℕ) → List Instruction
by_entry zero k base n t = call_indirect t ∷ []
by_entry (suc other) k zero n t = plain (local_tee k) ∷ bounded k n (call_indirect t ∷ [])
by_entry (suc other) k (suc base) n t = plain (local_tee k) ∷ plain (const32 (suc base)) ∷ plain (bin32 Add) ∷ bounded k n (call_indirect t ∷ [])

-- the code for an instruction with addresses, in a body with the scratch local k
abbrev pub moved : Pair → (k : ℕ) → Instruction → List Instruction
moved w k (call a) = call (number w a) ∷ []
moved w k (plain (global_get g)) = plain (global_get (global_number w g)) ∷ []
moved w k (plain (global_set g)) = plain (global_set (global_number w g)) ∷ []
moved w k (call_indirect t) =
    if nat_lt t (length w.first.types) then by_entry (entries w.second) k 0 (entries w.first) t
    else by_entry (entries w.first) k (entries w.first) (entries w.second) t
moved w k i = i ∷ []

abbrev pub moved_code : Pair → ℕ → List Instruction → List Instruction
moved_code w k code = flat_map (moved w k) code

-- the scratch local, where the other module has so many entries
abbrev pub scratch : (other : ℕ) → List Instruction → List ValType
scratch zero code = []
scratch (suc other) code = if has_indirect code then I32 ∷ [] else []
