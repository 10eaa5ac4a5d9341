-- Runs while they are joined.
use Rattle.std.specs.Prelude.{ℕ, ◌<◌, List, Option, Some, None}
use Rattle.wasm_lang.specs.declared.types.ValType.{ValType}
use Rattle.wasm_binary_write.specs.declared.code.Joined.{Joined}
use Rattle.wasm_binary_write.specs.Spelling.{runs, runs_from}

-- the longest runs of these locals, before which the last runs stand
abbrev pub runs_after : Option Joined → List ValType → List (ℕ × ValType)
runs_after None types = runs types
runs_after (Some r) types = runs_from r.count r.kind types

abbrev pub IsBelow : ℕ → Option Joined → Type 0
IsBelow limit None = Unit {0}
IsBelow limit (Some r) = r.count < limit
