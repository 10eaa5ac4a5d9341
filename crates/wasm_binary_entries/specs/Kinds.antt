-- The kinds of exports by their bytes, and the limits of a minimum.
use Rattle.std.specs.Prelude.{ℕ, Bool, true, false, Some, None, Ok, ◌==◌, if◌then◌else◌}
use Rattle.wasm_lang.specs.declared.types.ExportKind.{ExportKind}
use Rattle.wasm_lang.specs.declared.types.ExportKind.TheVariants as exports
use Rattle.wasm_lang.specs.declared.types.Limits.{Limits}
use Rattle.wasm_lang.specs.Reading.{Input, Field, ◌>>=◌, u32}

-- an export by its byte, which is at most 3
abbrev pub exported_by : (byte number : ℕ) → ExportKind
exported_by byte number = if byte == 0x00 then exports.Func number else (if byte == 0x01 then exports.Table number else (if byte == 0x02 then exports.Memory number else exports.Global number))

-- a maximum after a minimum, where there is one
abbrev pub maximum_field : Bool → ℕ → Input → Field Limits
maximum_field false n i = Ok (record { min = n; max = None }, i)
maximum_field true n i = u32 i >>= λ m. Ok (record { min = n; max = Some m.0 }, m.1)
