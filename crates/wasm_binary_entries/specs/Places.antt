-- Where names, segments' bytes and bodies' code begin, each with what follows its entry. They are read by the fields of the
-- entries; the limits on counts, which a module that was read has met, don't matter here.
use Rattle.std.specs.Prelude.{ℕ, ◌+◌, drop, Ok}
use Rattle.wasm_lang.specs.Reading.{Input, Field, ◌>>=◌, u32}
use Rattle.wasm_lang.specs.ReadingCode.{code_field}
use Rattle.wasm_lang.specs.ReadingModule.{import_kind_field, export_kind_field, runs_field}
use Rattle.wasm_binary_entries.specs.Sized.{body_head}

-- bytes begin after their count
abbrev pub counted_place : Input → Field ℕ
counted_place i = u32 i >>= λ n. Ok (n.1.at, record { at = n.1.at + n.0; bytes = drop n.0 n.1.bytes })

-- the two names of an import
abbrev pub import_places : Input → Field (ℕ × ℕ)
import_places i =
    counted_place i >>= λ m.
    counted_place m.1 >>= λ n.
    import_kind_field 0 0 n.1 >>= λ k.
    Ok ((m.0, n.0), k.1)

abbrev pub export_place : Input → Field ℕ
export_place i = counted_place i >>= λ n. export_kind_field n.1 >>= λ k. Ok (n.0, k.1)

abbrev pub segment_place : Input → Field ℕ
segment_place i = u32 i >>= λ m. code_field m.1 >>= λ offset. counted_place offset.1

-- code begins after the locals
abbrev pub code_place : Input → Field ℕ
code_place i =
    u32 i >>= λ n.
    runs_field 0 n.0 n.1 >>= λ locals.
    code_field locals.1 >>= λ code.
    Ok (locals.1.at, code.1)

abbrev pub body_place : Input → Field ℕ
body_place i = body_head i >>= λ body. code_place body.0 >>= λ code. Ok (code.0, body.1)
