-- A part whose size stands before it.
use Rattle.std.specs.Prelude.{ℕ, ◌+◌, length, take, drop, nat_le, Result, Ok}
use Rattle.wasm_lang.specs.declared.fault.Fault.{Fault}
use Rattle.wasm_lang.specs.declared.fault.Row.TheVariants.{SectionSize}
use Rattle.wasm_lang.specs.Reading.{Input, ◌>>=◌, expects, u32}

-- so many bytes, and what follows them
abbrev pub split_at : ℕ → Input → Input × Input
split_at size i = (record { at = i.at; bytes = take size i.bytes }, record { at = i.at + size; bytes = drop size i.bytes })

-- the content of a body, whose size has to fit its section, and what follows it
abbrev pub body_head : Input → Result (Input × Input) Fault
body_head i =
    u32 i >>= λ size.
    expects (nat_le size.0 (length size.1.bytes)) SectionSize i.at >>= λ _.
    Ok (split_at size.0 size.1)
