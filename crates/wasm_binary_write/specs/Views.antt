-- What the values of this crate stand for.
use Rattle.std.specs.Prelude.{ℕ}
use Rattle.wasm_lang.specs.declared.types.ValType.{ValType}
use Rattle.wasm_lang.specs.declared.types.Limits.{Limits}
use Rattle.wasm_binary_write.specs.declared.code.Joined.{Joined}
use Rattle.wasm_binary_write.specs.declared.types.Table.{Table}

abbrev pub joined_of : Joined → ℕ × ValType
joined_of r = (r.count, r.kind)

abbrev pub limits_of : Table → Limits
limits_of t = t.0
