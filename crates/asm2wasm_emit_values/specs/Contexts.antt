-- What the code of an expression depends on.
use Rattle.asm_lang_valid.specs.Typing.{Scope}
use Rattle.asm2wasm_numbers.specs.Functions.{scope_said}
use Rattle.asm2wasm_emit_values.specs.declared.context.Context.{Context}

-- the module, and the function whose body it is
abbrev pub scope_in : Context → Scope
scope_in c = scope_said c.numbers.now
