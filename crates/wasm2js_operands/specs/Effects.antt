-- How many operands an instruction takes, and what it gives.
use Rattle.std.specs.Prelude.{ℕ, Bool, List, ◌++◌, drop, Option, Some, None, slice_get, if◌then◌else◌}
use Rattle.wasm_lang.specs.declared.types.ValType.{ValType}
use Rattle.wasm_lang.specs.declared.types.GlobalType.{GlobalType}
use Rattle.wasm_lang_valid.specs.Typing.{Context, listed}
use Rattle.wasm2js_operands.specs.declared.after.Effect.{Effect}

-- None leaves them all
abbrev pub effect_on : Option Effect → List ValType → List ValType
effect_on None ts = ts
effect_on (Some e) ts = listed e.gives ++ drop e.takes ts

abbrev pub gives_kind : Option ValType → (takes : ℕ) → (gives : Bool) → Option Effect
gives_kind None takes gives = None
gives_kind (Some t) takes gives = Some (record { takes = takes; gives = if gives then Some t else None })

abbrev pub kind_in : Option GlobalType → Option ValType
kind_in None = None
kind_in (Some g) = Some g.kind

abbrev pub gives_local : Context → (x takes : ℕ) → (gives : Bool) → Option Effect
gives_local c x takes gives = gives_kind (slice_get c.locals x) takes gives

abbrev pub gives_global : Context → (x takes : ℕ) → (gives : Bool) → Option Effect
gives_global c x takes gives = gives_kind (kind_in (slice_get c.globals x)) takes gives
