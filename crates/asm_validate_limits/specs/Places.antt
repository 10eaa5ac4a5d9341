-- The marks of an expression by the place where it stands.
use Rattle.std.specs.Prelude.{ℕ, Bool, true, false, List, [], Option, None, Some, ℤ, if◌then◌else◌}
use Rattle.sem_words.specs.declared.js_value.JsOp.{JsOp}
use Rattle.asm_lang.specs.Modules.{Expr, lit}
use Rattle.asm_lang_valid.specs.Scope.{Meaning}
use Rattle.asm_lang_valid.specs.Typing.{Scope, is_call, or_zero}
use Rattle.asm_lang_valid.specs.LimitRows.{Mark, expr_marks, call_marks, callee_marks}
use Rattle.asm_validate_limits.specs.declared.callee.Place.{Place}
use Rattle.asm_validate_limits.specs.declared.callee.Place.TheVariants.{Operand, Valued, Effect}

abbrev pub placed_marks : Scope → Place → ℕ → Expr → List Mark
placed_marks c Operand at e = expr_marks c at e
placed_marks c Valued at e = if is_call c e then call_marks c true at e else expr_marks c at e
placed_marks c Effect at e = if is_call c e then call_marks c false at e else expr_marks c at e

-- those of the callee of this meaning
abbrev pub called_marks : Place → Meaning → ℕ → ℕ → List Mark
called_marks Operand callee count at = []
called_marks Valued callee count at = callee_marks callee true count at
called_marks Effect callee count at = callee_marks callee false count at

-- the place of a left operand before this right one
abbrev pub left_place : JsOp → Expr → Place
left_place op r = if or_zero op r then Valued else Operand

-- the place of a part of a comma expression
abbrev pub part_place : Bool → Place
part_place is_last = if is_last then Operand else Effect

abbrev pub option_placed : Scope → Place → ℕ → Option Expr → List Mark
option_placed c p at None = []
option_placed c p at (Some e) = placed_marks c p at e

-- the value of a literal
abbrev pub literal_of : Expr → Option ℤ
literal_of (lit v) = Some v
literal_of _ = None

-- a clause with a value is a case
abbrev pub as_case : Option ℤ → ℕ
as_case None = 0
as_case (Some v) = 1
