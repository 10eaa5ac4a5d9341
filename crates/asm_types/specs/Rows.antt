-- The rows of the operators (asm.js draft of 18 August 2014, sections 6.8 and 8).
use Rattle.std.specs.Prelude.{Bool, ◌&&◌, ◌||◌, if◌then◌else◌, Option, Some, None}
use Rattle.sem_words.specs.declared.js_value.JsOp.{JsOp}
use Rattle.sem_words.specs.declared.js_value.JsOp.TheVariants.{Add, Sub, Mul, Div, Rem, Or, And, Xor, Shl, Sar, Shr, Lt, Le, Gt, Ge, Eq, Ne}
use Rattle.sem_words.specs.declared.js_value.JsUnary.{JsUnary}
use Rattle.sem_words.specs.declared.js_value.JsUnary.TheVariants.{Neg, BitNot, Not, Plus}
use Rattle.asm_types.specs.declared.value_type.ValueType.{ValueType}
use Rattle.asm_types.specs.declared.value_type.ValueType.TheVariants.{Signed, Unsigned, Int, Intish}
use Rattle.asm_types.specs.Types.{is_below}

-- what an operator takes: operands that are all below a type, or two that are both below signed or both below unsigned
pub data Operands : Type 0 where
  each : ValueType → Operands
  alike : Operands

abbrev pub are_below : ValueType → ValueType → ValueType → Bool
are_below a b top = is_below a top && is_below b top

abbrev pub accepts : Operands → ValueType → ValueType → Bool
accepts (each top) a b = are_below a b top
accepts alike a b = are_below a b Signed || are_below a b Unsigned

-- the operands and the result of each operator of two operands (section 8.2; `+` and `-` by the rows of a chain, and `*` by that of
-- a product with a literal, section 6.8)
abbrev pub takes_of : JsOp → Operands
takes_of Add = each Int
takes_of Sub = each Int
takes_of Mul = each Int
takes_of Div = alike
takes_of Rem = alike
takes_of Or = each Intish
takes_of And = each Intish
takes_of Xor = each Intish
takes_of Shl = each Intish
takes_of Sar = each Intish
takes_of Shr = each Intish
takes_of Lt = alike
takes_of Le = alike
takes_of Gt = alike
takes_of Ge = alike
takes_of Eq = alike
takes_of Ne = alike

abbrev pub gives_of : JsOp → ValueType
gives_of Add = Intish
gives_of Sub = Intish
gives_of Mul = Intish
gives_of Div = Intish
gives_of Rem = Intish
gives_of Or = Signed
gives_of And = Signed
gives_of Xor = Signed
gives_of Shl = Signed
gives_of Sar = Signed
gives_of Shr = Unsigned
gives_of Lt = Int
gives_of Le = Int
gives_of Gt = Int
gives_of Ge = Int
gives_of Eq = Int
gives_of Ne = Int

-- a row: the result's type, where the operands are of the types that the operator takes
abbrev pub row : Bool → ValueType → Option ValueType
row accepted result = if accepted then Some result else None

abbrev pub binary_row_of : JsOp → ValueType → ValueType → Option ValueType
binary_row_of op a b = row (accepts (takes_of op) a b) (gives_of op)

-- the prefix operators (section 8.1); the row of `+` gives a double
abbrev pub unary_row_of : JsUnary → ValueType → Option ValueType
unary_row_of Neg a = row (is_below a Int) Intish
unary_row_of BitNot a = row (is_below a Intish) Signed
unary_row_of Not a = row (is_below a Int) Int
unary_row_of Plus a = None
