-- What is asked of the form of an expression, and the rows of one node by the types of its parts.
use Rattle.std.specs.Prelude.{ℕ, Bool, ◌&&◌, List, ◌++◌, Option, Some, None, ℤ, nat_le, is_some, if◌then◌else◌}
use Rattle.sem_words.specs.declared.js_value.JsOp.TheVariants.{And}
use Rattle.asm_types.specs.declared.value_type.ValueType.{ValueType}
use Rattle.asm_types.specs.declared.value_type.ValueType.TheVariants.{Int, Intish}
use Rattle.asm_types.specs.Rows.{row}
use Rattle.asm_lang.specs.Modules.{Expr, lit, binary}
use Rattle.asm_lang_valid.specs.Scope.{Meaning}
use Rattle.asm_lang_valid.specs.declared.rule.Rule.TheVariants.{Operand, OutsideInteger, CallShape, ChainLong}
use Rattle.asm_lang_valid.specs.declared.rule.Met.{Met}
use Rattle.asm_lang_valid.specs.Rows.{need}
use Rattle.asm_lang_valid.specs.Typing.{is_int, typed_below, index_fits, builtin_call, most_operators}
use Rattle.asm_lang_valid.specs.TypeRows.{agrees, used, element_rows}

-- the value of a literal
abbrev pub literal_of : Expr → Option ℤ
literal_of (lit v) = Some v
literal_of _ = None

-- the literal that masks an index
abbrev pub mask_of : Expr → Option ℤ
mask_of (binary And e m) = literal_of m
mask_of _ = None

-- ---- rows of a node, and its type

abbrev pub assigned_rows : Meaning → ValueType → ℕ → List Met
assigned_rows m t at = need (is_int m) OutsideInteger at ++ need (agrees Int (Some t)) Operand at

abbrev pub assigned_type : Meaning → Option ValueType → Option ValueType
assigned_type m t = if is_int m && typed_below Int t then t else None

abbrev pub stored_rows : Meaning → Expr → ValueType → ValueType → ℕ → List Met
stored_rows m i s t at = used m at ++ (need (agrees Intish (Some t)) Operand at ++ element_rows m i (Some s) at)

abbrev pub stored_type : Meaning → Expr → Option ValueType → Option ValueType → Option ValueType
stored_type m i s t = if index_fits m i s && typed_below Intish t then t else None

abbrev pub builtin_rows : Meaning → ℕ → Bool → ℕ → List Met
builtin_rows m count ints at = used m at ++ need (is_some (builtin_call m count ints)) CallShape at

-- of a chain: whether its operands fit, and how many operators it has
abbrev pub chain_rows : Bool → ℕ → ℕ → List Met
chain_rows fit count at = need fit Operand at ++ need (nat_le count most_operators) ChainLong at

abbrev pub chain_type : Bool → ℕ → Option ValueType
chain_type fit count = row (fit && nat_le count most_operators) Intish
