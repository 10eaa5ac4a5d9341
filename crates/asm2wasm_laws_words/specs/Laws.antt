-- Operators of asm.js on values, and instructions on the words of these values.
use Rattle.std.specs.Prelude.{◌≡◌, ℕ, ◌-◌, ◌^◌, Bool, true, false, not, ◌||◌, ◌==◌, Option, Some, None, Result, Ok, if◌then◌else◌}
use Rattle.sem_words.specs.declared.word.Bin.{Bin}
use Rattle.sem_words.specs.declared.word.Bin.TheVariants as bins
use Rattle.sem_words.specs.declared.word.Rel.{Rel}
use Rattle.sem_words.specs.declared.word.Rel.TheVariants as rels
use Rattle.sem_words.specs.declared.js_value.JsValue.{JsValue}
use Rattle.sem_words.specs.declared.js_value.JsOp.{JsOp}
use Rattle.sem_words.specs.declared.js_value.JsOp.TheVariants.{Add, Sub, Mul, Div, Rem, Or, And, Xor, Shl, Sar, Shr, Lt, Le, Gt, Ge, Eq, Ne}
use Rattle.sem_words.specs.declared.js_value.JsUnary.TheVariants.{Neg, BitNot, Not}
use Rattle.sem_words.specs.JsValues.{to_uint32_of, truthy_of}
use Rattle.sem_words.specs.JsOperators.{js_binary_of, js_unary_of, js_imul_of, js_clz32_of}
use Rattle.sem_words.specs.declared.word.TrapKind.{TrapKind}
use Rattle.sem_words.specs.Words.{add_of, sub_of, mul_of, leading_zeros_of, bin_of, rel_of}
use Rattle.wasm_lang_exec.specs.Plain.{flag}
use Rattle.asm_types.specs.declared.value_type.ValueType.{ValueType}
use Rattle.asm_types.specs.declared.value_type.ValueType.TheVariants.{Signed, Unsigned, Int}
use Rattle.asm_types.specs.Rows.{accepts, alike, are_below}
use Rattle.asm_types.specs.Values.{fits_of}
use Rattle.asm_lang.specs.Modules.{Expr}
use Rattle.asm_lang_valid.specs.Typing.{Scope, type_of}
use Rattle.asm2wasm_translation.specs.Values.{is_unsigned}

-- ---- operators whose code is one instruction

abbrev pub instruction_of : JsOp → Option Bin
instruction_of Add = Some bins.Add
instruction_of Sub = Some bins.Sub
instruction_of Mul = Some bins.Mul
instruction_of Or = Some bins.Or
instruction_of And = Some bins.And
instruction_of Xor = Some bins.Xor
instruction_of Shl = Some bins.Shl
instruction_of Sar = Some bins.ShrS
instruction_of Shr = Some bins.ShrU
instruction_of _ = None

abbrev pub WordsOfResults : Type 0
WordsOfResults =
    (op : JsOp) (bin : Bin) (v w x : JsValue) → instruction_of op ≡ Some bin → js_binary_of op v w ≡ Some x
    → bin_of 32 bin (to_uint32_of v) (to_uint32_of w) ≡ Ok (to_uint32_of x)

abbrev pub WordsOfNegations : Type 0
WordsOfNegations = (v x : JsValue) → js_unary_of Neg v ≡ Some x → sub_of 32 0 (to_uint32_of v) ≡ to_uint32_of x

abbrev pub WordsOfComplements : Type 0
WordsOfComplements = (v x : JsValue) → js_unary_of BitNot v ≡ Some x → sub_of 32 (2 ^ 32 - 1) (to_uint32_of v) ≡ to_uint32_of x

abbrev pub WordsOfProducts : Type 0
WordsOfProducts = (v w x : JsValue) → js_imul_of v w ≡ Some x → mul_of 32 (to_uint32_of v) (to_uint32_of w) ≡ to_uint32_of x

abbrev pub WordsOfLeadingZeros : Type 0
WordsOfLeadingZeros = (v x : JsValue) → js_clz32_of v ≡ Some x → leading_zeros_of 32 (to_uint32_of v) ≡ to_uint32_of x

-- ---- comparisons

abbrev pub chosen : Bool → Rel → Rel → Option Rel
chosen true u s = Some u
chosen false u s = Some s

abbrev pub relation_of : JsOp → (unsigned : Bool) → Option Rel
relation_of Lt unsigned = chosen unsigned rels.LtU rels.LtS
relation_of Le unsigned = chosen unsigned rels.LeU rels.LeS
relation_of Gt unsigned = chosen unsigned rels.GtU rels.GtS
relation_of Ge unsigned = chosen unsigned rels.GeU rels.GeS
relation_of Eq unsigned = Some rels.Eq
relation_of Ne unsigned = Some rels.Ne
relation_of _ unsigned = None

abbrev pub compared : Bool → ValueType
compared true = Unsigned
compared false = Signed

abbrev pub WordsOfComparisons : Type 0
WordsOfComparisons =
    (op : JsOp) (unsigned : Bool) (rel : Rel) (v w x : JsValue) → relation_of op unsigned ≡ Some rel
    → fits_of (compared unsigned) v ≡ true → fits_of (compared unsigned) w ≡ true → js_binary_of op v w ≡ Some x
    → flag (rel_of 32 rel (to_uint32_of v) (to_uint32_of w)) ≡ to_uint32_of x

-- ---- conditions: an int holds where its word isn't 0

abbrev pub WordsOfConditions : Type 0
WordsOfConditions = (v : JsValue) → fits_of Int v ≡ true → truthy_of v ≡ not (to_uint32_of v == 0)

abbrev pub WordsOfNots : Type 0
WordsOfNots = (v x : JsValue) → fits_of Int v ≡ true → js_unary_of Not v ≡ Some x → flag (to_uint32_of v == 0) ≡ to_uint32_of x

-- ---- signedness by form

abbrev pub is_unsigned_type : ValueType → Bool
is_unsigned_type Unsigned = true
is_unsigned_type _ = false

abbrev pub FormSaysType : Type 0
FormSaysType = (c : Scope) (e : Expr) (t : ValueType) → type_of c e ≡ Some t → is_unsigned e ≡ is_unsigned_type t

-- operands that are both signed or both unsigned are unsigned where one of them has that type
abbrev pub AlikeByOne : Type 0
AlikeByOne = (a b : ValueType) → accepts alike a b ≡ true → are_below a b (compared (is_unsigned_type a || is_unsigned_type b)) ≡ true

-- ---- quotients and remainders, under their guards

-- a quotient of signed words, by the product where the divisor is 0 or -1
abbrev pub signed_quotient : ℕ → ℕ → Result ℕ TrapKind
signed_quotient a b = if rel_of 32 rels.GtU (add_of 32 b 1) 1 then bin_of 32 bins.DivS a b else bin_of 32 bins.Mul a b

-- .. and any other operator, by 0 where the divisor is 0
abbrev pub guarded : Bin → ℕ → ℕ → Result ℕ TrapKind
guarded bin a b = if b == 0 then Ok 0 else bin_of 32 bin a b

abbrev pub SignedQuotients : Type 0
SignedQuotients =
    (v w x : JsValue) → fits_of Signed v ≡ true → fits_of Signed w ≡ true → js_binary_of Div v w ≡ Some x → signed_quotient (to_uint32_of v) (to_uint32_of w) ≡ Ok (to_uint32_of x)

abbrev pub UnsignedQuotients : Type 0
UnsignedQuotients =
    (v w x : JsValue) → fits_of Unsigned v ≡ true → fits_of Unsigned w ≡ true → js_binary_of Div v w ≡ Some x → guarded bins.DivU (to_uint32_of v) (to_uint32_of w) ≡ Ok (to_uint32_of x)

abbrev pub SignedRemainders : Type 0
SignedRemainders =
    (v w x : JsValue) → fits_of Signed v ≡ true → fits_of Signed w ≡ true → js_binary_of Rem v w ≡ Some x → guarded bins.RemS (to_uint32_of v) (to_uint32_of w) ≡ Ok (to_uint32_of x)

abbrev pub UnsignedRemainders : Type 0
UnsignedRemainders =
    (v w x : JsValue) → fits_of Unsigned v ≡ true → fits_of Unsigned w ≡ true → js_binary_of Rem v w ≡ Some x → guarded bins.RemU (to_uint32_of v) (to_uint32_of w) ≡ Ok (to_uint32_of x)
