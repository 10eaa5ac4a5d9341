-- Calls of the helpers, in any module where the names that they use mean what they should.
use Rattle.std.specs.Prelude.{◌≡◌, ℕ, ◌≤◌, List, [], ◌∷◌, map, false}
use Rattle.sem_words.specs.declared.js_value.JsValue.{JsValue}
use Rattle.sem_words.specs.JsValues.{to_uint32_of}
use Rattle.sem_words.specs.Words.{shl_of, shr_s_of, shr_u_of, rotl_of, leading_zeros_of, trailing_zeros_of}
use Rattle.sem_words.specs.declared.word.Bin.TheVariants as bins
use Rattle.sem_words.specs.declared.js_value.JsOp.TheVariants.{Div, Rem}
use Rattle.session_lang.specs.Observation.{trap_name}
use Rattle.asm_lang.specs.Modules.{Function, Module}
use Rattle.asm_lang_valid.specs.declared.meaning.Builtin.TheVariants.{Clz32}
use Rattle.asm_lang_valid.specs.Scope.{a_builtin, a_foreign, module_meaning}
use Rattle.asm_lang_exec.specs.Runs.{Place}
use Rattle.asm_lang_exec.specs.Meaning.{call_at}
use Rattle.wasm2js_translation.specs.Names as names
use Rattle.wasm2js_translation.specs.Names.{clz32, trap, fixed}
use Rattle.wasm2js_translation.specs.Words.{name_of}
use Rattle.wasm2js_translation.specs.Helpers.{function_of, two_arguments, divisor_test, overflow_test, signed_result, plain_result, shift_left_function, shift_right_signed_function, shift_right_function, rotate_left_function, leading_zeros_function, trailing_zeros_function, set_bits_function}
use Rattle.wasm2js_laws_places.specs.Straight.{Answer}
use Rattle.wasm2js_laws_places.specs.Places.{IsHeap}
use Rattle.wasm2js_laws_places.specs.Helped.{Helps}
use Rattle.wasm2js_laws_helpers.specs.Answers.{divided, turned, counted, length_of, set_bits_answer, set_bits_units}

-- each call of the function gives this, and takes one unit, where calls lie at most so deep
abbrev pub HelpsAtOnce : Module → Function → (List ℕ → List ℕ → Answer) → Type 0
HelpsAtOnce m g answer =
    (bound bytes : ℕ) (vs : List JsValue) (p : Place) → IsHeap bytes p.heap → p.units ≤ bound
    → Helps bytes (answer (map to_uint32_of vs) p.heap) 1 p (call_at false m bound g vs p)

abbrev pub HasZeros : Module → Type 0
HasZeros m = module_meaning m (name_of clz32) ≡ a_builtin Clz32

abbrev pub ShiftLeftHelps : Type 0
ShiftLeftHelps = (m : Module) → HelpsAtOnce m shift_left_function (turned shl_of)

abbrev pub ShiftRightSignedHelps : Type 0
ShiftRightSignedHelps = (m : Module) → HelpsAtOnce m shift_right_signed_function (turned shr_s_of)

abbrev pub ShiftRightHelps : Type 0
ShiftRightHelps = (m : Module) → HelpsAtOnce m shift_right_function (turned shr_u_of)

abbrev pub RotateLeftHelps : Type 0
RotateLeftHelps = (m : Module) → HelpsAtOnce m rotate_left_function (turned rotl_of)

abbrev pub LeadingZerosHelp : Type 0
LeadingZerosHelp = (m : Module) → HasZeros m → HelpsAtOnce m leading_zeros_function (counted leading_zeros_of)

abbrev pub TrailingZerosHelp : Type 0
TrailingZerosHelp = (m : Module) → HasZeros m → HelpsAtOnce m trailing_zeros_function (counted trailing_zeros_of)

abbrev pub SetBitsHelp : Type 0
SetBitsHelp =
    (m : Module) (bound bytes : ℕ) (vs : List JsValue) (p : Place) → IsHeap bytes p.heap → p.units ≤ bound
    → Helps bytes (set_bits_answer (map to_uint32_of vs) p.heap) (set_bits_units (map to_uint32_of vs)) p (call_at false m bound set_bits_function vs p)

abbrev pub FewUnits : Type 0
FewUnits = (a : ℕ) → length_of 32 a ≤ 32

-- ---- division

abbrev pub HasTrap : Module → Type 0
HasTrap m = module_meaning m (name_of trap) ≡ a_foreign trap_name

abbrev pub divide_signed_function : Function
divide_signed_function = function_of (fixed names.divide_signed) two_arguments [] (divisor_test ∷ overflow_test ∷ signed_result Div ∷ [])

abbrev pub divide_function : Function
divide_function = function_of (fixed names.divide) two_arguments [] (divisor_test ∷ plain_result Div ∷ [])

abbrev pub remainder_signed_function : Function
remainder_signed_function = function_of (fixed names.remainder_signed) two_arguments [] (divisor_test ∷ signed_result Rem ∷ [])

abbrev pub remainder_function : Function
remainder_function = function_of (fixed names.remainder) two_arguments [] (divisor_test ∷ plain_result Rem ∷ [])

abbrev pub DivideSignedHelps : Type 0
DivideSignedHelps = (m : Module) → HasTrap m → HelpsAtOnce m divide_signed_function (divided bins.DivS)

abbrev pub DivideHelps : Type 0
DivideHelps = (m : Module) → HasTrap m → HelpsAtOnce m divide_function (divided bins.DivU)

abbrev pub RemainderSignedHelps : Type 0
RemainderSignedHelps = (m : Module) → HasTrap m → HelpsAtOnce m remainder_signed_function (divided bins.RemS)

abbrev pub RemainderHelps : Type 0
RemainderHelps = (m : Module) → HasTrap m → HelpsAtOnce m remainder_function (divided bins.RemU)
