-- The functions of division, one by one.
use Rattle.std.specs.Prelude.{[], ◌∷◌}
use Rattle.sem_words.specs.declared.js_value.JsOp.TheVariants.{Div, Rem}
use Rattle.asm_lang.specs.Modules.{Function}
use Rattle.wasm2js_translation.specs.Names as names
use Rattle.wasm2js_translation.specs.Names.{fixed}
use Rattle.wasm2js_translation.specs.Helpers.{function_of, two_arguments, divisor_test, overflow_test, signed_result, plain_result}

abbrev pub divide_signed_function : Function
divide_signed_function = function_of (fixed names.divide_signed) two_arguments [] (divisor_test ∷ overflow_test ∷ signed_result Div ∷ [])

abbrev pub divide_function : Function
divide_function = function_of (fixed names.divide) two_arguments [] (divisor_test ∷ plain_result Div ∷ [])

abbrev pub remainder_signed_function : Function
remainder_signed_function = function_of (fixed names.remainder_signed) two_arguments [] (divisor_test ∷ signed_result Rem ∷ [])

abbrev pub remainder_function : Function
remainder_function = function_of (fixed names.remainder) two_arguments [] (divisor_test ∷ plain_result Rem ∷ [])
