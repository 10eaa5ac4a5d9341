-- Functions, of which a module has those that it asks for.
use Rattle.std.specs.Prelude.{Bool, List, [], ◌∷◌, ◌++◌, if◌then◌else◌}
use Rattle.asm_lang.specs.Modules.{Function}
use Rattle.wasm2js_translation.specs.Helpers.{shift_left_function, shift_right_signed_function, shift_right_function, rotate_left_function, leading_zeros_function, trailing_zeros_function, set_bits_function}
use Rattle.wasm2js_needs.specs.declared.needs.Needs.{Needs}
use Rattle.wasm2js_helpers.specs.Pieces.{divide_signed_function, divide_function, remainder_signed_function, remainder_function}

-- a function, and whether it is asked for
pub record Choice : Type 0 where
  pub asked : Bool
  pub function : Function

abbrev pub choice : Bool → Function → Choice
choice b f = record { asked = b; function = f }

abbrev pub chosen : List Choice → List Function
chosen [] = []
chosen (x ∷ xs) = (if x.asked then x.function ∷ [] else []) ++ chosen xs

abbrev pub wide_choices : Bool → List Choice
wide_choices b =
    choice b shift_left_function ∷ choice b shift_right_signed_function ∷ choice b shift_right_function ∷ choice b rotate_left_function
    ∷ choice b leading_zeros_function ∷ choice b trailing_zeros_function ∷ []

abbrev pub word_choices : Needs → List Choice
word_choices n = wide_choices n.wide ++ choice n.set_bits set_bits_function ∷ []

abbrev pub quotient_choices : Needs → List Choice
quotient_choices n = choice n.signed_quotient divide_signed_function ∷ choice n.quotient divide_function ∷ []

abbrev pub remainder_choices : Needs → List Choice
remainder_choices n = choice n.signed_remainder remainder_signed_function ∷ choice n.remainder remainder_function ∷ []

abbrev pub division_choices : Needs → List Choice
division_choices n = quotient_choices n ++ remainder_choices n
