-- The helpers on words do what their operators do.
use Rattle.std.proofs.Common.{refl}
use Rattle.wasm2js_laws_simulation.specs.HelpingLaws.{WordsAreUsual}

pub words_are_usual : WordsAreUsual
words_are_usual bytes = record {
  shift_left = λ args heap. (refl, refl);
  shift_right_signed = λ args heap. (refl, refl);
  shift_right = λ args heap. (refl, refl);
  rotate_left = λ args heap. (refl, refl);
  leading_zeros = λ args heap. (refl, refl);
  trailing_zeros = λ args heap. (refl, refl);
  set_bits = λ args heap. (refl, refl);
  divide_signed = λ args heap. (refl, refl);
  divide = λ args heap. (refl, refl);
  remainder_signed = λ args heap. (refl, refl);
  remainder = λ args heap. (refl, refl);
}
