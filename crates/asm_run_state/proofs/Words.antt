-- The word of a value that is given.
use Rattle.std.proofs.Common.{◌≡◌}
use Rattle.std.specs.Prelude.{ℤ}
use Rattle.sem_words.specs.JsValues.{to_uint32_of}
use Rattle.sem_words.specs.JsOperators.{signed_value}
use Rattle.sem_words.specs.Words.{word_of}
use Rattle.sem_words.proofs.WordLaws.{word_of-signed_of_32, word_of-IsWord}

pub given_word : (z : ℤ) → to_uint32_of (signed_value (word_of 32 z)) ≡ word_of 32 z
given_word z = word_of-signed_of_32 (word_of 32 z) (word_of-IsWord 32 z)
