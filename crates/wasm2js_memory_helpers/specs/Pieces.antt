-- Pieces of the helpers that the code builds one by one.
use Rattle.std.specs.Prelude.{false, [], ◌∷◌, ◌++◌}
use Rattle.asm_lang.specs.Modules.{Function}
use Rattle.wasm2js_translation.specs.Names as names
use Rattle.wasm2js_translation.specs.Names.{fixed}
use Rattle.wasm2js_translation.specs.Words.{shift_left, Term, both, sum, no_more, further, byte}
use Rattle.wasm2js_translation.specs.Pairs.{literal}
use Rattle.wasm2js_translation.specs.Helpers.{function_of, one_argument, two_arguments, three_arguments, gives, sets, spare, second, third, word_at, write_word}

-- the word of four bytes, the lowest first
abbrev pub bytes_together : (a b c d : Term) → Term
bytes_together a b c d =
    sum a
    (further false (both shift_left b (literal 8)) (further false (both shift_left c (literal 16)) (further false (both shift_left d (literal 24)) no_more)))

-- the word of the bytes at four places
abbrev pub word_of : (a b c d : Term) → Term
word_of a b c d = bytes_together (byte false a) (byte false b) (byte false c) (byte false d)

abbrev pub load_32_function : Function
load_32_function = function_of (fixed names.load_32) one_argument [] (gives (word_at 0) ∷ [])

abbrev pub load_64_function : Function
load_64_function = function_of (fixed names.load_64) one_argument [] (sets spare (word_at 4) ∷ gives (word_at 0) ∷ [])

abbrev pub store_32_function : Function
store_32_function = function_of (fixed names.store_32) two_arguments [] (write_word 0 second)

abbrev pub store_64_function : Function
store_64_function = function_of (fixed names.store_64) three_arguments [] (write_word 0 second ++ write_word 4 third)
