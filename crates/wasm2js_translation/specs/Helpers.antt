-- The functions that the code of instructions calls: operators on words of 64 bits, division, and access to the memory.
use Rattle.std.specs.Prelude.{ℕ, zero, suc, ◌+◌, ◌==◌, Bool, false, true, if◌then◌else◌, List, [], ◌∷◌, ◌++◌, map, Some, pos, negsuc}
use Rattle.sem_words.specs.declared.js_value.JsOp.{JsOp}
use Rattle.sem_words.specs.declared.js_value.JsOp.TheVariants.{Div, Rem}
use Rattle.asm_lang.specs.Trees as trees
use Rattle.asm_lang.specs.Modules.{binary, Stmt, block, if_only, if_else, returns, while_loop, Variable, Param, Function}
use Rattle.wasm2js_translation.specs.Names as names
use Rattle.wasm2js_translation.specs.Names.{Name, numbered, local_low, operand_low, fixed, spelled}
use Rattle.wasm2js_translation.specs.Words.{conjunction, disjunction, exclusion, shift_left, shift_right_signed, shift_right, equal, unequal, less, at_most, greater, Term, read, number, both, sum, no_more, further, product, zeros, compare, byte, whole, signed_number, plain_number, expr, int_of, put, guard, write_byte, write_whole, simple_statement, trap_call, stmts_in}
use Rattle.wasm2js_translation.specs.Pairs.{literal, plus, minus, sign_of, funnel_left, funnel_right}
use Rattle.wasm2js_translation.specs.Actions.{low_ones, place}

-- ---- functions of ints

abbrev pub int_param : Name → Param
int_param n = record { name = spelled n; double = false }

-- `var n=0;`
abbrev pub zero_variable : Name → Variable
zero_variable n = record { name = spelled n; init = trees.number (pos 0) }

abbrev pub function_of : Name → (params locals : List Name) → List Stmt → Function
function_of n ps ls ss = record { name = spelled n; params = map int_param ps; locals = map zero_variable ls; body = stmts_in ss }

abbrev pub block_of : List Stmt → Stmt
block_of ss = block (stmts_in ss)

-- `if(t){..}` and `while(t){..}`

abbrev pub when : Term → List Stmt → Stmt
when t ss = if_only (int_of t) (block_of ss)

abbrev pub repeat : Term → List Stmt → Stmt
repeat t ss = while_loop (int_of t) (block_of ss)

-- `return t|0;`
abbrev pub gives : Term → Stmt
gives t = returns (Some (signed_number (expr t)))

abbrev pub sets : Name → Term → Stmt
sets n t = simple_statement (put n t)

-- what a helper takes, and its own variables
abbrev pub argument : ℕ → Name
argument i = numbered local_low i

abbrev pub own : ℕ → Name
own i = numbered operand_low i

abbrev pub first : Term
first = read (argument 0)

abbrev pub second : Term
second = read (argument 1)

abbrev pub third : Term
third = read (argument 2)

-- `$q`
abbrev pub spare : Name
spare = fixed names.spare_high

abbrev pub one_argument : List Name
one_argument = argument 0 ∷ []

abbrev pub two_arguments : List Name
two_arguments = argument 0 ∷ argument 1 ∷ []

abbrev pub three_arguments : List Name
three_arguments = argument 0 ∷ argument 1 ∷ argument 2 ∷ []

-- ---- words of 64 bits: each takes a low word, a high word, and perhaps a count; it gives the low word, and leaves the high one in `$q`

-- the count modulo 64 is 32 or more
abbrev pub is_far : Term
is_far = both conjunction third (literal 32)

abbrev pub shift_left_function : Function
shift_left_function = function_of (fixed names.shift_left) three_arguments []
    (when is_far (sets spare (both shift_left first third) ∷ gives (literal 0) ∷ [])
    ∷ sets spare (funnel_left second first third)
    ∷ gives (both shift_left first third) ∷ [])

abbrev pub shift_right_signed_function : Function
shift_right_signed_function = function_of (fixed names.shift_right_signed) three_arguments []
    (when is_far (sets spare (sign_of second) ∷ gives (both shift_right_signed second third) ∷ [])
    ∷ sets spare (both shift_right_signed second third)
    ∷ gives (funnel_right first second third) ∷ [])

abbrev pub shift_right_function : Function
shift_right_function = function_of (fixed names.shift_right) three_arguments []
    (when is_far (sets spare (literal 0) ∷ gives (both shift_right second third) ∷ [])
    ∷ sets spare (both shift_right second third)
    ∷ gives (funnel_right first second third) ∷ [])

-- the words are exchanged where the count is far
abbrev pub rotate_left_function : Function
rotate_left_function = function_of (fixed names.rotate_left) three_arguments (own 0 ∷ [])
    (when is_far (sets (own 0) first ∷ sets (argument 0) second ∷ sets (argument 1) (read (own 0)) ∷ [])
    ∷ sets spare (funnel_left second first third)
    ∷ gives (funnel_left first second third) ∷ [])

-- those of the low word count where the high word has no bit
abbrev pub leading_zeros_function : Function
leading_zeros_function = function_of (fixed names.leading_zeros) two_arguments []
    (when second (gives (zeros second) ∷ [])
    ∷ gives (plus (literal 32) (zeros first)) ∷ [])

abbrev pub trailing_zeros_function : Function
trailing_zeros_function = function_of (fixed names.trailing_zeros) two_arguments []
    (when first (gives (minus (literal 32) (zeros (low_ones first))) ∷ [])
    ∷ gives (minus (literal 64) (zeros (low_ones second))) ∷ [])

-- of one word: bit by bit, from the lowest on
abbrev pub set_bits_function : Function
set_bits_function = function_of (fixed names.set_bits) one_argument (own 0 ∷ [])
    (repeat first
    (sets (own 0) (plus (read (own 0)) (both conjunction first (literal 1)))
    ∷ sets (argument 0) (both shift_right first (literal 1)) ∷ [])
    ∷ gives (read (own 0)) ∷ [])

abbrev pub wide_helpers : List Function
wide_helpers =
    shift_left_function ∷ shift_right_signed_function ∷ shift_right_function ∷ rotate_left_function
    ∷ leading_zeros_function ∷ trailing_zeros_function ∷ set_bits_function ∷ []

-- ---- division of words of 32 bits

-- trap 3 for a divisor 0
abbrev pub divisor_test : Stmt
divisor_test = if_only (int_of (compare true equal second (literal 0))) (trap_call 3)

-- trap 4 for the least number by -1
abbrev pub overflow_test : Stmt
overflow_test =
    if_only (int_of (both conjunction (compare true equal first (number (negsuc 2147483647))) (compare true equal second (number (negsuc 0))))) (trap_call 4)

abbrev pub signed_result : JsOp → Stmt
signed_result op = returns (Some (signed_number (binary op (signed_number (expr first)) (signed_number (expr second)))))

abbrev pub plain_result : JsOp → Stmt
plain_result op = returns (Some (signed_number (binary op (plain_number (expr first)) (plain_number (expr second)))))

abbrev pub division_helpers : List Function
division_helpers =
    function_of (fixed names.divide_signed) two_arguments [] (divisor_test ∷ overflow_test ∷ signed_result Div ∷ [])
    ∷ function_of (fixed names.divide) two_arguments [] (divisor_test ∷ plain_result Div ∷ [])
    ∷ function_of (fixed names.remainder_signed) two_arguments [] (divisor_test ∷ signed_result Rem ∷ [])
    ∷ function_of (fixed names.remainder) two_arguments [] (divisor_test ∷ plain_result Rem ∷ []) ∷ []

-- ---- words at any place of the memory, byte by byte

-- the byte so many places past the first argument, and where it stands in its word
abbrev pub byte_at : (offset bits : ℕ) → Term
byte_at offset bits = both shift_left (byte false (place (argument 0) offset)) (literal bits)

abbrev pub word_at : (offset : ℕ) → Term
word_at offset =
    sum (byte false (place (argument 0) offset))
    (further false (byte_at (offset + 1) 8) (further false (byte_at (offset + 2) 16) (further false (byte_at (offset + 3) 24) no_more)))

abbrev pub write_at : (offset : ℕ) → Term → Stmt
write_at offset x = simple_statement (write_byte (place (argument 0) offset) x)

abbrev pub write_word : (offset : ℕ) → Term → List Stmt
write_word offset x =
    write_at offset x
    ∷ write_at (offset + 1) (both shift_right x (literal 8))
    ∷ write_at (offset + 2) (both shift_right x (literal 16))
    ∷ write_at (offset + 3) (both shift_right x (literal 24)) ∷ []

abbrev pub access_helpers : List Function
access_helpers =
    function_of (fixed names.load_32) one_argument [] (gives (word_at 0) ∷ [])
    ∷ function_of (fixed names.load_64) one_argument [] (sets spare (word_at 4) ∷ gives (word_at 0) ∷ [])
    ∷ function_of (fixed names.store_32) two_arguments [] (write_word 0 second)
    ∷ function_of (fixed names.store_64) three_arguments [] (write_word 0 second ++ write_word 4 third) ∷ []

-- ---- runs of bytes in a memory of so many bytes: trap 2 where a run passes its end, also a run without bytes

-- the last argument is the run's length
abbrev pub length_test : (bytes : ℕ) → Stmt
length_test bytes = simple_statement (guard third bytes 2)

abbrev pub start_test : (bytes : ℕ) → Term → Stmt
start_test bytes at = if_only (int_of (compare false greater at (minus (literal bytes) third))) (trap_call 2)

-- how many bytes are done
abbrev pub done : Term
done = read (own 0)

-- so many bytes past a place, and further by an offset
abbrev pub past : (at far : Term) → (offset : ℕ) → Term
past at far offset = if offset == 0 then plus at far else sum at (further false far (further false (literal offset) no_more))

-- the offsets of eight words, upwards and downwards
abbrev pub eight_up : List ℕ
eight_up = 0 ∷ 4 ∷ 8 ∷ 12 ∷ 16 ∷ 20 ∷ 24 ∷ 28 ∷ []

abbrev pub eight_down : List ℕ
eight_down = 28 ∷ 24 ∷ 20 ∷ 16 ∷ 12 ∷ 8 ∷ 4 ∷ 0 ∷ []

-- the place is no multiple of four
abbrev pub is_inside : Term → Term
is_inside at = compare true unequal (both conjunction at (literal 3)) (literal 0)

-- these for so many bytes, and so many bytes more are done
abbrev pub rise : (size : ℕ) → List Stmt → List Stmt
rise size ss = ss ++ sets (own 0) (plus done (literal size)) ∷ []

-- .. up to a word, while there are so many bytes more, and for each byte that is left
abbrev pub up_to_word : (for_byte : Stmt) → Stmt
up_to_word for_byte = repeat (is_inside (plus first done)) (rise 1 (for_byte ∷ []))

abbrev pub each : (size : ℕ) → List Stmt → Stmt
each size ss = repeat (compare true at_most done (minus third (literal size))) (rise size ss)

abbrev pub each_byte : (for_byte : Stmt) → Stmt
each_byte for_byte = repeat (compare true less done third) (rise 1 (for_byte ∷ []))

-- so many bytes fewer are left, and these for them
abbrev pub fall : (size : ℕ) → List Stmt → List Stmt
fall size ss = sets (argument 2) (minus third (literal size)) ∷ ss

-- .. down to a word, and while more than so many bytes are left
abbrev pub down_to_word : (for_byte : Stmt) → Stmt
down_to_word for_byte = repeat (is_inside (plus first third)) (fall 1 (for_byte ∷ []))

abbrev pub while_left : (most size : ℕ) → List Stmt → Stmt
while_left most size ss = repeat (compare true greater third (literal most)) (fall size ss)

-- to the first argument, from the second one, so many places further

abbrev pub copy_word : (far : Term) (offset : ℕ) → Stmt
copy_word far offset = simple_statement (write_whole (past first far offset) (whole (past second far offset)))

abbrev pub copy_byte : (far : Term) → Stmt
copy_byte far = simple_statement (write_byte (plus first far) (byte false (plus second far)))

-- the places have the same last two bits, and there are four bytes: so a word can be copied
abbrev pub has_words : Term
has_words =
    compare true equal (both disjunction (both conjunction (both exclusion first second) (literal 3)) (compare true less third (literal 4))) (literal 0)

abbrev pub copy_up : List Stmt
copy_up =
    when has_words (up_to_word (copy_byte done) ∷ each 32 (map (copy_word done) eight_up) ∷ each 4 (copy_word done 0 ∷ []) ∷ [])
    ∷ each_byte (copy_byte done) ∷ []

-- from the last bytes on, with the length that is left
abbrev pub copy_down : List Stmt
copy_down =
    when has_words
    (down_to_word (copy_byte third) ∷ while_left 31 32 (map (copy_word third) eight_down) ∷ while_left 3 4 (copy_word third 0 ∷ []) ∷ [])
    ∷ while_left 0 1 (copy_byte third ∷ []) ∷ []

-- no byte is written before it is read
abbrev pub copy_function : (bytes : ℕ) → Function
copy_function bytes = function_of (fixed names.copy) three_arguments (own 0 ∷ [])
    (length_test bytes ∷ start_test bytes first ∷ start_test bytes second
    ∷ if_else (int_of (compare false at_most first second)) (block_of copy_up) (block_of copy_down) ∷ [])

-- four bytes of the value's low byte
abbrev pub four_times : Term → Term
four_times x = product (both conjunction x (literal 255)) (literal 16843009)

abbrev pub fill_word : (offset : ℕ) → Stmt
fill_word offset = simple_statement (write_whole (past first done offset) (read (own 1)))

abbrev pub fill_byte : Stmt
fill_byte = simple_statement (write_byte (plus first done) second)

abbrev pub fill_words : List Stmt
fill_words = sets (own 1) (four_times second) ∷ up_to_word fill_byte ∷ each 32 (map fill_word eight_up) ∷ each 4 (fill_word 0 ∷ []) ∷ []

abbrev pub fill_function : (bytes : ℕ) → Function
fill_function bytes = function_of (fixed names.fill) three_arguments (own 0 ∷ own 1 ∷ [])
    (length_test bytes ∷ start_test bytes first ∷ when (compare true greater third (literal 3)) fill_words ∷ each_byte fill_byte ∷ [])

-- ---- sixteen words of a data segment, at a place that is a multiple of four

-- so many arguments, from number i on
abbrev pub arguments_after : (i count : ℕ) → List Name
arguments_after i zero = []
arguments_after i (suc n) = argument i ∷ arguments_after (suc i) n

-- one of them, to the place so many bytes past the first argument; and four of them
abbrev pub put_at : (offset i : ℕ) → Stmt
put_at offset i = simple_statement (write_whole (place (argument 0) offset) (read (argument i)))

abbrev pub put_four : (offset i : ℕ) → List Stmt
put_four offset i = put_at offset i ∷ put_at (offset + 4) (i + 1) ∷ put_at (offset + 8) (i + 2) ∷ put_at (offset + 12) (i + 3) ∷ []

abbrev pub put_body : List Stmt
put_body = put_four 0 1 ++ put_four 16 5 ++ put_four 32 9 ++ put_four 48 13

abbrev pub put_function : Function
put_function = function_of (fixed names.data_words) (arguments_after 0 17) [] put_body

-- zeros from one place to another, which are multiples of four
abbrev pub zero_body : List Stmt
zero_body =
    repeat (compare false less first second)
    (simple_statement (write_whole first (literal 0)) ∷ sets (argument 0) (plus first (literal 4)) ∷ []) ∷ []

abbrev pub zero_function : Function
zero_function = function_of (fixed names.data_zeros) two_arguments [] zero_body

-- all that a memory of so many bytes may need
abbrev pub memory_helpers : (bytes : ℕ) → List Function
memory_helpers bytes = access_helpers ++ copy_function bytes ∷ fill_function bytes ∷ put_function ∷ zero_function ∷ []

-- ---- of these, those whose names are asked for

abbrev pub kept : (asked : List ℕ → Bool) → List Function → List Function
kept asked [] = []
kept asked (f ∷ fs) = (if asked f.name then f ∷ [] else []) ++ kept asked fs
