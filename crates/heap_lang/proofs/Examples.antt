-- Worked examples of the definitions, computed by the checker.
use Rattle.std.proofs.Common.{◌≡◌, refl, ℕ, List, [], ◌∷◌, pos, negsuc, Some, None}
use Rattle.heap_lang.specs.declared.kind.ViewKind.TheVariants.{I8, U8, U16, I32, U32}
use Rattle.heap_lang.specs.Numbers.{little_endian, bytes_of, signed_reading}
use Rattle.heap_lang.specs.Heap.{run_at, with_run, load_bytes, store_bytes, load, store, copied, filled}

-- eight bytes
abbrev some_bytes : List ℕ
some_bytes = 1 ∷ 2 ∷ 3 ∷ 4 ∷ 5 ∷ 6 ∷ 7 ∷ 255 ∷ []

lowest_byte_first : little_endian (0x12 ∷ 0x34 ∷ 0x56 ∷ 0x78 ∷ []) ≡ 0x78563412
lowest_byte_first = refl

low_bits_alone_are_written : bytes_of 2 0x123456 ≡ 0x56 ∷ 0x34 ∷ []
low_bits_alone_are_written = refl

upper_half_is_negative : signed_reading 16 65534 ≡ negsuc 1
upper_half_is_negative = refl

bytes_from_one_place_on : load_bytes 1 4 some_bytes ≡ Some 0x05040302
unfolding load_bytes run_at
bytes_from_one_place_on = refl

last_byte_with_sign : load I8 (pos 7) some_bytes ≡ Some (negsuc 0)
unfolding load load_bytes run_at
last_byte_with_sign = refl

last_byte_without_sign : load U8 (pos 7) some_bytes ≡ Some (pos 255)
unfolding load load_bytes run_at
last_byte_without_sign = refl

half_words_count_by_two : load U16 (pos 2) some_bytes ≡ Some (pos 0x0605)
unfolding load load_bytes run_at
half_words_count_by_two = refl

no_word_past_the_end : load I32 (pos 2) some_bytes ≡ None
unfolding load load_bytes run_at
no_word_past_the_end = refl

no_element_before_the_start : load U8 (negsuc 0) some_bytes ≡ None
unfolding load
no_element_before_the_start = refl

store_in_the_second_word : store U32 (pos 1) 0x0a0b0c0d some_bytes ≡ 1 ∷ 2 ∷ 3 ∷ 4 ∷ 0x0d ∷ 0x0c ∷ 0x0b ∷ 0x0a ∷ []
unfolding store store_bytes with_run
store_in_the_second_word = refl

store_past_the_end_changes_nothing : store_bytes 5 4 0 some_bytes ≡ some_bytes
unfolding store_bytes with_run
store_past_the_end_changes_nothing = refl

empty_run_at_the_end : run_at 8 0 some_bytes ≡ Some []
unfolding run_at
empty_run_at_the_end = refl

no_empty_run_past_the_end : run_at 9 0 some_bytes ≡ None
unfolding run_at
no_empty_run_past_the_end = refl

copy_reads_what_stood_there_before : copied 1 0 5 some_bytes ≡ 1 ∷ 1 ∷ 2 ∷ 3 ∷ 4 ∷ 5 ∷ 7 ∷ 255 ∷ []
unfolding copied with_run
copy_reads_what_stood_there_before = refl

fill_to_the_end : filled 6 2 9 some_bytes ≡ 1 ∷ 2 ∷ 3 ∷ 4 ∷ 5 ∷ 6 ∷ 9 ∷ 9 ∷ []
unfolding filled with_run
fill_to_the_end = refl

fill_past_the_end_changes_nothing : filled 6 3 9 some_bytes ≡ some_bytes
unfolding filled with_run
fill_past_the_end_changes_nothing = refl
