-- Tokens that are no strings, and that their numbers are in their ranges.
use Rattle.std.proofs.Common.{◌≡◌, true, false, Option, Some, None, refl, arith}
use Rattle.std.proofs.lemmas.Int.{ints}
use Rattle.std.proofs.lemmas.Bool.Decides.{nat_tests}
use Rattle.std.specs.Prelude.{ℤ, pos, negsuc}
use Rattle.wat_lang.specs.Tokens.{Token}
use Rattle.wat_lang.specs.Numbers.{number_of}
use Rattle.wat_lang.specs.Grammar.{Mark, a_minimum, a_maximum, a_block_result, a_word_32, a_word_64, an_offset, an_alignment, Marked, marked}
use Rattle.wat_lang.specs.Names.{text_of}
use Rattle.wat_lang.specs.Modules.{is_minimum, is_maximum, is_block_result, is_offset, is_alignment, is_word, offset_of}
use Rattle.wat_lang.specs.Rows.{is_bad_number, is_out, is_out_32}
use Rattle.wat_marks.specs.Strings.{reads_string}
use Rattle.wat_read_tokens.specs.declared.numbers.Between.TheVariants.{Words32, Words64}
use Rattle.wat_read_tokens.specs.declared.tokens.Wanted.{Wanted}
use Rattle.wat_read_tokens.specs.declared.tokens.Wanted.TheVariants as wanted
use Rattle.wat_read_tokens.specs.Between.{low_of, high_of}
use Rattle.wat_read_tokens.specs.Wanted.{test_of}
use Rattle.wat_read_bodies.specs.Naturals.{is_natural}

-- ---- no strings

pub block_reads : (m : Mark) → is_block_result m ≡ true → reads_string m ≡ false
block_reads a_block_result h = refl
block_reads m h = absurd cc

pub alignment_reads : (m : Mark) → is_alignment m ≡ true → reads_string m ≡ false
alignment_reads an_alignment h = refl
alignment_reads m h = absurd cc

pub offset_reads : (m : Mark) → is_offset m ≡ true → reads_string m ≡ false
offset_reads an_offset h = refl
offset_reads m h = absurd cc

pub word_reads : (m : Mark) → is_word m ≡ true → reads_string m ≡ false
word_reads a_word_32 h = refl
word_reads a_word_64 h = refl
word_reads m h = absurd cc

minimum_reads : (m : Mark) → is_minimum m ≡ true → reads_string m ≡ false
minimum_reads (a_minimum s) h = refl
minimum_reads m h = absurd cc

maximum_reads : (m : Mark) → is_maximum m ≡ true → reads_string m ≡ false
maximum_reads a_maximum h = refl
maximum_reads m h = absurd cc

pub natural_reads : (w : Wanted) (m : Mark) → is_natural w ≡ true → test_of w m ≡ true → reads_string m ≡ false
natural_reads wanted.Minimum m n h = minimum_reads m h
natural_reads wanted.Maximum m n h = maximum_reads m h
natural_reads w m n h = absurd cc

-- ---- ranges

offset_at : (k : Mark) (t : Token) → is_offset k ≡ true → is_bad_number (marked k t) ≡ false → is_out_32 (offset_of (marked k t)) ≡ false
offset_at an_offset t h g = g
offset_at k t h g = absurd cc

pub offset_fits : (m : Marked) → is_offset m.mark ≡ true → is_bad_number m ≡ false → is_out_32 (offset_of m) ≡ false
offset_fits m h g = offset_at m.mark m.token h g

minimum_at : (k : Mark) (t : Token) → is_minimum k ≡ true → is_bad_number (marked k t) ≡ false → is_out_32 (number_of (text_of (marked k t))) ≡ false
minimum_at (a_minimum s) t h g = g
minimum_at k t h g = absurd cc

maximum_at : (k : Mark) (t : Token) → is_maximum k ≡ true → is_bad_number (marked k t) ≡ false → is_out_32 (number_of (text_of (marked k t))) ≡ false
maximum_at a_maximum t h g = g
maximum_at k t h g = absurd cc

pub natural_fits : (w : Wanted) (m : Marked) → is_natural w ≡ true → test_of w m.mark ≡ true → is_bad_number m ≡ false → is_out_32 (number_of (text_of m)) ≡ false
natural_fits wanted.Minimum m n h g = minimum_at m.mark m.token h g
natural_fits wanted.Maximum m n h g = maximum_at m.mark m.token h g
natural_fits w m n h g = absurd cc

-- A word of 32 bits or its signed reading is in the range of those of 64 bits.
in_64 : (z : Option ℤ) → is_out (low_of Words32) (high_of Words32) z ≡ false → is_out (low_of Words64) (high_of Words64) z ≡ false
in_64 None h = refl
in_64 (Some (pos n)) h = grind (arith, ints, nat_tests)
in_64 (Some (negsuc n)) h = grind (arith, ints, nat_tests)

word_at : (k : Mark) (t : Token) → is_word k ≡ true → is_bad_number (marked k t) ≡ false → is_out (low_of Words64) (high_of Words64) (number_of (text_of (marked k t))) ≡ false
word_at a_word_32 t h g = in_64 (number_of (text_of (marked a_word_32 t))) g
word_at a_word_64 t h g = g
word_at k t h g = absurd cc

pub word_fits : (m : Marked) → is_word m.mark ≡ true → is_bad_number m ≡ false → is_out (low_of Words64) (high_of Words64) (number_of (text_of m)) ≡ false
word_fits m h g = word_at m.mark m.token h g
