-- Tests of marks, and spaces and parts by numbers.
use Rattle.std.proofs.Common.{◌≡◌, ℕ, zero, suc, ◌<◌, Bool, true, false, List, [], ◌∷◌, ◌++◌, length, get_or, refl, sym, ap, ◌∙◌, arith}
use Rattle.std.specs.Prelude.{◌==◌}
use Rattle.wat_lang.specs.declared.parts.Space.{Space}
use Rattle.wat_lang.specs.declared.parts.Space.TheVariants as spaces
use Rattle.wat_lang.specs.declared.parts.Part.{Part}
use Rattle.wat_lang.specs.declared.parts.Part.TheVariants.{Param, Result, Local}
use Rattle.wat_lang.specs.declared.fault.Row.TheVariants as rows
use Rattle.wat_lang.specs.Grammar.{Mark, binds, uses, a_type_use, a_type, a_block_result, a_global_type, a_minimum, a_maximum, a_word_32, a_word_64, an_offset, an_alignment, Marked}
use Rattle.wat_lang.specs.Names.{same_space, same_part, binds_in, uses_in, types_part}
use Rattle.wat_lang.specs.Rows.{Refusal, where_holds, number_rows, is_bad_number}
use Rattle.wat_marks.specs.declared.marked.MarkedToken.{MarkedToken}
use Rattle.wat_marks.specs.Strings.{reads_string}
use Rattle.wat_marks.specs.Views.{marked_of}
use Rattle.wat_read_tokens.specs.declared.tokens.Wanted.{Wanted}
use Rattle.wat_read_tokens.specs.declared.tokens.Wanted.TheVariants as wanted
use Rattle.wat_read_tokens.specs.Marks.{marks_of}
use Rattle.wat_read_tokens.specs.Wanted.{test_of, space_number, part_number}

pub space_numbers : (a b : Space) → (space_number a == space_number b) ≡ same_space a b
space_numbers a b = refl

pub part_numbers : (a b : Part) → (part_number a == part_number b) ≡ same_part a b
part_numbers a b = refl

-- ---- what is no string

abbrev pub wants_atom : Wanted → Bool
wants_atom wanted.ModuleName = false
wants_atom wanted.FieldName = false
wants_atom wanted.ExportName = false
wants_atom wanted.Bytes = false
wants_atom w = true

pub binding_reads : (s : Space) (m : Mark) → binds_in s m ≡ true → reads_string m ≡ false
binding_reads s (binds t) h = refl
binding_reads s m h = absurd cc

pub use_reads : (s : Space) (m : Mark) → uses_in s m ≡ true → reads_string m ≡ false
use_reads s (uses t) h = refl
use_reads s m h = absurd cc

pub type_reads : (p : Part) (m : Mark) → types_part p m ≡ true → reads_string m ≡ false
type_reads p (a_type q) h = refl
type_reads p m h = absurd cc

-- ---- numbers in their ranges

none_held : (b : Bool) (at : ℕ) (rs : List Refusal) → where_holds b rows.Number at ++ rs ≡ [] → (b ≡ false) × (rs ≡ [])
none_held true at rs h = absurd cc
none_held false at rs h = (refl, h)

pub first_fits : (m : Marked) (ms : List Marked) → number_rows (m ∷ ms) ≡ [] → (is_bad_number m ≡ false) × (number_rows ms ≡ [])
first_fits m ms h = none_held (is_bad_number m) m.token.at (number_rows ms) h

pub good_at : (ts : List MarkedToken) (i : ℕ) (t : MarkedToken) → i < length ts → t ≡ get_or ts i t → number_rows (marks_of ts) ≡ [] → is_bad_number (marked_of t) ≡ false
good_at [] i t lt is h = absurd (omega (arith, lt))
good_at (x ∷ ts) zero t lt is h = ap (λ (y : MarkedToken). is_bad_number (marked_of y)) is ∙ (first_fits (marked_of x) (marks_of ts) h).0
good_at (x ∷ ts) (suc i) t lt is h = good_at ts i t (omega (arith, lt)) is (first_fits (marked_of x) (marks_of ts) h).1
