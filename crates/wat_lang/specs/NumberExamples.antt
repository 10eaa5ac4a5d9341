-- Worked examples of numbers, ids, words and names of instructions that the check computes.
use Rattle.std.specs.Prelude.{◌≡◌, true, false, Some, None, pos, negsuc, codes, length, refl}
use Rattle.wasm_lang.specs.Instructions.{plain, load, memory_fill}
use Rattle.wat_lang.specs.Numbers.{number_of, is_id, is_word, access_of, is_outside}
use Rattle.wat_lang.specs.Words.{named_forms, form_named}

pub mark_between_digits : number_of (codes "+0x0_fF") ≡ Some (pos 255)
mark_between_digits = refl

pub minus_one : number_of (codes "-1") ≡ Some (negsuc 0)
minus_one = refl

pub minus_zero : number_of (codes "-0") ≡ Some (pos 0)
minus_zero = refl

pub leading_zeros : number_of (codes "007") ≡ Some (pos 7)
leading_zeros = refl

pub past_every_range : number_of (codes "99999999999999999999") ≡ Some (pos 99999999999999999999)
past_every_range = refl

pub two_marks : number_of (codes "1__0") ≡ None
two_marks = refl

pub mark_at_the_end : is_word (codes "1_") ≡ true
mark_at_the_end = refl

pub large_letter : is_word (codes "0X1") ≡ true
large_letter = refl

pub dollar_alone_is_no_id : is_id (codes "$") ≡ false
dollar_alone_is_no_id = refl

pub id_of_any_bytes : is_id (codes "$1") ≡ true
id_of_any_bytes = refl

pub offset : access_of (codes "offset=") (codes "offset=0x10") ≡ Some (pos 16)
offset = refl

pub no_number : access_of (codes "offset=") (codes "offset=") ≡ None
no_number = refl

pub float : is_outside (codes "f32.add") ≡ true
float = refl

pub growth : is_outside (codes "memory.grow") ≡ true
growth = refl

pub size : is_outside (codes "memory.size") ≡ false
size = refl

-- ---- names of instructions

pub as_many_as_instructions : length named_forms ≡ 110
as_many_as_instructions = refl

pub narrow_load : form_named (codes "i64.load16_s") ≡ Some (plain (load (record { wide = true; size = 2; signed = true }) 0 0))
unfolding form_named
narrow_load = refl

pub fill : form_named (codes "memory.fill") ≡ Some (plain memory_fill)
unfolding form_named
fill = refl

pub no_instruction : form_named (codes "i32.load64") ≡ None
unfolding form_named
no_instruction = refl
