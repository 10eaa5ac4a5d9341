-- What a token may be wanted for, as a test of its mark.
use Rattle.std.specs.Prelude.{ℕ, Bool}
use Rattle.wat_lang.specs.declared.parts.Space.{Space}
use Rattle.wat_lang.specs.declared.parts.Space.TheVariants as spaces
use Rattle.wat_lang.specs.declared.parts.Part.{Part}
use Rattle.wat_lang.specs.declared.parts.Part.TheVariants.{Param, Result, Local}
use Rattle.wat_lang.specs.Grammar.{Mark}
use Rattle.wat_lang.specs.Names.{binds_in, uses_in, is_type_use, types_part}
use Rattle.wat_lang.specs.Modules.{is_block_result, is_global_type, is_mutable, is_minimum, is_maximum, is_module_name, is_field_name, is_export_name, is_bytes, is_word, is_offset, is_alignment, is_instruction}
use Rattle.wat_read_tokens.specs.declared.tokens.Wanted.{Wanted}
use Rattle.wat_read_tokens.specs.declared.tokens.Wanted.TheVariants as wanted

abbrev pub test_of : Wanted → Mark → Bool
test_of (wanted.Binds s) = binds_in s
test_of (wanted.Uses s) = uses_in s
test_of wanted.TypeUse = is_type_use
test_of (wanted.Type p) = types_part p
test_of wanted.BlockResult = is_block_result
test_of wanted.GlobalType = is_global_type
test_of wanted.Mutable = is_mutable
test_of wanted.Minimum = is_minimum
test_of wanted.Maximum = is_maximum
test_of wanted.ModuleName = is_module_name
test_of wanted.FieldName = is_field_name
test_of wanted.ExportName = is_export_name
test_of wanted.Bytes = is_bytes
test_of wanted.Word = is_word
test_of wanted.Offset = is_offset
test_of wanted.Alignment = is_alignment
test_of wanted.Instruction = is_instruction

abbrev pub space_number : Space → ℕ
space_number spaces.Type = 0
space_number spaces.Func = 1
space_number spaces.Table = 2
space_number spaces.Memory = 3
space_number spaces.Global = 4
space_number spaces.Local = 5
space_number spaces.Label = 6
space_number spaces.Elem = 7
space_number spaces.Data = 8

abbrev pub part_number : Part → ℕ
part_number Param = 0
part_number Result = 1
part_number Local = 2
