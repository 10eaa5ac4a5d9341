-- What names of the code say, as plain data.
use Rattle.wasm2js_translation.specs.Names as plain
use Rattle.wasm2js_translation.specs.Names.{numbered, fixed}
use Rattle.wasm2js_nodes.specs.declared.names.Numbered.{Numbered}
use Rattle.wasm2js_nodes.specs.declared.names.Numbered.TheVariants as kinds
use Rattle.wasm2js_nodes.specs.declared.names.Fixed.{Fixed}
use Rattle.wasm2js_nodes.specs.declared.names.Fixed.TheVariants as always
use Rattle.wasm2js_nodes.specs.declared.names.Name.{Name}
use Rattle.wasm2js_nodes.specs.declared.names.Name.TheVariants as names

abbrev pub numbered_view : Numbered → plain.Numbered
numbered_view kinds.LocalLow = plain.local_low
numbered_view kinds.LocalHigh = plain.local_high
numbered_view kinds.OperandLow = plain.operand_low
numbered_view kinds.OperandHigh = plain.operand_high
numbered_view kinds.GlobalLow = plain.global_low
numbered_view kinds.GlobalHigh = plain.global_high
numbered_view kinds.Function = plain.function
numbered_view kinds.Foreign = plain.foreign
numbered_view kinds.Table = plain.table
numbered_view kinds.NoEntry = plain.no_entry
numbered_view kinds.OtherEntry = plain.other_entry
numbered_view kinds.Label = plain.label

abbrev pub fixed_view : Fixed → plain.Fixed
fixed_view always.ViewOfBytes = plain.view_of_bytes
fixed_view always.ViewOfSignedBytes = plain.view_of_signed_bytes
fixed_view always.ViewOfWords = plain.view_of_words
fixed_view always.Imul = plain.imul
fixed_view always.Clz32 = plain.clz32
fixed_view always.Trap = plain.trap
fixed_view always.High = plain.high
fixed_view always.SpareHigh = plain.spare_high
fixed_view always.ResultHigh = plain.result_high
fixed_view always.ShiftLeft = plain.shift_left
fixed_view always.ShiftRightSigned = plain.shift_right_signed
fixed_view always.ShiftRight = plain.shift_right
fixed_view always.RotateLeft = plain.rotate_left
fixed_view always.LeadingZeros = plain.leading_zeros
fixed_view always.TrailingZeros = plain.trailing_zeros
fixed_view always.SetBits = plain.set_bits
fixed_view always.DivideSigned = plain.divide_signed
fixed_view always.Divide = plain.divide
fixed_view always.RemainderSigned = plain.remainder_signed
fixed_view always.Remainder = plain.remainder
fixed_view always.Load32 = plain.load_32
fixed_view always.Load64 = plain.load_64
fixed_view always.Store32 = plain.store_32
fixed_view always.Store64 = plain.store_64
fixed_view always.Copy = plain.copy
fixed_view always.Fill = plain.fill
fixed_view always.DataWords = plain.data_words
fixed_view always.DataZeros = plain.data_zeros
fixed_view always.Init = plain.init
fixed_view always.LastHigh = plain.last_high

abbrev pub name_view : Name → plain.Name
name_view (names.Counted k n) = numbered (numbered_view k) n
name_view (names.Always f) = fixed (fixed_view f)
