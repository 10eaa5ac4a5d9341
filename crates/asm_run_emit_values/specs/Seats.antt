-- Where an operand stands, as the code holds it.
use Rattle.asm_run_code.specs.Names as code
use Rattle.asm_run_emit_values.specs.declared.operands.Seat.{Seat}
use Rattle.asm_run_emit_values.specs.declared.operands.Seat.TheVariants.{Number, Local, Elsewhere}

abbrev pub seat_view : Seat → code.Seat
seat_view (Number n) = code.a_number n
seat_view (Local y) = code.a_local y
seat_view Elsewhere = code.elsewhere
