use Rattle.wasm_worked.proofs.Plays.{quotient_traps, quotient_overflows}
use Rattle.wasm_worked.proofs.rows.quotients.Goals as goal

pub returns-clause-trap : goal.returns-clause-trap
returns-clause-trap c = quotient_traps

pub returns-clause-overflow : goal.returns-clause-overflow
returns-clause-overflow c = quotient_overflows
