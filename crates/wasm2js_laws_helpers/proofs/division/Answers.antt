use Rattle.wasm2js_laws_helpers.proofs.Divisions.{divide_signed_helps, divide_helps, remainder_signed_helps, remainder_helps}
use Rattle.wasm2js_laws_helpers.proofs.division.Goals as goal

pub returns-clause-quotient_signed : goal.returns-clause-quotient_signed
returns-clause-quotient_signed c = divide_signed_helps

pub returns-clause-quotient : goal.returns-clause-quotient
returns-clause-quotient c = divide_helps

pub returns-clause-rest_signed : goal.returns-clause-rest_signed
returns-clause-rest_signed c = remainder_signed_helps

pub returns-clause-rest : goal.returns-clause-rest
returns-clause-rest c = remainder_helps
