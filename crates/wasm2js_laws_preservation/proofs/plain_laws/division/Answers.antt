use Rattle.wasm2js_laws_preservation.proofs.PlainAsked.{quotient_signed_is, quotient_is, rest_signed_is, rest_is}
use Rattle.wasm2js_laws_preservation.proofs.plain_laws.division.Goals as goal

pub returns-clause-quotient_signed : goal.returns-clause-quotient_signed
returns-clause-quotient_signed c = quotient_signed_is

pub returns-clause-quotient : goal.returns-clause-quotient
returns-clause-quotient c = quotient_is

pub returns-clause-rest_signed : goal.returns-clause-rest_signed
returns-clause-rest_signed c = rest_signed_is

pub returns-clause-rest : goal.returns-clause-rest
returns-clause-rest c = rest_is
