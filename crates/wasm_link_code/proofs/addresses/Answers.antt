use Rattle.wasm_link_code.proofs.CodeAddresses.{first_is_addressed, indirect_stays}
use Rattle.wasm_link_code.proofs.addresses.Goals as goal

pub returns-clause-first : goal.returns-clause-first
returns-clause-first c = first_is_addressed

pub returns-clause-indirect : goal.returns-clause-indirect
returns-clause-indirect c = indirect_stays
