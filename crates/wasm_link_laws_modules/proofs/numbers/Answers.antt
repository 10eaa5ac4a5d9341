use Rattle.wasm_link_laws_modules.proofs.Law.{chains_end, numbers_are_typed, numbers_are_callees}
use Rattle.wasm_link_laws_modules.proofs.numbers.Goals as goal

pub returns-clause-chains_end : goal.returns-clause-chains_end
returns-clause-chains_end c = chains_end

pub returns-clause-typed : goal.returns-clause-typed
returns-clause-typed c = numbers_are_typed

pub returns-clause-callees : goal.returns-clause-callees
returns-clause-callees c = numbers_are_callees
