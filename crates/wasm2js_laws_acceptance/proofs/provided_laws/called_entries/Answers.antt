use Rattle.wasm2js_laws_acceptance.proofs.ProvidedTables.{tables_are_provided, members_are_alike}
use Rattle.wasm2js_laws_acceptance.proofs.provided_laws.called_entries.Goals as goal

pub returns-clause-named : goal.returns-clause-named
returns-clause-named c = tables_are_provided

pub returns-clause-members : goal.returns-clause-members
returns-clause-members c = members_are_alike
