use Rattle.wasm2js_laws_actions.proofs.LateAsking.{late_asks_helpers, written_asks_none}
use Rattle.wasm2js_laws_actions.proofs.LeanAsking.{lean_asks_helpers}
use Rattle.wasm2js_laws_actions.proofs.waiting.Goals as goal

pub returns-clause-late : goal.returns-clause-late
returns-clause-late c = late_asks_helpers

pub returns-clause-lean : goal.returns-clause-lean
returns-clause-lean c = lean_asks_helpers

pub returns-clause-written : goal.returns-clause-written
returns-clause-written c = written_asks_none
