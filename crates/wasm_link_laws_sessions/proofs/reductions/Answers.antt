use Rattle.wasm_link_laws_sessions.proofs.Law.{globals_are_kept, alike_callees, reductions_are_followed}
use Rattle.wasm_link_laws_sessions.proofs.reductions.Goals as goal

pub returns-clause-globals : goal.returns-clause-globals
returns-clause-globals c = globals_are_kept

pub returns-clause-callees : goal.returns-clause-callees
returns-clause-callees c = alike_callees

pub returns-clause-followed : goal.returns-clause-followed
returns-clause-followed c = reductions_are_followed
