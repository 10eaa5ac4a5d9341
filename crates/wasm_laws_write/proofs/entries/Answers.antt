use Rattle.wasm_laws_write.proofs.Short.{types_are_short, imports_are_short, limits_are_short, globals_are_short, exports_are_short, elements_are_short}
use Rattle.wasm_laws_write.proofs.entries.Goals as goal

pub returns-clause-types : goal.returns-clause-types
returns-clause-types c = types_are_short

pub returns-clause-imports : goal.returns-clause-imports
returns-clause-imports c = imports_are_short

pub returns-clause-limits : goal.returns-clause-limits
returns-clause-limits c = limits_are_short

pub returns-clause-globals : goal.returns-clause-globals
returns-clause-globals c = globals_are_short

pub returns-clause-exports : goal.returns-clause-exports
returns-clause-exports c = exports_are_short

pub returns-clause-elements : goal.returns-clause-elements
returns-clause-elements c = elements_are_short
