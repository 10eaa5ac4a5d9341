use Rattle.std.specs.Prelude.{ℕ}
use Rattle.wasm_lang.specs.declared.types.Limits.{Limits}
use Rattle.wasm_lang.specs.Modules.{FunctionType, Imported, GlobalEntry, Exported, ElementSegment, FunctionBody}
use Rattle.wasm_laws_write.proofs.Short.{vectors_are_short}
use Rattle.wasm_laws_write.proofs.vectors.Goals as goal

pub returns-clause-types : goal.returns-clause-types
returns-clause-types c = vectors_are_short FunctionType

pub returns-clause-imports : goal.returns-clause-imports
returns-clause-imports c = vectors_are_short Imported

pub returns-clause-numbers : goal.returns-clause-numbers
returns-clause-numbers c = vectors_are_short ℕ

pub returns-clause-limits : goal.returns-clause-limits
returns-clause-limits c = vectors_are_short Limits

pub returns-clause-globals : goal.returns-clause-globals
returns-clause-globals c = vectors_are_short GlobalEntry

pub returns-clause-exports : goal.returns-clause-exports
returns-clause-exports c = vectors_are_short Exported

pub returns-clause-elements : goal.returns-clause-elements
returns-clause-elements c = vectors_are_short ElementSegment

pub returns-clause-bodies : goal.returns-clause-bodies
returns-clause-bodies c = vectors_are_short FunctionBody
