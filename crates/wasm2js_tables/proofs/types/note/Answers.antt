use Rattle.std.proofs.Common.{refl}
use Rattle.wasm_validate_bodies.proofs.Calls.{noted}
use Rattle.wasm2js_tables.proofs.types.note.Goals as goal
use Rattle.wasm2js_tables.proofs.types.note.Goals.{in-Ok, in-Err}

pub returns-clause-noted : goal.returns-clause-noted
returns-clause-noted c = elim c.match-insert.branch [ in-Ok w ↦ rw w.result-is (noted _ _ _ c.args.form refl w.in-Ok.ensures.keys) | in-Err w ↦ rw w.result-is tt ]
