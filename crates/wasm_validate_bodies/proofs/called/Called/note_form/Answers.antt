use Rattle.wasm_validate_bodies.proofs.Calls.{noted}
use Rattle.wasm_validate_bodies.proofs.called.Called.note_form.Goals as goal
use Rattle.wasm_validate_bodies.proofs.called.Called.note_form.Goals.{in-Ok, in-Err}

pub returns-clause-forms : goal.returns-clause-forms
returns-clause-forms c = elim c.match-insert.branch [ in-Ok w ↦ rw w.result-is (noted _ _ _ c.in_ok-form.form c.in_ok-form.ensures w.in-Ok.ensures.keys) | in-Err w ↦ rw w.result-is tt ]
