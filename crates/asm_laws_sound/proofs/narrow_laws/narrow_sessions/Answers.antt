use Rattle.asm_laws_sound.proofs.Narrow.{sights_are_narrow, sessions_are_narrow}
use Rattle.asm_laws_sound.proofs.narrow_laws.narrow_sessions.Goals as goal

pub returns-clause-sights : goal.returns-clause-sights
returns-clause-sights c = sights_are_narrow

pub returns-clause-sessions : goal.returns-clause-sessions
returns-clause-sessions c = sessions_are_narrow
