use Rattle.asm_run_laws.proofs.Sessions.{sessions_do}
use Rattle.asm_run_laws.proofs.flat_sessions.Goals as goal

pub returns : goal.returns
returns c = sessions_do
