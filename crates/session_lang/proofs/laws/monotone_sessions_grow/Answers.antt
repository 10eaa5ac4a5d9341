use Rattle.session_lang.proofs.BelowLaws.{monotone_sessions_grow}
use Rattle.session_lang.proofs.laws.monotone_sessions_grow.Goals as goal

pub returns : goal.returns
returns c = monotone_sessions_grow
