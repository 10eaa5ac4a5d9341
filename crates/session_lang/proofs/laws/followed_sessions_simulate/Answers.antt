use Rattle.session_lang.proofs.Runs.{followed_sessions_simulate}
use Rattle.session_lang.proofs.laws.followed_sessions_simulate.Goals as goal

pub returns : goal.returns
returns c = followed_sessions_simulate
