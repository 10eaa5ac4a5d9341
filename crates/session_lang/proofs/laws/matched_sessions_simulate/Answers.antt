use Rattle.session_lang.proofs.Runs.{matched_sessions_simulate}
use Rattle.session_lang.proofs.laws.matched_sessions_simulate.Goals as goal

pub returns : goal.returns
returns c = matched_sessions_simulate
