use Rattle.asm_laws_continuation.proofs.Following.{expressions_follow, statements_follow, calls_follow, sessions_follow}
use Rattle.asm_laws_continuation.proofs.laws.following_laws.Goals as goal

pub returns-clause-expressions : goal.returns-clause-expressions
returns-clause-expressions c = expressions_follow

pub returns-clause-statements : goal.returns-clause-statements
returns-clause-statements c = statements_follow

pub returns-clause-calls : goal.returns-clause-calls
returns-clause-calls c = calls_follow

pub returns-clause-sessions : goal.returns-clause-sessions
returns-clause-sessions c = sessions_follow
