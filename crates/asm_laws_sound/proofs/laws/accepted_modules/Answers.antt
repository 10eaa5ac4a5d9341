use Rattle.asm_laws_sound.proofs.Sessions.{accepted_never_go_wrong, checks_change_nothing, accepted_sessions_grow}
use Rattle.asm_laws_sound.proofs.laws.accepted_modules.Goals as goal

pub returns-clause-never_wrong : goal.returns-clause-never_wrong
returns-clause-never_wrong c = accepted_never_go_wrong

pub returns-clause-types_hold : goal.returns-clause-types_hold
returns-clause-types_hold c = checks_change_nothing

pub returns-clause-grow : goal.returns-clause-grow
returns-clause-grow c = accepted_sessions_grow
