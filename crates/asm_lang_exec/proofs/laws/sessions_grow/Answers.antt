use Rattle.asm_lang_exec.proofs.Growth.{bounds_change_nothing, sessions_grow, checked_sessions_grow}
use Rattle.asm_lang_exec.proofs.laws.sessions_grow.Goals as goal

pub returns-clause-bounds : goal.returns-clause-bounds
returns-clause-bounds c = bounds_change_nothing

pub returns-clause-meaning : goal.returns-clause-meaning
returns-clause-meaning c = sessions_grow

pub returns-clause-checked : goal.returns-clause-checked
returns-clause-checked c = checked_sessions_grow
