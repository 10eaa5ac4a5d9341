use Rattle.asm_laws_short.proofs.Outside.{short_is_same, short_is_one}
use Rattle.asm_laws_short.proofs.Accepted.{short_is_accepted}
use Rattle.asm_laws_short.proofs.WellFormed.{short_is_well_formed}
use Rattle.asm_laws_short.proofs.Twice.{short_again}
use Rattle.asm_laws_short.proofs.short_forms.Goals as goal

pub returns-clause-outside : goal.returns-clause-outside
returns-clause-outside c = short_is_same

pub returns-clause-one : goal.returns-clause-one
returns-clause-one c = short_is_one

pub returns-clause-accepted : goal.returns-clause-accepted
returns-clause-accepted c = short_is_accepted

pub returns-clause-well_formed : goal.returns-clause-well_formed
returns-clause-well_formed c = short_is_well_formed

pub returns-clause-again : goal.returns-clause-again
returns-clause-again c = short_again
