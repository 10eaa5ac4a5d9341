use Rattle.std.proofs.Common.{arith}
use Rattle.asm_lang.specs.Machine.{at_start}
use Rattle.asm_laws_height.proofs.SeenModules.{refused_low, none_in_found, none_in_refused}
use Rattle.asm_laws_height.proofs.Places.{height_fault, height_stop}
use Rattle.asm_laws_height.proofs.height_faults.Goals as goal

pub returns-clause-height : goal.returns-clause-height
returns-clause-height c = height_fault

pub returns-clause-height_only : goal.returns-clause-height_only
returns-clause-height_only c = height_stop

pub returns-clause-grammar : goal.returns-clause-grammar
returns-clause-grammar c = λ limit xs r e. let w = refused_low limit xs at_start r (omega arith) e in w.0

pub returns-clause-none_in_refused : goal.returns-clause-none_in_refused
returns-clause-none_in_refused c = none_in_refused

pub returns-clause-none_in_found : goal.returns-clause-none_in_found
returns-clause-none_in_found c = none_in_found
