use Rattle.asm_laws_sound.proofs.Uses.{expressions_use_names, effects_use_names, statements_use_names, functions_use_names}
use Rattle.asm_laws_sound.proofs.uses_laws.uses_of_names.Goals as goal

pub returns-clause-expressions : goal.returns-clause-expressions
returns-clause-expressions c = expressions_use_names

pub returns-clause-effects : goal.returns-clause-effects
returns-clause-effects c = effects_use_names

pub returns-clause-statements : goal.returns-clause-statements
returns-clause-statements c = statements_use_names

pub returns-clause-functions : goal.returns-clause-functions
returns-clause-functions c = functions_use_names
