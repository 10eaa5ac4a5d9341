use Rattle.wat_laws_again.proofs.Valid.{valid_constants, valid_one_of_each, valid_types}
use Rattle.wat_laws_again.proofs.valid_modules.Goals as goal

pub returns-clause-constants : goal.returns-clause-constants
returns-clause-constants c = valid_constants

pub returns-clause-one_of_each : goal.returns-clause-one_of_each
returns-clause-one_of_each c = valid_one_of_each

pub returns-clause-types : goal.returns-clause-types
returns-clause-types c = valid_types
