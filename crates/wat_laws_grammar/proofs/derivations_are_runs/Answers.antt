use Rattle.wat_laws_grammar.proofs.Machine.{complete, one_marking, sound}
use Rattle.wat_laws_grammar.proofs.Strings.{fed_alike}
use Rattle.wat_laws_grammar.proofs.derivations_are_runs.Goals as goal

pub returns-clause-one : goal.returns-clause-one
returns-clause-one c = λ is ms ns ts d e. one_marking d e

pub returns-clause-complete : goal.returns-clause-complete
returns-clause-complete c = λ is ms ts d. complete d

pub returns-clause-sound : goal.returns-clause-sound
returns-clause-sound c = λ is ms ts e. sound is ts ms e

pub returns-clause-strings : goal.returns-clause-strings
returns-clause-strings c = fed_alike
