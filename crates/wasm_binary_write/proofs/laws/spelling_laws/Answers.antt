use Rattle.wasm_binary_write.proofs.BestModule.{best_module}
use Rattle.wasm_binary_write.specs.Spelling.{spelling}
use Rattle.wasm_binary_write.proofs.laws.spelling_laws.Goals as goal

pub returns-clause-spells : goal.returns-clause-spells
returns-clause-spells c = λ m w. (best_module m w.0 w.1).0

pub returns-clause-shortest : goal.returns-clause-shortest
returns-clause-shortest c = λ m bytes h. (best_module m bytes h).1

pub returns-clause-reads_back : goal.returns-clause-reads_back
returns-clause-reads_back c = λ m w r. c.module_laws.ensures.reads_what_is_spelled (spelling m) m (best_module m w.0 w.1).0 r
