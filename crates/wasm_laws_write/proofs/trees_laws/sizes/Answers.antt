use Rattle.wasm_laws_write.proofs.Spelled.{sizes_agree, trees_are_short}
use Rattle.wasm_laws_write.proofs.trees_laws.sizes.Goals as goal

pub returns-clause-agree : goal.returns-clause-agree
returns-clause-agree c = sizes_agree

pub returns-clause-short : goal.returns-clause-short
returns-clause-short c = trees_are_short
