use Rattle.wasm_lang.specs.Shape.{HasOpcode}
use Rattle.wasm_laws_write.specs.Lengths.{IsNarrow}
use Rattle.wasm_laws_write.proofs.Spelled.{each_joins}
use Rattle.wasm_laws_write.proofs.trees_laws.joins.Goals as goal

pub returns-clause-opcodes : goal.returns-clause-opcodes
returns-clause-opcodes c = each_joins HasOpcode

pub returns-clause-narrow : goal.returns-clause-narrow
returns-clause-narrow c = each_joins IsNarrow
