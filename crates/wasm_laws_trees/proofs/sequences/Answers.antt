use Rattle.wasm_laws_trees.proofs.Joined.{flat_joins, sizes_add, levels_join, reach_joins, types_join}
use Rattle.wasm_laws_trees.proofs.sequences.Goals as goal

pub returns-clause-spelled : goal.returns-clause-spelled
returns-clause-spelled c = flat_joins

pub returns-clause-sizes : goal.returns-clause-sizes
returns-clause-sizes c = sizes_add

pub returns-clause-levels : goal.returns-clause-levels
returns-clause-levels c = levels_join

pub returns-clause-locals : goal.returns-clause-locals
returns-clause-locals c = reach_joins

pub returns-clause-types : goal.returns-clause-types
returns-clause-types c = types_join
