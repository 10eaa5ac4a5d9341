use Rattle.wasm_laws_write.proofs.Spelled.{trees_are_shaped, narrow_trees_fit}
use Rattle.wasm_laws_write.proofs.trees_laws.shapes.Goals as goal

pub returns-clause-shaped : goal.returns-clause-shaped
returns-clause-shaped c = trees_are_shaped c.spellings.ensures.nested

pub returns-clause-fitting : goal.returns-clause-fitting
returns-clause-fitting c = narrow_trees_fit
