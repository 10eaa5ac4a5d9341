use Rattle.wasm2js_laws_preservation.proofs.OccurringNested.{none_in_trees}
use Rattle.wasm2js_laws_preservation.proofs.occurring_laws.trees.Goals as goal

pub returns : goal.returns
returns c = none_in_trees
