use Rattle.wasm_run_flat.proofs.Standing.{tree_stands, stands_inside, codes_after}
use Rattle.wasm_run_flat.proofs.laws.standing.Goals as goal

pub returns-clause-start : goal.returns-clause-start
returns-clause-start c = tree_stands

pub returns-clause-inside : goal.returns-clause-inside
returns-clause-inside c = stands_inside

pub returns-clause-codes : goal.returns-clause-codes
returns-clause-codes c = codes_after
