use Rattle.wasm_run_flat.proofs.Standing.{end_leaves, else_leaves, last_ends, else_stands_inside, branch_goes_on}
use Rattle.wasm_run_flat.proofs.laws.leaving.Goals as goal

pub returns-clause-end_mark : goal.returns-clause-end_mark
returns-clause-end_mark c = end_leaves

pub returns-clause-else_mark : goal.returns-clause-else_mark
returns-clause-else_mark c = else_leaves

pub returns-clause-last : goal.returns-clause-last
returns-clause-last c = last_ends

pub returns-clause-else_inside : goal.returns-clause-else_inside
returns-clause-else_inside c = else_stands_inside

pub returns-clause-branch : goal.returns-clause-branch
returns-clause-branch c = branch_goes_on
