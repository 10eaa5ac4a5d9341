use Rattle.asm2wasm_laws_run.proofs.Straight.{runs_straight, runs_choice}
use Rattle.asm2wasm_laws_run.proofs.straight_code.Goals as goal

pub returns-clause-runs : goal.returns-clause-runs
returns-clause-runs c = runs_straight

pub returns-clause-chooses : goal.returns-clause-chooses
returns-clause-chooses c = runs_choice
