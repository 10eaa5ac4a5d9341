use Rattle.wasm2js_laws_preservation.proofs.BranchesLeaving.{branches_are_kept}
use Rattle.wasm2js_laws_preservation.proofs.branches_laws.branches.Goals as goal

pub returns : goal.returns
returns c = branches_are_kept
