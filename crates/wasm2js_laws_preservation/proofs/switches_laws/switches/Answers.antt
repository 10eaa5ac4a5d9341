use Rattle.wasm2js_laws_preservation.proofs.SwitchesTabled.{indexed_branches_are_kept}
use Rattle.wasm2js_laws_preservation.proofs.switches_laws.switches.Goals as goal

pub returns : goal.returns
returns c = indexed_branches_are_kept
