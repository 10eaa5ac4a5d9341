use Rattle.wasm2js_laws_preservation.proofs.ComputedEach.{each_is, each_is_kept}
use Rattle.wasm2js_laws_preservation.proofs.computed_laws.instructions.Goals as goal

pub returns-clause-computed : goal.returns-clause-computed
returns-clause-computed c = each_is

pub returns-clause-kept : goal.returns-clause-kept
returns-clause-kept c = each_is_kept
