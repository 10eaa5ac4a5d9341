use Rattle.wasm2js_laws_preservation.proofs.RunsFilling.{fill_helps}
use Rattle.wasm2js_laws_preservation.proofs.RunsCopying.{copy_helps}
use Rattle.wasm2js_laws_preservation.proofs.runs_laws.helpers.Goals as goal

pub returns-clause-fill : goal.returns-clause-fill
returns-clause-fill c = fill_helps

pub returns-clause-copy : goal.returns-clause-copy
returns-clause-copy c = copy_helps
