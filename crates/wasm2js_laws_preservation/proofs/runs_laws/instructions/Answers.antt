use Rattle.wasm2js_laws_preservation.proofs.RunsMoved.{fill_is_done, copy_is_done}
use Rattle.wasm2js_laws_preservation.proofs.runs_laws.instructions.Goals as goal

pub returns-clause-fill : goal.returns-clause-fill
returns-clause-fill c = fill_is_done

pub returns-clause-copy : goal.returns-clause-copy
returns-clause-copy c = copy_is_done
