use Rattle.wasm2js_laws_typed.proofs.FineSwitches.{switches_are_fine}
use Rattle.wasm2js_laws_typed.proofs.switches.Goals as goal

pub returns : goal.returns
returns c = switches_are_fine
