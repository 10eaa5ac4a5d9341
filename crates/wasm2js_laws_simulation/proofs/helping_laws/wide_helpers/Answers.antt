use Rattle.wasm2js_laws_simulation.proofs.HelpersWhole.{sources_have_helpers}
use Rattle.wasm2js_laws_simulation.proofs.helping_laws.wide_helpers.Goals as goal

pub returns : goal.returns
returns c = sources_have_helpers
