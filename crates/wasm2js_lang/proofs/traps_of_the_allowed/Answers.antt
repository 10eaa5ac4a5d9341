use Rattle.wasm2js_lang.proofs.Traps.{traps_are_calls}
use Rattle.wasm2js_lang.proofs.traps_of_the_allowed.Goals as goal

pub returns : goal.returns
returns c = traps_are_calls
