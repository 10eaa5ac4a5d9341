use Rattle.wasm2js_lang.proofs.Refused.{empty_helpers_are_refused, idle_helpers_are_refused}
use Rattle.wasm2js_lang.proofs.idle_rotation.Goals as goal

pub returns-clause-empty : goal.returns-clause-empty
returns-clause-empty c = empty_helpers_are_refused

pub returns-clause-idle : goal.returns-clause-idle
returns-clause-idle c = idle_helpers_are_refused
