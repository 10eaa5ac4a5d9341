use Rattle.wasm2js_translation.proofs.Joined.{statements_join}
use Rattle.wasm2js_translation.proofs.terms_laws.pieces.Goals as goal

pub returns : goal.returns
returns c = statements_join
