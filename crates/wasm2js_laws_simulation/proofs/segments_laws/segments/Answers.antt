use Rattle.wasm2js_laws_simulation.proofs.SegmentsStored.{segments_are_stored}
use Rattle.wasm2js_laws_simulation.proofs.segments_laws.segments.Goals as goal

pub returns : goal.returns
returns c = segments_are_stored
