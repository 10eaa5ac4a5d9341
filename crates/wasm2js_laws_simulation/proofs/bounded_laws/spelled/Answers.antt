use Rattle.wasm2js_laws_simulation.proofs.BoundedWhole.{spelled_are_bounded}
use Rattle.wasm2js_laws_simulation.proofs.bounded_laws.spelled.Goals as goal

pub returns : goal.returns
returns c = spelled_are_bounded c.translations.ensures.bounded
