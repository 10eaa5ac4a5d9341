use Rattle.wasm2js_laws_places.proofs.Knowing.{terms_are_bounded, lean_is_alike}
use Rattle.wasm2js_laws_places.proofs.knowing_laws.knowing.Goals as goal

pub returns-clause-terms : goal.returns-clause-terms
returns-clause-terms c = terms_are_bounded

pub returns-clause-lean : goal.returns-clause-lean
returns-clause-lean c = lean_is_alike
