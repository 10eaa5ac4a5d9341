use Rattle.wasm2js_laws_terms.proofs.FineTerms.{terms_are_fine}
use Rattle.wasm2js_laws_terms.proofs.terms.Goals as goal

pub returns : goal.returns
returns c = terms_are_fine
