use Rattle.wasm2js_translation.specs.Words.{product}
use Rattle.wasm2js_terms.specs.Views.{term_view}
use Rattle.wasm2js_terms.proofs.Two.{two_found}
use Rattle.wasm2js_terms.proofs.held.product.Goals as goal

pub returns : goal.returns
returns c =
    two_found (λ x y. product x y) c.args.waits.now (term_view c.args.a.now) (term_view c.args.b.now) _ _ _ c.atom_of-first.ensures c.atom_of-second.ensures c.product_of_two.ensures
