use Rattle.wasm2js_translation.specs.Words.{both}
use Rattle.wasm2js_terms.specs.Views.{bit_view, term_view}
use Rattle.wasm2js_terms.proofs.Two.{two_found}
use Rattle.wasm2js_terms.proofs.held.bits.Goals as goal

pub returns : goal.returns
returns c =
    two_found (λ x y. both (bit_view c.args.operator) x y) c.args.waits.now (term_view c.args.a.now) (term_view c.args.b.now) _ _ _ c.atom_of-first.ensures c.atom_of-second.ensures c.bits_of_two.ensures
