use Rattle.wasm2js_translation.specs.Words.{compare}
use Rattle.wasm2js_terms.specs.Views.{relation_view, term_view}
use Rattle.wasm2js_terms.proofs.Two.{two_found}
use Rattle.wasm2js_terms.proofs.held.compare.Goals as goal

pub returns : goal.returns
returns c =
    two_found (λ x y. compare c.args.is_signed (relation_view c.args.relation) x y) c.args.waits.now (term_view c.args.a.now) (term_view c.args.b.now) _ _ _ c.atom_of-first.ensures c.atom_of-second.ensures c.compare_of_two.ensures
