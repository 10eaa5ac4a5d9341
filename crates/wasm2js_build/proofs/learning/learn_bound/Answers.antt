use Rattle.std.specs.Prelude.{option_map}
use Rattle.std.proofs.lemmas.Result.{IfOk-weaker}
use Rattle.wasm2js_terms.specs.Views.{term_view}
use Rattle.wasm2js_terms.specs.Atoms.{atom_view}
use Rattle.wasm2js_terms.specs.Waits.{delays_view}
use Rattle.wasm2js_terms.specs.Facts.{knowns_view}
use Rattle.wasm2js_build.proofs.Bounds.{bound_learned}
use Rattle.wasm2js_build.proofs.learning.learn_bound.Goals as goal

pub returns : goal.returns
returns c = λ kind.
    IfOk-weaker c.learn_most.result _ _ (λ _ h.
    bound_learned (knowns_view c.args.known.now.items) (knowns_view c.learn_most.new.known.items) (delays_view c.args.waits.now) (term_view c.args.value.now)
    (option_map atom_view c.atom_of-word.result) c.args.most kind c.atom_of-word.ensures h)
    c.learn_most.ensures
