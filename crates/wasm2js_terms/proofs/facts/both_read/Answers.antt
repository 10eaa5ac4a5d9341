use Rattle.wasm2js_terms.specs.Views.{bit_view}
use Rattle.wasm2js_terms.specs.Atoms.{atom_view}
use Rattle.wasm2js_terms.specs.Facts.{fact_view, knowns_view}
use Rattle.wasm2js_terms.proofs.Parts.{bits_of_atoms}
use Rattle.wasm2js_terms.proofs.facts.both_read.Goals as goal

pub returns : goal.returns
returns c =
    bits_of_atoms (knowns_view c.args.known.now) (bit_view c.args.operator) (atom_view c.args.a) (atom_view c.args.b)
    (fact_view c.atom_fact-first.result) (fact_view c.atom_fact-second.result) (fact_view c.bits.result) c.atom_fact-first.ensures c.atom_fact-second.ensures c.bits.ensures
