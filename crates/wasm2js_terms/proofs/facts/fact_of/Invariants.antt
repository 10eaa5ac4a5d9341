use Rattle.std.proofs.Common.{◌≡◌, drop}
use Rattle.wasm2js_translation.specs.Known.{fact_of}
use Rattle.wasm2js_nodes.specs.Names.{name_view}
use Rattle.wasm2js_terms.specs.Facts.{knowns_view}
use Rattle.wasm2js_terms.proofs.facts.fact_of.Given as goal

abbrev pub invariant-loop-entry : goal.invariant-loop-entry
invariant-loop-entry l = fact_of (knowns_view l.known) (name_view l.name) ≡ fact_of (knowns_view (drop l.entry-index l.known)) (name_view l.name)
