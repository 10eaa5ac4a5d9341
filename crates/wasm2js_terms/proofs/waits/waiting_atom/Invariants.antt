use Rattle.std.proofs.Common.{◌≡◌, drop}
use Rattle.wasm2js_translation.specs.Delays.{waiting}
use Rattle.wasm2js_nodes.specs.Names.{name_view}
use Rattle.wasm2js_terms.specs.Waits.{delays_view}
use Rattle.wasm2js_terms.proofs.waits.waiting_atom.Given as goal

abbrev pub invariant-loop-delayed : goal.invariant-loop-delayed
invariant-loop-delayed l = waiting (delays_view l.waits) (name_view l.name) ≡ waiting (delays_view (drop l.delayed-index l.waits)) (name_view l.name)
