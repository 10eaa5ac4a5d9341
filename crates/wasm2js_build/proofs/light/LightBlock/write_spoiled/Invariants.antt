use Rattle.std.proofs.Common.{◌≡◌, ◌++◌, drop}
use Rattle.wasm2js_translation.specs.Words.{simple_statements}
use Rattle.wasm2js_translation.specs.Delays.{written, those}
use Rattle.wasm2js_translation.specs.Known.{all_learned}
use Rattle.wasm2js_terms.specs.Waits.{delays_view}
use Rattle.wasm2js_terms.specs.Facts.{knowns_view}
use Rattle.wasm2js_build.specs.Blocks.{statements_of}
use Rattle.wasm2js_build.specs.Steps.{is_spoiled}
use Rattle.wasm2js_build.proofs.light.LightBlock.write_spoiled.Given as goal

abbrev pub invariant-loop-delayed : goal.invariant-loop-delayed
invariant-loop-delayed l =
    (statements_of l.self.1.0 ++ simple_statements (written (those (is_spoiled l.change) (delays_view (drop l.delayed-index l.fn.self.waits.items))))
    ≡ statements_of l.fn.self.block ++ simple_statements (written (those (is_spoiled l.change) (delays_view l.fn.self.waits.items))))
    × (all_learned (knowns_view l.self.1.1.1.0.items) (written (those (is_spoiled l.change) (delays_view (drop l.delayed-index l.fn.self.waits.items))))
    ≡ all_learned (knowns_view l.fn.self.known.items) (written (those (is_spoiled l.change) (delays_view l.fn.self.waits.items))))
