use Rattle.std.proofs.Common.{◌≡◌, ◌++◌, drop}
use Rattle.wasm2js_translation.specs.Words.{simple_statements}
use Rattle.wasm2js_translation.specs.Delays.{written}
use Rattle.wasm2js_build.specs.Blocks.{statements_of}
use Rattle.wasm2js_terms.specs.Waits.{delays_view}
use Rattle.wasm2js_build.proofs.straight.LateBlock.write_lights.Given as goal

abbrev pub invariant-loop-delayed : goal.invariant-loop-delayed
invariant-loop-delayed l =
    statements_of l.self.1.0 ++ simple_statements (written (delays_view (drop l.delayed-index l.fn.self.waits.items)))
    ≡ statements_of l.fn.self.block ++ simple_statements (written (delays_view l.fn.self.waits.items))
