use Rattle.std.proofs.Common.{sym, subst}
use Rattle.asm_tree.specs.Views.{module_view, function_view}
use Rattle.asm2wasm.specs.Narrow.{IsNarrowFunction}
use Rattle.asm2wasm.proofs.Whole.{narrow_at}
use Rattle.asm2wasm.proofs.bodies.bodies.Goals as goal

pub body-requires : goal.body-requires
body-requires c =
    let m = module_view c.args.numbers.now in
    record {
      narrow = subst (λ f. IsNarrowFunction m c.args.heap (function_view f)) (sym c.function-item.is)
          (narrow_at m c.args.heap c.args.functions.now c.loop-function.function-index c.function-item.result c.loop-function-test.true c.requires.narrow);
    }
