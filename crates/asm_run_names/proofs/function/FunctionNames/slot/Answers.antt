use Rattle.std.proofs.Common.{arith}
use Rattle.asm_tree.specs.Views.{function_view}
use Rattle.asm_run_names.proofs.Found.{slot_small}
use Rattle.asm_run_names.proofs.function.FunctionNames.slot.Goals as goal

pub overflow_cast-result : goal.overflow_cast-result
overflow_cast-result c =
    let small = slot_small (function_view c.self.inside.function.now) c.self.inside.slots c.self.inside.free c.as_bytes.result.now c.in-Some.slot c.self.invariant.slots_are c.self.invariant.free_is (omega arith) c.in-Some.ensures.place in
    omega (arith, small)
