use Rattle.std.proofs.Common.{◌+◌, ◌++◌, map, drop, ap, ◌∙◌, arith}
use Rattle.asm_tree.specs.Views.{function_view}
use Rattle.name_slots.specs.Names.{names_in}
use Rattle.asm_run_names.specs.Names.{function_names}
use Rattle.asm_run_names.proofs.Declarations.{function_more, no_function, slots_are}
use Rattle.asm_run_names.proofs.names.function_slots.Goals as goal

pub loop-function-preserved : goal.loop-function-preserved
loop-function-preserved c =
    let one = function_more c.loop-function.names.items c.as_bytes.result c.args.functions.now c.loop-function.function-index c.function-item.result c.loop-function-test.true c.function-item.is c.as_bytes.ensures in
    ap (λ bs. names_in bs ++ function_names (map function_view (drop (c.loop-function.function-index + 1) c.args.functions.now))) c.in_ok-push.ensures.items ∙ one ∙ c.loop-function.invariant

pub returns : goal.returns
returns c = slots_are c.new.result _ _ (no_function (names_in c.loop-function.names.items) c.args.functions.now c.loop-function.function-index _ (omega arith) c.loop-function.invariant) c.new.ensures
