use Rattle.std.proofs.Common.{map, arith}
use Rattle.std.proofs.lemmas.List.{at_drop_all}
use Rattle.asm_tree.specs.Views.{function_view}
use Rattle.asm_lang_valid.specs.Rows.{functions_count}
use Rattle.asm_validate_nodes.proofs.counting.count_functions.Goals as goal

pub returns : goal.returns
returns c =
    let k = at_drop_all (λ l. functions_count (map function_view l)) c.args.functions.now c.loop-function.function-index (omega (arith, c.loop-function-test.false)) in
    let counted = c.loop-function.invariant.counted in
    let held = c.loop-function.invariant.held in
    (omega arith, omega arith)
