use Rattle.std.proofs.Common.{◌+◌, ◌++◌, map, drop, ap, ◌∙◌, arith}
use Rattle.asm_tree.specs.Views.{param_view}
use Rattle.name_slots.specs.Names.{names_in}
use Rattle.asm_run_names.specs.Names.{param_names}
use Rattle.asm_run_names.proofs.Declarations.{param_more, no_param}
use Rattle.asm_run_names.proofs.names.push_params.Goals as goal

pub loop-param-preserved : goal.loop-param-preserved
loop-param-preserved c =
    let one = param_more c.loop-param.names.items c.as_bytes.result c.args.params.now c.loop-param.param-index c.param-item.result c.loop-param-test.true c.param-item.is c.as_bytes.ensures in
    ap (λ bs. names_in bs ++ param_names (map param_view (drop (c.loop-param.param-index + 1) c.args.params.now))) c.in_ok-push.ensures.items ∙ one ∙ c.loop-param.invariant

pub returns : goal.returns
returns c = no_param (names_in c.loop-param.names.items) c.args.params.now c.loop-param.param-index _ (omega arith) c.loop-param.invariant
