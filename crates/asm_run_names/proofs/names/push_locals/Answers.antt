use Rattle.std.proofs.Common.{◌+◌, ◌++◌, map, drop, ap, ◌∙◌, arith}
use Rattle.asm_tree.specs.Views.{local_view}
use Rattle.name_slots.specs.Names.{names_in}
use Rattle.asm_run_names.specs.Names.{variable_names}
use Rattle.asm_run_names.proofs.Declarations.{local_more, no_local}
use Rattle.asm_run_names.proofs.names.push_locals.Goals as goal

pub loop-local-preserved : goal.loop-local-preserved
loop-local-preserved c =
    let one = local_more c.loop-local.names.items c.as_bytes.result c.args.locals.now c.loop-local.local-index c.local-item.result c.loop-local-test.true c.local-item.is c.as_bytes.ensures in
    ap (λ bs. names_in bs ++ variable_names (map local_view (drop (c.loop-local.local-index + 1) c.args.locals.now))) c.in_ok-push.ensures.items ∙ one ∙ c.loop-local.invariant

pub returns : goal.returns
returns c = no_local (names_in c.loop-local.names.items) c.args.locals.now c.loop-local.local-index _ (omega arith) c.loop-local.invariant
