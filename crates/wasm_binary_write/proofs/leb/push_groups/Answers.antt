use Rattle.std.proofs.Common.{arith}
use Rattle.wasm_binary_write.proofs.Groups.{groups_step, groups_end}
use Rattle.wasm_binary_write.proofs.leb.push_groups.Goals as goal

pub loop-rest-preserved : goal.loop-rest-preserved
loop-rest-preserved c =
    rw c.in_ok-push.ensures.items
    (groups_step c.loop-rest.out.items _ c.args.limit c.args.turned c.loop-rest.rest _ (omega arith) c.loop-rest-test.true c.group.ensures.value c.loop-rest.invariant)

pub returns : goal.returns
returns c = groups_end c.loop-rest.out.items _ _ c.args.limit c.args.turned c.loop-rest.rest _ c.loop-rest-test.false c.group-2.ensures.value c.loop-rest.invariant c.in_ok-push-2.ensures.items
