use Rattle.std.proofs.Common.{◌∙◌}
use Rattle.wasm_run.proofs.Hosts.{push_more}
use Rattle.wasm_run.proofs.session.push_all.Goals as goal

pub loop-word-preserved : goal.loop-word-preserved
loop-word-preserved c = record {
  values = push_more c.args.words.now c.loop-word.word-index _ c.push.new.self.values c.loop-word.operands.values c.args.operands.now.values c.loop-word-test.true c.in_ok-push.ensures.ok c.loop-word.invariant.values;
  below = c.push.ensures.below ∙ c.loop-word.invariant.below;
}
