use Rattle.std.proofs.Common.{drop, ap, ◌∙◌}
use Rattle.wasm2js_operands.specs.Operands.{over}
use Rattle.wasm2js_operands.proofs.Lists.{drop_twice}
use Rattle.wasm2js_operands.proofs.operands.remove.Goals as goal

pub loop-turn-preserved : goal.loop-turn-preserved
loop-turn-preserved c = record {
  kept = record {
    below = c.pop.ensures.kept.below ∙ c.loop-turn.invariant.kept.below;
    there = c.pop.ensures.kept.there;
  };
  value =
      c.pop.ensures.value ∙ ap (λ ts. drop 1 ts) c.loop-turn.invariant.value
      ∙ drop_twice 1 c.loop-turn.turn (over c.args.base c.args.types.now.items);
}
