use Rattle.std.proofs.Common.{arith}
use Rattle.std.proofs.lemmas.List.Elements.{All-more}
use Rattle.wat_laws_print.specs.Words.{AreLimits}
use Rattle.wasm_laws_words.proofs.Lists.{all_taken, each}
use Rattle.wasm_laws_words.proofs.limits.Goals as goal

pub loop-limits-preserved : goal.loop-limits-preserved
loop-limits-preserved c = All-more AreLimits c.args.list.now c.loop-limits.limits-index _ c.loop-limits-test.true c.loop-limits.invariant c.limits_of.ensures

pub returns : goal.returns
returns c = each AreLimits c.args.list.now (all_taken AreLimits c.args.list.now c.loop-limits.limits-index (omega arith) c.loop-limits.invariant)
