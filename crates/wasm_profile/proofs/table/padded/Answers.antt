use Rattle.std.proofs.Common.{refl, sym, ap, ◌∙◌}
use Rattle.wasm_profile.proofs.Powers.{power_from, from_one, here, next, last}
use Rattle.wasm_profile.proofs.table.padded.Goals as goal

pub loop-turn-init : goal.loop-turn-init
loop-turn-init c = refl

pub loop-turn-preserved : goal.loop-turn-preserved
loop-turn-preserved c = c.loop-turn.invariant ∙ next c.loop-turn._turn c.loop-turn.power c.from-wanted.result c.loop-turn-test.true c.if-wanted-power.false

pub returns-then-wanted-power : goal.returns-then-wanted-power
returns-then-wanted-power c =
    sym (from_one c.args.length ∙ ap (power_from 32 1) (sym c.from-wanted.ensures) ∙ c.loop-turn.invariant ∙ here _ c.loop-turn.power c.from-wanted.result c.if-wanted-power.true)

pub returns : goal.returns
returns c =
    sym (from_one c.args.length ∙ ap (power_from 32 1) (sym c.from-wanted.ensures) ∙ c.loop-turn.invariant ∙ last c.loop-turn._turn c.loop-turn.power c.from-wanted.result c.loop-turn-test.false)
