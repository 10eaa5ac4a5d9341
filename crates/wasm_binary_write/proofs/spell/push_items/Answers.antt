use Rattle.wasm_binary_write.proofs.Spelled.{items_step, items_end}
use Rattle.wasm_binary_write.proofs.spell.push_items.Goals as goal

pub loop-item-preserved : goal.loop-item-preserved
loop-item-preserved g c =
    items_step g.T.Spell.spelling c.loop-item.out.items _ _ c.args.list.now c.loop-item.item-index c.item-item.result c.loop-item-test.true c.item-item.is c.loop-item.invariant c.in_ok-push_to.ensures

pub returns : goal.returns
returns g c = items_end g.T.Spell.spelling c.loop-item.out.items _ c.args.list.now c.loop-item.item-index c.loop-item-test.false c.loop-item.invariant
