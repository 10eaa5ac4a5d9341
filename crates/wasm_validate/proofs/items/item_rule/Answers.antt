use Rattle.wasm_validate.proofs.items.item_rule.Goals as goal

pub returns-in-Start : goal.returns-in-Start
returns-in-Start c = rw c.in-Start.is (c.start_item.ensures c.args.i)
