use Rattle.std.proofs.Common.{◌≡◌, ◌++◌, drop}
use Rattle.wasm_binary_write.specs.Spelling.{items}
use Rattle.wasm_binary_write.proofs.spell.push_items.Given as goal

abbrev pub invariant-loop-item : goal.invariant-loop-item
invariant-loop-item g l = l.out.items ++ items g.T.Spell.spelling (drop l.item-index l.list) ≡ l.initial.out.items ++ items g.T.Spell.spelling l.list
