use Rattle.std.proofs.Common.{◌≡◌, ◌++◌, drop}
use Rattle.wasm_link_bind.proofs.Steps.{stepped_from}
use Rattle.wasm_link_bind.proofs.chains.stepped.Given as goal

abbrev pub invariant-loop-a : goal.invariant-loop-a
invariant-loop-a l = stepped_from 0 l.next ≡ l.table.items ++ stepped_from l.a (drop l.a l.next)
