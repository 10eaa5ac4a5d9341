use Rattle.std.proofs.Common.{take}
use Rattle.graph_reach.specs.Marked.{IsGrown}
use Rattle.graph_reach.proofs.marks.Marks.add_all.Given as goal

abbrev pub invariant-loop-node : goal.invariant-loop-node
invariant-loop-node l = IsGrown l.initial.self l.self (take l.node-index l.nodes)
