use Rattle.graph_reach.specs.Graph.{links_in}
use Rattle.graph_reach.specs.Marked.{weight}
use Rattle.graph_reach.proofs.Holding.{Holds}
use Rattle.graph_reach.proofs.reach.reached.Given as goal

abbrev pub invariant-loop-node : goal.invariant-loop-node
invariant-loop-node l = Holds (links_in l.links) l.first l.marks

abbrev pub decreases-loop-node : goal.decreases-loop-node
decreases-loop-node l = weight l.marks
