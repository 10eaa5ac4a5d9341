use Rattle.std.proofs.Common.{◌++◌, [], ◌∷◌, take, subst, sym, ap, ◌∙◌}
use Rattle.std.proofs.lemmas.List.{take_more}
use Rattle.graph_reach.specs.Marked.{IsGrown}
use Rattle.graph_reach.proofs.Grown.{more_added}
use Rattle.graph_reach.proofs.marks.Marks.add_all.Goals as goal

pub loop-node-preserved : goal.loop-node-preserved
loop-node-preserved c =
    let l = c.loop-node in
    let nodes = c.args.nodes.now in
    let more = more_added c.args.self.now l.self c.add.new.self (take l.node-index nodes) _ l.invariant c.in_ok-add.ensures in
    subst (λ xs. IsGrown c.args.self.now c.add.new.self xs) (sym (take_more nodes l.node-index 0 c.loop-node-test.true)) more
