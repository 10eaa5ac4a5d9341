use Rattle.std.proofs.Common.{get_or, refl, sym, ap, ◌∙◌, arith}
use Rattle.graph_reach.proofs.Grown.{one_added}
use Rattle.graph_reach.proofs.marks.Marks.add.Goals as goal

pub returns : goal.returns
returns c =
    let bits = c.args.self.now.marked in
    let long = bits.ok.0 in
    let less = c.if-node-len.false in
    let len = c.len.ensures in
    one_added _ _ c.args.node (omega arith) (sym (c.index.ensures ∙ ap (λ d. get_or bits.items c.args.node d) c.if-index.false) ∙ c.if-index.false) refl c.in_ok-push.ensures.items
