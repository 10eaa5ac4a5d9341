use Rattle.std.proofs.Common.{rules, ◌<◌, ◌≡◌, [], ◌∷◌, ◌++◌, false, replicate, length, refl, sym, ap, ◌∙◌, subst, arith}
use Rattle.graph_reach.specs.Graph.{links_in}
use Rattle.graph_reach.specs.Marked.{IsGrown, is_marked}
use Rattle.graph_reach.proofs.Holding.{begun, in_range, followed, all_marked, links_count, no_marks, marks_count, link_at}
use Rattle.graph_reach.proofs.reach.reached.Goals as goal

pub loop-node-init : goal.loop-node-init
loop-node-init c =
    let links = c.args.links.now in
    let same : c.in_ok-marked.marked.items ≡ replicate (length links) false = c.in_ok-marked.ensures.items_if_clones_equal (λ y h. h) in
    begun (links_in links) c.args.first.now _ c.add_all.new.self (ap length same ∙ marks_count (length links) ∙ sym (links_count links)) c.new-waiting.ensures.items (λ i. ap (λ bs. is_marked bs i) same ∙ no_marks (length links) i) c.in_ok-add_all.ensures

pub bounds-links-node : goal.bounds-links-node
bounds-links-node c =
    let links = c.args.links.now in
    let popped : c.loop-node.marks.waiting.items ≡ c.next.new.self.waiting.items ++ c.in-Some.node ∷ [] = search rules in
    let low = in_range (links_in links) c.args.first.now c.loop-node.marks c.next.new.self.waiting.items c.in-Some.node c.loop-node.invariant popped in
    let count = links_count links in
    omega arith

pub offset_bounds-links-node : goal.offset_bounds-links-node
offset_bounds-links-node c =
    let links = c.args.links.now in
    let popped : c.loop-node.marks.waiting.items ≡ c.next.new.self.waiting.items ++ c.in-Some.node ∷ [] = search rules in
    let inside = in_range (links_in links) c.args.first.now c.loop-node.marks c.next.new.self.waiting.items c.in-Some.node c.loop-node.invariant popped in
    let count = links_count links in
    let low : c.in-Some.node < length links = omega arith in
    search rules

pub loop-node-preserved : goal.loop-node-preserved
loop-node-preserved c =
    let links = c.args.links.now in
    let popped : c.loop-node.marks.waiting.items ≡ c.next.new.self.waiting.items ++ c.in-Some.node ∷ [] = search rules in
    let same : c.next.new.self.marked.items ≡ c.loop-node.marks.marked.items = search rules in
    let inside = in_range (links_in links) c.args.first.now c.loop-node.marks c.next.new.self.waiting.items c.in-Some.node c.loop-node.invariant popped in
    let count = links_count links in
    let low : c.in-Some.node < length links = omega arith in
    followed (links_in links) c.args.first.now c.loop-node.marks c.next.new.self c.add_all-in-Some.new.self c.in-Some.node c.loop-node.invariant popped same
    (subst (λ xs. IsGrown c.next.new.self c.add_all-in-Some.new.self xs) (c.as_slice.ensures ∙ link_at links c.in-Some.node c.index-links-node.result low c.index-links-node.is) c.in_ok-add_all-2.ensures)

pub returns-clause-complete : goal.returns-clause-complete
returns-clause-complete c = λ i h.
    let none : c.loop-node.marks.waiting.items ≡ [] = search rules in
    let same : c.next.new.self.marked.items ≡ c.loop-node.marks.marked.items = search rules in
    ap (λ bs. is_marked bs i) same ∙ all_marked (links_in c.args.links.now) c.args.first.now c.loop-node.marks c.loop-node.invariant none i h
