use Rattle.std.proofs.Common.{◌∙◌, ◌++◌, sym, ap, length, subst}
use Rattle.shared_bytes.specs.Chunks.{AreBelow}
use Rattle.shared_bytes.proofs.Joined.{more_below, below_behind, pushed_again}
use Rattle.shared_bytes.proofs.sharing.Sharing.push_again.Goals as goal

pub invariant_of-self : goal.invariant_of-self
invariant_of-self c =
    let s = c.self.inside in
    (more_below s.chunks.items _ c.hold.ensures.grown.more s.order.items c.hold.ensures.grown.behind c.self.invariant.0, c.hold.ensures.held)

pub invariant_of-self-in_err-push : goal.invariant_of-self-in_err-push
invariant_of-self-in_err-push c =
    let s = c.self.inside in (
      subst (AreBelow (length c.hold.new.chunks.items)) (sym c.in_err-push.ensures.items)
          (more_below s.chunks.items _ c.hold.ensures.grown.more s.order.items c.hold.ensures.grown.behind c.self.invariant.0),
      c.hold.ensures.held,
    )

pub invariant_of-self-2 : goal.invariant_of-self-2
invariant_of-self-2 c =
    let s = c.self.inside in (
      subst (AreBelow (length c.hold.new.chunks.items)) (sym c.in_ok-push.ensures.items)
          (below_behind (length c.hold.new.chunks.items) s.order.items _ c.in_ok-place.ensures.place.0
          (more_below s.chunks.items _ c.hold.ensures.grown.more s.order.items c.hold.ensures.grown.behind c.self.invariant.0)),
      c.hold.ensures.held,
    )

pub returns : goal.returns
returns c =
    let s = c.self.inside in
    pushed_again s.chunks.items _ c.hold.ensures.grown.more s.order.items _ c.args.bytes.now _ c.hold.ensures.grown.behind c.in_ok-push.ensures.items c.in_ok-place.ensures.place.1 c.self.invariant.0
    ∙ ap (λ l. l ++ c.args.bytes.now) c.self.view_is
