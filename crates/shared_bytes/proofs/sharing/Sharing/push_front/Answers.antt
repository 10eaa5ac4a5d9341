use Rattle.std.proofs.Common.{◌∙◌, ◌++◌, sym, ap, arith, length, [], ◌∷◌, subst, length-append}
use Rattle.shared_bytes.specs.Chunks.{AreBelow}
use Rattle.shared_bytes.proofs.Joined.{more_below, more_held, pushed_front}
use Rattle.shared_bytes.proofs.sharing.Sharing.push_front.Goals as goal

pub invariant_of-self-in_err-insert : goal.invariant_of-self-in_err-insert
invariant_of-self-in_err-insert c =
    let s = c.self.inside in
    let grown = c.in_ok-push.ensures.items in (
      subst (AreBelow (length c.push.new.self.items)) (sym c.in_err-insert.ensures.items) (more_below s.chunks.items _ (c.args.bytes ∷ []) s.order.items grown c.self.invariant.0),
      more_held s.chunks.items _ (c.args.bytes ∷ []) s.places grown c.self.invariant.1,
    )

pub invariant_of-self-2 : goal.invariant_of-self-2
invariant_of-self-2 c =
    let s = c.self.inside in
    let grown = c.in_ok-push.ensures.items in
    let last = c.len-place.ensures ∙ s.chunks.ok.0 in
    let longer = ap length grown ∙ length-append s.chunks.items (c.args.bytes ∷ []) in (
      subst (AreBelow (length c.push.new.self.items)) (sym c.in_ok-insert.ensures.items) (
        omega arith,
        more_below s.chunks.items _ (c.args.bytes ∷ []) s.order.items grown c.self.invariant.0,
      ),
      more_held s.chunks.items _ (c.args.bytes ∷ []) s.places grown c.self.invariant.1,
    )

pub returns : goal.returns
returns c =
    let s = c.self.inside in
    pushed_front s.chunks.items _ c.args.bytes s.order.items _ c.len-place.result c.in_ok-push.ensures.items c.in_ok-insert.ensures.items (c.len-place.ensures ∙ s.chunks.ok.0) c.self.invariant.0
    ∙ ap (λ l. c.args.bytes.items ++ l) c.self.view_is
