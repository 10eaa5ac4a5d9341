use Rattle.std.proofs.Common.{◌∙◌, ◌<◌, ap, subst, arith, length, take, get_or, length-append}
use Rattle.shared_bytes.specs.Chunks.{chunk, joined}
use Rattle.shared_bytes.proofs.Joined.{place_below, indexed, joined_front}
use Rattle.shared_bytes.proofs.sharing.Sharing.length.Goals as goal

pub index-requires : goal.index-requires
index-requires c =
    let s = c.self.inside in
    place_below (length s.chunks.items) s.chunks.len s.order.items _ c.loop-place.place-index c.deref-place-items.ensures.value s.chunks.ok.0 c.loop-place-test.true c.self.invariant.0

pub loop-place-preserved : goal.loop-place-preserved
loop-place-preserved c =
    let cs = c.self.inside.chunks.items in
    let is = c.self.inside.order.items in
    let i = c.loop-place.place-index in
    let within = subst (λ l. i < length l) c.deref-place-items.ensures.value c.loop-place-test.true in
    let said = indexed cs is _ i c.index.result.now _ c.deref-place-items.ensures.value c.index.ensures c.loop-place-test.true c.self.invariant.0 in
    let count = c.len.ensures ∙ c.index.result.now.ok.0 ∙ ap length said in
    let more = ap length (joined_front cs is i 0 within) ∙ length-append (joined cs (take i is)) (chunk cs (get_or is i 0)) in
    let before = c.loop-place.invariant.value in
    record {
      value = omega arith;
      small = let b = c.loop-place.invariant.small in let l = c.len.type_inv in omega arith;
    }
