use Rattle.std.proofs.Common.{◌∙◌, ◌<◌, sym, ap, subst, arith, length}
use Rattle.bridge_io.specs.Outside.{appended}
use Rattle.shared_bytes.specs.Chunks.{joined}
use Rattle.shared_bytes.proofs.Joined.{place_below, indexed, joined_end}
use Rattle.shared_bytes.proofs.Putting.{put_more, cut_chunk, cut_rest, cut, on_err, if_err}
use Rattle.shared_bytes.proofs.bytes.SharedBytes.put.Goals as goal

pub index-requires : goal.index-requires
index-requires g c =
    let s = c.self.inside in
    place_below (length s.chunks.items) s.chunks.len s.order.items _ c.loop-place.place-index c.deref-place-items.ensures.value s.chunks.ok.0 c.loop-place-test.true c.self.invariant

pub returns-in_err-put_all-clause-front : goal.returns-in_err-put_all-clause-front
returns-in_err-put_all-clause-front g c =
    let s = c.self.inside in
    let i = c.loop-place.place-index in
    let within = subst (λ l. i < length l) c.deref-place-items.ensures.value c.loop-place-test.true in
    let said = c.deref.ensures.value ∙ indexed s.chunks.items s.order.items _ i c.index.result.now _ c.deref-place-items.ensures.value c.index.ensures c.loop-place-test.true c.self.invariant in
    on_err c.from_residual.result
    (cut_chunk s.chunks.items s.order.items c.deref.result.now s.rest.items _ i _ _ _ within (sym c.self.view_is) said c.loop-place.invariant.told (cut _ _ _ c.in_err-put_all.ensures.front))

pub loop-place-preserved : goal.loop-place-preserved
loop-place-preserved g c =
    let s = c.self.inside in
    let i = c.loop-place.place-index in
    let within = subst (λ l. i < length l) c.deref-place-items.ensures.value c.loop-place-test.true in
    let said = c.deref.ensures.value ∙ indexed s.chunks.items s.order.items _ i c.index.result.now _ c.deref-place-items.ensures.value c.index.ensures c.loop-place-test.true c.self.invariant in
    record {
      takes = c.in_ok-put_all.ensures.unlimited c.loop-place.invariant.takes;
      faults = let before = c.loop-place.invariant.faults in let now = c.in_ok-put_all.ensures.faults in omega arith;
      told = put_more s.chunks.items s.order.items c.deref.result.now i _ _ _ within said c.loop-place.invariant.told c.in_ok-put_all.ensures.all;
    }

pub returns-clause-front : goal.returns-clause-front
returns-clause-front g c =
    let s = c.self.inside in
    let whole = joined_end s.chunks.items s.order.items _ c.loop-place.place-index c.deref-place-items.ensures.value c.loop-place-test.false in
    if_err c.put_all-2.result
    (λ some. cut_rest (joined s.chunks.items s.order.items) s.rest.items c.deref-2.result.now _ _ _ _ (sym c.self.view_is) c.deref-2.ensures.value (c.loop-place.invariant.told ∙ ap (appended (g.S.Sink.told c.args.sink.now)) whole) (cut _ _ _ some))
    c.put_all-2.ensures.front
