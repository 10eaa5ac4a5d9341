use Rattle.std.proofs.Common.{◌≡◌, ap, ◌∙◌, length}
use Rattle.std.specs.Prelude.{slice_set, true}
use Rattle.std.proofs.lemmas.List.{get_or_default, length-set}
use Rattle.wasm_link_bind.proofs.Counting.{marked_more}
use Rattle.wasm_link_bind.proofs.rings.marks_of.Goals as goal

pub loop-place-preserved : goal.loop-place-preserved
loop-place-preserved c =
    let i = c.loop-place.invariant in
    let places = c.args.places.now in
    record {
      count = ap length c.mark.ensures ∙ length-set c.loop-place.marks.items _ true ∙ i.count;
      here = marked_more c.loop-place.marks.items _ places c.loop-place.place-index _ c.mark.ensures c.loop-place-test.true (get_or_default places c.loop-place.place-index 0 _ c.loop-place-test.true) i.count i.here;
    }
