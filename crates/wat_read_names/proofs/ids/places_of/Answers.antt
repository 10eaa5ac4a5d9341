use Rattle.std.proofs.Common.{◌-◌, ◌<◌, length, get_or, None, arith}
use Rattle.std.proofs.lemmas.List.{get_or_default}
use Rattle.wat_read_names.proofs.Places.{place_put, places_put}
use Rattle.wat_read_names.proofs.ids.places_of.Goals as goal

pub loop-i-preserved : goal.loop-i-preserved
loop-i-preserved c =
    let ns = c.args.names.now in
    let i = c.loop-i.i in
    let lt : i - 1 < length ns = omega arith in
    let b = get_or ns (i - 1) None in
    record {
      within = omega arith;
      put = λ n.
          place_put ns c.args.unnamed (i - 1) i _ b n _ _ (omega arith) c.in_ok-number_at.ensures lt (get_or_default ns (i - 1) None b lt) (c.in_ok-put.ensures n) (c.loop-i.invariant.put n);
    }

pub returns : goal.returns
returns c = λ n. places_put c.args.names.now c.args.unnamed c.loop-i.i n _ (omega arith) (c.loop-i.invariant.put n)
