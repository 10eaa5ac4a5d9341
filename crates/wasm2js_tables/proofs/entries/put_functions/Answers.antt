use Rattle.std.proofs.Common.{get_or, ◌∙◌}
use Rattle.std.proofs.lemmas.List.{length-set}
use Rattle.std.proofs.lemmas.Option.{slice_get-get_or}
use Rattle.wasm2js_tables.proofs.Put.{one_put}
use Rattle.wasm2js_tables.proofs.entries.put_functions.Goals as goal

pub loop-i-preserved : goal.loop-i-preserved
loop-i-preserved c =
    let l = c.loop-i in
    let fs = c.args.functions.now in
    record {
      items = one_put c.args.at l.i fs (get_or fs l.i 0) c.args.entries.now.items l.entries.items (slice_get-get_or fs l.i 0 c.loop-i-test.true) c.loop-i-test.true c.requires l.invariant.items;
      long = length-set l.entries.items _ _ ∙ l.invariant.long;
    }
