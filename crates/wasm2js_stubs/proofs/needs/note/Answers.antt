use Rattle.std.proofs.Common.{arith}
use Rattle.wasm2js_stubs.proofs.Noted.{noted_where, none_noted}
use Rattle.wasm2js_stubs.proofs.needs.note.Goals as goal

pub returns-then-place-len-clause-noted : goal.returns-then-place-len-clause-noted
returns-then-place-len-clause-noted c =
    let old = c.index-old.result.now in
    noted_where c.args.needs.now.items c.args.stub old c.args.more old c.joined.result (omega arith) c.index-old.ensures c.joined.ensures

pub returns-else-place-len-clause-noted : goal.returns-else-place-len-clause-noted
returns-else-place-len-clause-noted c = none_noted c.args.needs.now.items c.args.stub c.args.more (omega arith)
